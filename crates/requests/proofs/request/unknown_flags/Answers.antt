-- `requests::request::unknown_flags` meets its contract: its test is that of `unknown_flags`.
-- Assumes nothing.
use mathlib.Core.Path.{refl}
use Rattle.requests.specs.Request.{unknown_flags}
use Rattle.requests.proofs.request.unknown_flags.Goals as goal

pub returns : goal.returns
unfolding unknown_flags
returns c = refl
