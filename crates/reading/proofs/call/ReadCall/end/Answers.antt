-- `reading::call::ReadCall::end` meets its contract: the fields are those of `end_of`.
-- Assumes nothing.
use mathlib.Core.Path.{refl}
use Rattle.reading.specs.Reading.{end_of}
use Rattle.reading.proofs.call.ReadCall.end.Goals as goal

pub returns : goal.returns
unfolding end_of
returns c = refl
