-- `session::Desk::written` meets its contract: the session alone moves.
-- Assumes nothing.
use native.Mathlib.Omega.{arith}
use Rattle.session.specs.Loop.{desk_at}
use Rattle.session.proofs.Desk.written.Goals as goal

pub returns : goal.returns
unfolding desk_at
returns c = (cc, record { held = omega arith; request = omega arith; outcome = omega arith; buffer = omega arith; out = omega arith })
