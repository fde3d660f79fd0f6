-- `dialogue::hear` meets its contract: each arm is a case of `hear_of`.
-- Assumes nothing.
use mathlib.Core.Path.{refl}
use Rattle.dialogue.specs.Dialogue.{hear_by, hear_buffer_by, hear_of, hear_buffer}
use Rattle.dialogue.proofs.hear.Goals as goal

pub returns : goal.returns
unfolding hear_of hear_by hear_buffer hear_buffer_by
returns c =
    rw (← c.read.ensures, c.in-Some.is, ← c.rest.ensures) c.report.ensures

pub returns-in_default : goal.returns-in_default
unfolding hear_of hear_by hear_buffer hear_buffer_by
returns-in_default c = rw (← c.read.ensures, c.in_default.is) (refl, refl)
