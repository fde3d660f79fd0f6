-- `dialogue::begin` meets its contract: each arm begins what the line asks for.
-- Assumes nothing.
use mathlib.Core.Path.{refl}
use Rattle.dialogue.specs.Dialogue.{begin_by, fill_by, begin_of, begin_buffer}
use Rattle.dialogue.proofs.begin.Goals as goal

pub returns-in-Ok : goal.returns-in-Ok
unfolding begin_of begin_buffer begin_by fill_by
returns-in-Ok c = rw (← c.read.ensures, c.in-Ok.is) c.«open».ensures

pub returns-in-Err : goal.returns-in-Err
unfolding begin_of begin_buffer begin_by fill_by
returns-in-Err c =
    let e = c.refuse.ensures in
    rw (← c.read.ensures, c.in-Err.is) (e.0, refl, e.1)
