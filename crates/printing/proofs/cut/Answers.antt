-- `printing::cut` meets its contract: the head is FE, the waits and how long they were.
-- Assumes nothing.
use Rattle.printing.specs.Printing.{quad_of, cut_said}
use Rattle.printing.proofs.cut.Goals as goal

pub returns : goal.returns
unfolding cut_said quad_of
returns c =
    let l = c.line.ensures in
    rw (c.to_le_bytes-ms.ensures, c.to_le_bytes-waits.ensures) at l
