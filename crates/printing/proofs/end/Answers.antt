-- `printing::end` meets its contract: the head is FF, the answer, the waits and how long they were.
-- Assumes nothing.
use Rattle.printing.specs.Printing.{quad_of, end_said}
use Rattle.protocol.specs.Frame.{pair_of}
use Rattle.printing.proofs.end.Goals as goal

pub returns : goal.returns
unfolding end_said pair_of quad_of
returns c =
    let l = c.line.ensures in
    rw (← c.number.ensures, ← c.detail.ensures) (rw (c.to_le_bytes-ms.ensures, c.to_le_bytes-waits.ensures, c.to_le_bytes-detail.ensures) at l)
