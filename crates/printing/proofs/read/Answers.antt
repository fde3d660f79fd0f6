-- `printing::read` meets its contract: the head is 01, the command and the count.
-- Assumes nothing.
use Rattle.protocol.specs.Frame.{pair_of}
use Rattle.printing.specs.Printing.{read_said}
use Rattle.printing.proofs.read.Goals as goal

pub returns : goal.returns
unfolding read_said pair_of
returns c =
    let l = c.line.ensures in
    rw c.to_le_bytes-count.ensures at l
