-- `printing::write` meets its contract: the head is the byte 00.
-- Assumes nothing.
use Rattle.printing.specs.Printing.{write_said}
use Rattle.printing.proofs.write.Goals as goal

pub returns : goal.returns
unfolding write_said
returns c = c.line.ensures
