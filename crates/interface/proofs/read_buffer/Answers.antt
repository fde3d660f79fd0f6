-- `interface::read_buffer` meets its contract: the plan is its own.
-- Assumes nothing.
use Rattle.interface.specs.Plans.{read_buffer}
use Rattle.interface.proofs.read_buffer.Goals as goal

pub returns : goal.returns
unfolding read_buffer
returns c = rw c.plain.ensures at c.plain-2.ensures
