-- `interface::write_buffer` meets its contract: the plan is its own.
-- Assumes nothing.
use Rattle.interface.specs.Plans.{write_buffer}
use Rattle.interface.proofs.write_buffer.Goals as goal

pub returns : goal.returns
unfolding write_buffer
returns c = c.new.ensures
