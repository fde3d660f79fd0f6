-- `interface::write_register` meets its contract: the plan is its own.
-- Assumes nothing.
use Rattle.interface.specs.Plans.{write_register}
use Rattle.interface.proofs.write_register.Goals as goal

pub returns : goal.returns
unfolding write_register
returns c = c.new.ensures
