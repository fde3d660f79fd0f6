-- `interface::read_register` meets its contract: the plan is its own.
-- Assumes nothing.
use Rattle.interface.specs.Plans.{read_register}
use Rattle.interface.proofs.read_register.Goals as goal

pub returns : goal.returns
unfolding read_register
returns c = rw c.plain.ensures at c.plain-2.ensures
