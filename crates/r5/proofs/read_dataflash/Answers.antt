-- `r5::read_dataflash` meets its contract: the plan is its own.
-- Assumes nothing.
use Rattle.r5.specs.Plans.{read_dataflash}
use Rattle.r5.proofs.read_dataflash.Goals as goal

pub returns : goal.returns
unfolding read_dataflash
returns c = c.new.ensures
