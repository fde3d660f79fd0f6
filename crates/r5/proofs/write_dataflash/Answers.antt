-- `r5::write_dataflash` meets its contract: the plan is its own.
-- Assumes nothing.
use Rattle.r5.specs.Plans.{write_dataflash}
use Rattle.r5.proofs.write_dataflash.Goals as goal

pub returns : goal.returns
unfolding write_dataflash
returns c = c.new.ensures
