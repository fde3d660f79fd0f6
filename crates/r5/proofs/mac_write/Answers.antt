-- `r5::mac_write` meets its contract: the plan is its own.
-- Assumes nothing.
use Rattle.r5.specs.Plans.{mac_write}
use Rattle.r5.proofs.mac_write.Goals as goal

pub returns : goal.returns
unfolding mac_write
returns c = c.new.ensures
