-- `r5::mac_read` meets its contract: the plan is its own.
-- Assumes nothing.
use Rattle.r5.specs.Plans.{mac_read}
use Rattle.r5.proofs.mac_read.Goals as goal

pub returns : goal.returns
unfolding mac_read
returns c = c.mac.ensures
