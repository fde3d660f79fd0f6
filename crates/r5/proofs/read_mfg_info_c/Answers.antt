-- `r5::read_mfg_info_c` meets its contract: the plan is its own.
-- Assumes nothing.
use Rattle.r5.specs.Plans.{read_mfg_info_c}
use Rattle.r5.proofs.read_mfg_info_c.Goals as goal

pub returns : goal.returns
unfolding read_mfg_info_c
returns c = rw c.whole.ensures at c.mac.ensures
