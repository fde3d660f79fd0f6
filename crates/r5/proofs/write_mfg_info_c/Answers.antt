-- `r5::write_mfg_info_c` meets its contract: the plan is its own.
-- Assumes nothing.
use Rattle.r5.specs.Plans.{write_mfg_info_c}
use Rattle.r5.proofs.write_mfg_info_c.Goals as goal

pub returns : goal.returns
unfolding write_mfg_info_c
returns c = c.new.ensures
