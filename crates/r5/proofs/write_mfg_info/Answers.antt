-- `r5::write_mfg_info` meets its contract: the plan is its own.
-- Assumes nothing.
use Rattle.r5.specs.Plans.{write_mfg_info}
use Rattle.r5.proofs.write_mfg_info.Goals as goal

pub returns : goal.returns
unfolding write_mfg_info
returns c = c.new.ensures
