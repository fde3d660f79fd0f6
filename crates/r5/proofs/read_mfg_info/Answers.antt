-- `r5::read_mfg_info` meets its contract: the plan is its own.
-- Assumes nothing.
use Rattle.r5.specs.Plans.{read_mfg_info}
use Rattle.r5.proofs.read_mfg_info.Goals as goal

pub returns : goal.returns
unfolding read_mfg_info
returns c = rw (c.plain.ensures, c.whole-asked.ensures) at c.plain-2.ensures
