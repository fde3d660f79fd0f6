-- `r5::whole` meets its contract: each return is a case of `whole_ask`.
-- Assumes nothing.
use Rattle.engine.proofs.Cases.{cases}
use Rattle.r5.specs.Plans.{whole_ask}
use Rattle.r5.proofs.whole.Goals as goal

pub returns-then-pec_read : goal.returns-then-pec_read
unfolding whole_ask
returns-then-pec_read c = search cases

pub returns-else-pec_read : goal.returns-else-pec_read
unfolding whole_ask
returns-else-pec_read c = search cases
