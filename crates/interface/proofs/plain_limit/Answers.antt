-- `interface::plain_limit` meets its contract: each return is a case of `plain_limit`.
-- Assumes nothing.
use Rattle.engine.proofs.Cases.{cases}
use Rattle.interface.specs.Plans.{plain_limit}
use Rattle.interface.proofs.plain_limit.Goals as goal

pub returns-then-pec_write : goal.returns-then-pec_write
unfolding plain_limit
returns-then-pec_write c = search cases

pub returns-else-pec_write : goal.returns-else-pec_write
unfolding plain_limit
returns-else-pec_write c = search cases
