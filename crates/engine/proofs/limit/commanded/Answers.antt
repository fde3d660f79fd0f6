-- `engine::limit::commanded` meets its contract: each return is a case of `commanded`.
-- Assumes nothing.
use Rattle.engine.proofs.Cases.{cases}
use Rattle.engine.specs.Limit.{commanded}
use Rattle.engine.proofs.limit.commanded.Goals as goal

pub returns-then-input-gt-LARGEST_CMD_SIZE_BYTES : goal.returns-then-input-gt-LARGEST_CMD_SIZE_BYTES
unfolding commanded
returns-then-input-gt-LARGEST_CMD_SIZE_BYTES c = search cases

pub returns-then-output-gt-LARGEST_CMD_SIZE_BYTES : goal.returns-then-output-gt-LARGEST_CMD_SIZE_BYTES
unfolding commanded
returns-then-output-gt-LARGEST_CMD_SIZE_BYTES c = search cases

pub returns-then-input-eq0 : goal.returns-then-input-eq0
unfolding commanded
returns-then-input-eq0 c = search cases

pub returns-else-input-eq0 : goal.returns-else-input-eq0
unfolding commanded
returns-else-input-eq0 c = search cases
