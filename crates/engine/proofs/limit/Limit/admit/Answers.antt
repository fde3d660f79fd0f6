-- `engine::limit::Limit::admit` meets its contract: the work buffer first, then the length.
-- Assumes nothing.
use Rattle.engine.proofs.Cases.{cases}
use Rattle.engine.specs.Limit.{admitted}
use Rattle.engine.proofs.limit.Limit.admit.Goals as goal

pub returns-then-work-lt-LEAST_WORK_BUFFER : goal.returns-then-work-lt-LEAST_WORK_BUFFER
unfolding admitted
returns-then-work-lt-LEAST_WORK_BUFFER c = search cases

pub returns-else-work-lt-LEAST_WORK_BUFFER : goal.returns-else-work-lt-LEAST_WORK_BUFFER
unfolding admitted
returns-else-work-lt-LEAST_WORK_BUFFER c = search cases
