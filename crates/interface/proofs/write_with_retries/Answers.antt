-- `interface::write_with_retries` meets its contract: the plan is its own.
-- Assumes nothing.
use Rattle.interface.specs.Plans.{write_with_retries}
use Rattle.interface.proofs.write_with_retries.Goals as goal

pub returns : goal.returns
unfolding write_with_retries
returns c = rw c.plain_limit.ensures at c.new.ensures
