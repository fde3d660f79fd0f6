-- `engine::budget::wait_after` meets its contract: each arm is the case of `wait_of` at its number.
-- Assumes nothing.
use Rattle.engine.proofs.Cases.{cases}
use Rattle.protocol.specs.Pick.{when◌then◌else◌}
use Rattle.engine.specs.Budget.{wait_of}
use Rattle.engine.proofs.budget.wait_after.Goals as goal

pub returns-in-0 : goal.returns-in-0
unfolding wait_of
returns-in-0 c = search cases

pub returns-in-1 : goal.returns-in-1
unfolding wait_of when◌then◌else◌
returns-in-1 c = rw (c.if-growing.true, c.in-1.is)

pub returns-in-2 : goal.returns-in-2
unfolding wait_of when◌then◌else◌
returns-in-2 c = rw (c.if-growing.true, c.in-2.is)

pub returns-in_default : goal.returns-in_default
unfolding wait_of
returns-in_default c = search cases

pub returns-else-growing : goal.returns-else-growing
unfolding wait_of
returns-else-growing c = search cases
