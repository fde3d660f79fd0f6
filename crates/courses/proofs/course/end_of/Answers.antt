-- `courses::course::end_of` meets its contract: each return is a case of `end_of`.
-- Assumes nothing.
use Rattle.engine.proofs.Cases.{cases}
use Rattle.courses.specs.Course.{end_of}
use Rattle.courses.proofs.course.end_of.Goals as goal

pub returns-in-Ended : goal.returns-in-Ended
unfolding end_of
returns-in-Ended c = search cases

pub returns-in-Waiting : goal.returns-in-Waiting
unfolding end_of
returns-in-Waiting c = search cases

pub returns-in-Waiting-2 : goal.returns-in-Waiting-2
unfolding end_of
returns-in-Waiting-2 c = search cases
