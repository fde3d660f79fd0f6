-- `courses::course::admit` meets its contract: each return is a case of `admit_of`.
-- Assumes nothing.
use Rattle.engine.proofs.Cases.{cases}
use Rattle.courses.specs.Course.{admit_of}
use Rattle.courses.proofs.course.admit.Goals as goal

pub returns-then-flash-ne-FLASH_BYTES : goal.returns-then-flash-ne-FLASH_BYTES
unfolding admit_of
returns-then-flash-ne-FLASH_BYTES c = search cases

pub returns-then-not-sound : goal.returns-then-not-sound
unfolding admit_of
returns-then-not-sound c = search cases

pub returns : goal.returns
unfolding admit_of
returns c = search cases
