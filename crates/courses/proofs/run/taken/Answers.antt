-- `courses::run::taken` meets its contract: either way the call is handed back.
-- Assumes nothing.
use Rattle.courses.specs.Run.{taken_of}
use Rattle.courses.proofs.run.taken.Goals as goal

pub returns-in-Err : goal.returns-in-Err
unfolding taken_of
returns-in-Err c = rw (c.in-Err.is, c.in-Err.same-is)

pub returns-in-Ok : goal.returns-in-Ok
unfolding taken_of
returns-in-Ok c = rw (c.in-Ok.is, c.in-Ok.call-is)
