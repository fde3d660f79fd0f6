-- `courses::run::Link::run` meets its contract: refused, or what the drive leaves.
-- Assumes nothing.
use Rattle.courses.proofs.Cases.{run_refused, run_admitted}
use Rattle.courses.specs.Run.{leaves_of, run_of}
use Rattle.courses.proofs.run.Link.run.Goals as goal

pub returns-in-Err : goal.returns-in-Err
unfolding run_of
returns-in-Err c = run_refused _ _ _ _ _ _ c.admit.ensures c.in-Err.is (rw c.refused.ensures)

pub returns-in-Ok : goal.returns-in-Ok
unfolding run_of leaves_of
returns-in-Ok c = run_admitted _ _ _ _ _ c.admit.ensures c.in-Ok.is (rw (← c.drive-link.ensures, c.ended.ensures))
