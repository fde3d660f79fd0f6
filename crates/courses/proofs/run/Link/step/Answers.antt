-- `courses::run::Link::step` meets its contract: each arm is a case of `step_of`.
-- Assumes nothing.
use mathlib.Core.Logic.{⊎_elim}
use Rattle.courses.specs.Run.{step_of}
use Rattle.courses.proofs.Cases.{at_write, at_read, at_refused, at_ended}
use Rattle.courses.proofs.run.Link.step.Goals as goal

pub returns-in-Write : goal.returns-in-Write
unfolding step_of
returns-in-Write c = at_write _ _ _ _ _ _ _ c.next.ensures.1 c.in-Write.is (rw (← c.next.ensures.2) c.send.ensures)

pub returns-in-Read : goal.returns-in-Read
unfolding step_of
returns-in-Read c = at_read _ _ _ _ _ _ _ _ c.next.ensures.1 c.in-Read.is (rw (← c.next.ensures.2) c.ask.ensures)

pub returns-in-Refused : goal.returns-in-Refused
unfolding step_of
returns-in-Refused c =
    ⊎_elim (λ p. at_refused _ _ _ _ _ _ _ c.next.ensures.1 p.1 (rw c.next.ensures.2)) (λ p. at_ended _ _ _ _ _ _ _ c.next.ensures.1 p.1 (rw c.next.ensures.2))
    c.in-Refused.is
