-- `reading::call::ReadCall::show` meets its contract: the head or the read, as the state says.
-- Assumes nothing.
use mathlib.Core.Path.{refl}
use Rattle.engine.proofs.Cases.{cases}
use Rattle.protocol.proofs.Cases.{is_false}
use Rattle.reading.specs.Reading.{shown_of, work_shown}
use Rattle.reading.proofs.call.ReadCall.show.Goals as goal

pub returns-then-self : goal.returns-then-self
unfolding shown_of work_shown
returns-then-self c = search cases

pub returns-else-self : goal.returns-else-self
unfolding shown_of work_shown
returns-else-self c = (is_false _ _ _ _ c.if-self.false (rw (c.count.ensures, c.due-ask.ensures)), is_false _ _ _ _ c.if-self.false refl)
