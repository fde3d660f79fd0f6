-- `writing::call::gave_up` meets its contract.
-- Assumes nothing.
use Rattle.engine.proofs.Cases.{cases}
use Rattle.writing.specs.Writing.{gave_up}
use Rattle.writing.proofs.call.gave_up.Goals.{else-flash-via-then-flash+else-sent-ne0, else-flash-via-else-flash}
use Rattle.writing.proofs.call.gave_up.Goals as goal

pub returns-then-sent-ne0 : goal.returns-then-sent-ne0
unfolding gave_up
returns-then-sent-ne0 c = search cases

pub returns-else-flash : goal.returns-else-flash
unfolding gave_up
returns-else-flash c = elim c.else-flash.branch [ else-flash-via-then-flash+else-sent-ne0 w ↦ search cases | else-flash-via-else-flash w ↦ search cases ]
