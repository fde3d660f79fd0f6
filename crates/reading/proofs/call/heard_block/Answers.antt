-- `reading::call::heard_block` meets its contract.
-- Assumes nothing.
use Rattle.reading.specs.Reading.{verdict_of, heard_block}
use Rattle.reading.proofs.call.heard_block.Goals as goal

pub returns-in-Ok : goal.returns-in-Ok
unfolding heard_block verdict_of
returns-in-Ok c = rw (← c.hear.ensures, c.in-Ok.is)

pub returns-in-Err-WrongLength : goal.returns-in-Err-WrongLength
unfolding heard_block verdict_of
returns-in-Err-WrongLength c = rw (← c.hear.ensures, c.in-Err-WrongLength.is, c.in-Err-WrongLength.field-0-is)

pub returns-in-Err-WrongPec : goal.returns-in-Err-WrongPec
unfolding heard_block verdict_of
returns-in-Err-WrongPec c = rw (← c.hear.ensures, c.in-Err-WrongPec.is, c.in-Err-WrongPec.field-0-is)
