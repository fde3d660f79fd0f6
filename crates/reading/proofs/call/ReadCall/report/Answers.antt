-- `reading::call::ReadCall::report` meets its contract: each arm is a case of `report_of`, and only a block changes the buffer.
-- Assumes nothing.
use Rattle.reading.proofs.Cases.{verdicts}
use Rattle.reading.specs.Reading.{report_of, buffer_after}
use Rattle.reading.proofs.call.ReadCall.report.Goals as goal

pub returns-in-Refused : goal.returns-in-Refused
unfolding report_of buffer_after
returns-in-Refused c = search verdicts

pub returns-in-Failed : goal.returns-in-Failed
unfolding report_of buffer_after
returns-in-Failed c = rw (← c.counted-counted.ensures) (search verdicts)

pub returns-in-Head : goal.returns-in-Head
unfolding report_of buffer_after
returns-in-Head c = rw (← c.counted-counted.ensures) (search verdicts)

pub returns-in-Block : goal.returns-in-Block
unfolding report_of buffer_after
returns-in-Block c = rw (← c.counted-counted.ensures) (search verdicts)
