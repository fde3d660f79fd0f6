-- `writing::call::WriteCall::report` meets its contract.
-- Assumes nothing.
use Rattle.engine.proofs.Cases.{cases}
use Rattle.writing.specs.Writing.{report_of}
use Rattle.writing.proofs.call.WriteCall.report.Goals as goal

pub returns-in-Ended : goal.returns-in-Ended
unfolding report_of
returns-in-Ended c = search cases

pub returns-then-not-fits : goal.returns-then-not-fits
unfolding report_of
returns-then-not-fits c = search cases

pub returns-then-replied : goal.returns-then-replied
unfolding report_of
returns-then-replied c = search cases

pub returns : goal.returns
unfolding report_of
returns c = rw (← c.counted.ensures) (search cases)
