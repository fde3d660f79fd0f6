-- `reading::call::ReadCall::next` meets its contract.
-- Assumes nothing.
use Rattle.engine.proofs.Cases.{cases}
use Rattle.reading.specs.Reading.{next_of, work_after}
use Rattle.reading.proofs.call.ReadCall.next.Goals as goal

pub returns-in-Ended : goal.returns-in-Ended
unfolding next_of work_after
returns-in-Ended c = search cases

pub returns-then-fits : goal.returns-then-fits
unfolding next_of work_after
returns-then-fits c = search cases

pub returns-else-fits : goal.returns-else-fits
unfolding next_of work_after
returns-else-fits c = search cases
