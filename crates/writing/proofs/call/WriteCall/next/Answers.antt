-- `writing::call::WriteCall::next` meets its contract.
-- Assumes nothing.
use Rattle.engine.proofs.Cases.{cases}
use Rattle.writing.specs.Writing.{next_of, work_after}
use Rattle.writing.proofs.call.WriteCall.next.Goals as goal

pub returns-in-Ended : goal.returns-in-Ended
unfolding next_of work_after
returns-in-Ended c = search cases

pub returns-then-not-fits : goal.returns-then-not-fits
unfolding next_of work_after
returns-then-not-fits c = search cases

pub returns-then-own_bytes : goal.returns-then-own_bytes
unfolding next_of work_after
returns-then-own_bytes c = search cases

pub returns-else-own_bytes : goal.returns-else-own_bytes
unfolding next_of work_after
returns-else-own_bytes c = search cases
