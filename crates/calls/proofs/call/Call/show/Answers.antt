-- `calls::call::Call::show` meets its contract: each engine's own.
-- Assumes nothing.
use Rattle.calls.specs.Call.{next_of, work_after}
use Rattle.calls.proofs.call.Call.show.Goals as goal

pub returns-in-Write : goal.returns-in-Write
unfolding next_of work_after
returns-in-Write c = rw c.in-Write.is c.next.ensures

pub returns-in-Read : goal.returns-in-Read
unfolding next_of work_after
returns-in-Read c = rw c.in-Read.is c.next-in-Read.ensures
