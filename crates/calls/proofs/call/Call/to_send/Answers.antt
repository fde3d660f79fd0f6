-- `calls::call::Call::to_send` meets its contract: each engine's own.
-- Assumes nothing.
use Rattle.calls.specs.Call.{part_of}
use Rattle.calls.proofs.call.Call.to_send.Goals as goal

pub returns-in-Write : goal.returns-in-Write
unfolding part_of
returns-in-Write c = rw c.in-Write.is c.to_send.ensures

pub returns-in-Read : goal.returns-in-Read
unfolding part_of
returns-in-Read c = rw c.in-Read.is c.to_send-in-Read.ensures
