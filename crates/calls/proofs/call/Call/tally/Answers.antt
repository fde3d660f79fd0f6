-- `calls::call::Call::tally` meets its contract: each engine's own.
-- Assumes nothing.
use Rattle.calls.specs.Call.{tally_of}
use Rattle.calls.proofs.call.Call.tally.Goals as goal

pub returns-in-Write : goal.returns-in-Write
unfolding tally_of
returns-in-Write c = rw c.in-Write.is

pub returns-in-Read : goal.returns-in-Read
unfolding tally_of
returns-in-Read c = rw c.in-Read.is
