-- `calls::call::Call::phase` meets its contract: each engine's own.
-- Assumes nothing.
use Rattle.calls.specs.Call.{phase_of}
use Rattle.calls.proofs.call.Call.phase.Goals as goal

pub returns-in-Write : goal.returns-in-Write
unfolding phase_of
returns-in-Write c = rw c.in-Write.is

pub returns-in-Read : goal.returns-in-Read
unfolding phase_of
returns-in-Read c = rw c.in-Read.is
