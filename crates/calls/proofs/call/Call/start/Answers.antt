-- `calls::call::Call::start` meets its contract: by the kind's plan, the engine's own start.
-- Assumes nothing.
use mathlib.Core.Path.{sym}
use Rattle.calls.specs.Call.{start_with, start_of}
use Rattle.calls.proofs.call.Call.start.Goals as goal

pub returns-in-Write : goal.returns-in-Write
unfolding start_with start_of
returns-in-Write c = rw (sym c.plan.ensures, c.in-Write.is, c.start.ensures)

pub returns-in-Read : goal.returns-in-Read
unfolding start_with start_of
returns-in-Read c = rw (sym c.plan.ensures, c.in-Read.is, c.start-in-Read.ensures)
