-- `reading::call::ReadCall::acknowledged` meets its contract: each return is a case of `acknowledged_of`.
-- Assumes nothing.
use Rattle.engine.proofs.Cases.{cases}
use Rattle.reading.specs.Reading.{acknowledged_of}
use Rattle.reading.proofs.call.ReadCall.acknowledged.Goals as goal

pub returns-then-self : goal.returns-then-self
unfolding acknowledged_of
returns-then-self c = search cases

pub returns-else-self : goal.returns-else-self
unfolding acknowledged_of
returns-else-self c =
    let e = rw c.due.ensures at c.heard_block.ensures in
    search cases
