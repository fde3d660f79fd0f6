-- `reading::call::ReadCall::due` meets its contract: the ask is that of the read that is due.
-- Assumes nothing.
use Rattle.reading.specs.Reading.{due_ask}
use Rattle.reading.proofs.call.ReadCall.due.Goals as goal

pub returns : goal.returns
unfolding due_ask
returns c = rw c.ask.ensures
