-- `reading::call::ReadCall::advance` meets its contract.
-- Assumes nothing.
use Rattle.reading.specs.Reading.{advance_of}
use Rattle.reading.proofs.call.ReadCall.advance.Goals as goal

pub returns : goal.returns
unfolding advance_of
returns c = rw (c.after.ensures, c.saturating_add-received.ensures)
