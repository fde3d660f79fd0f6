-- `reading::call::ReadCall::headed` meets its contract.
-- Assumes nothing.
use Rattle.reading.specs.Reading.{headed_of}
use Rattle.reading.proofs.call.ReadCall.headed.Goals as goal

pub returns : goal.returns
unfolding headed_of
returns c = rw c.after.ensures
