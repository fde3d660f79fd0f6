-- `reading::call::ReadCall::counted` meets its contract: the fields are those of `counted_of`.
-- Assumes nothing.
use Rattle.reading.specs.Reading.{counted_of}
use Rattle.reading.proofs.call.ReadCall.counted.Goals as goal

pub returns : goal.returns
unfolding counted_of
returns c = rw c.transfer.ensures
