-- `writing::call::WriteCall::counted` meets its contract: the fields are those of `counted_of`.
-- Assumes nothing.
use Rattle.writing.specs.Writing.{counted_of}
use Rattle.writing.proofs.call.WriteCall.counted.Goals as goal

pub returns : goal.returns
unfolding counted_of
returns c = rw c.transfer.ensures
