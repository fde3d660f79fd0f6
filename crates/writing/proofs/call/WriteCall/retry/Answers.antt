-- `writing::call::WriteCall::retry` meets its contract: the fields are those of `retry_of`.
-- Assumes nothing.
use Rattle.writing.specs.Writing.{retry_of}
use Rattle.writing.proofs.call.WriteCall.retry.Goals as goal

pub returns : goal.returns
unfolding retry_of
returns c = rw c.wait.ensures
