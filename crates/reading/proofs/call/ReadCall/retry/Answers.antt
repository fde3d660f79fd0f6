-- `reading::call::ReadCall::retry` meets its contract: the fields are those of `retry_of`.
-- Assumes nothing.
use Rattle.reading.specs.Reading.{retry_of}
use Rattle.reading.proofs.call.ReadCall.retry.Goals as goal

pub returns : goal.returns
unfolding retry_of
returns c = rw (c.wait.ensures, c.some.ensures)
