-- `writing::call::WriteCall::end` meets its contract: the fields are those of `end_of`.
-- Assumes nothing.
use Rattle.writing.specs.Writing.{end_of}
use Rattle.writing.proofs.call.WriteCall.end.Goals as goal

pub returns : goal.returns
unfolding end_of
returns c = rw c.gave_up.ensures
