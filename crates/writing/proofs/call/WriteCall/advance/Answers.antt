-- `writing::call::WriteCall::advance` meets its contract.
-- Assumes nothing.
use Rattle.writing.specs.Writing.{advance_of}
use Rattle.writing.proofs.call.WriteCall.advance.Goals as goal

pub returns : goal.returns
unfolding advance_of
returns c = rw (c.after.ensures, c.count.ensures, c.saturating_add-sent.ensures)
