-- `writing::call::WriteCall::start` meets its contract.
-- Assumes nothing.
use Rattle.writing.specs.Writing.{start_of}
use Rattle.writing.proofs.call.WriteCall.start.Goals as goal

pub returns : goal.returns
unfolding start_of
returns c = rw (c.new.ensures, c.admit.ensures, c.first_address.ensures)
