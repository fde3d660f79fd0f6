-- `reading::call::ReadCall::start` meets its contract.
-- Assumes nothing.
use Rattle.reading.specs.Reading.{start_of}
use Rattle.reading.proofs.call.ReadCall.start.Goals as goal

pub returns : goal.returns
unfolding start_of
returns c = rw (c.new.ensures, c.some.ensures, c.admit.ensures, c.first_address.ensures)
