-- `reading::call::ReadCall::store` meets its contract: the data goes where the blocks end.
-- Assumes nothing.
use Rattle.reading.specs.Reading.{stored_of}
use Rattle.reading.proofs.call.ReadCall.store.Goals as goal

pub returns : goal.returns
unfolding stored_of
returns c = rw (c.most.ensures, c.data_of.ensures, c.block_start-at.ensures, c.due.ensures) at c.store_block.ensures
