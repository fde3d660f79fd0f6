-- `protocol::bytes::copy_block` meets its contract: what is copied is the least of the three lengths.
-- Assumes nothing.
use Rattle.protocol.specs.Bytes.{block_in}
use Rattle.protocol.proofs.bytes.copy_block.Goals as goal

pub returns : goal.returns
unfolding block_in
returns c = rw (c.front.ensures, c.min-n.ensures, c.min.ensures) at c.copy.ensures
