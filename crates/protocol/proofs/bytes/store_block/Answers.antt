-- `protocol::bytes::store_block` meets its contract: the part that was lent comes back with the block in its front.
-- Assumes nothing.
use Rattle.protocol.proofs.Cases.{cases, is_true}
use Rattle.protocol.proofs.Laws.{lent_back}
use Rattle.protocol.specs.Bytes.{block_in, stored_at}
use borrow.Author.Tests.{le-leb}
use Rattle.protocol.proofs.bytes.store_block.Goals as goal

pub returns-then-at-buf : goal.returns-then-at-buf
unfolding stored_at
returns-then-at-buf c =
    let a = c.args in
    is_true _ _ _ _ (le-leb _ _ c.if-at-buf.true)
    (lent_back (block_in a.most a.block.now) a.at a.buf.now c.copy_block.new.buf c.copy_block.ensures)

pub returns-else-at-buf : goal.returns-else-at-buf
unfolding stored_at
returns-else-at-buf c = search cases
