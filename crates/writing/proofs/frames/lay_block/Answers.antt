-- `writing::frames::lay_block` meets its contract: the frame of the block, at its own address.
-- Assumes nothing.
use Rattle.writing.specs.Frames.{block_bytes}
use Rattle.writing.proofs.frames.lay_block.Goals as goal

pub returns : goal.returns
unfolding block_bytes
returns c = rw (c.block-block.ensures, c.block_start-at.ensures) at c.lay_number.ensures
