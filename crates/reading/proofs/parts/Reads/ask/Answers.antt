-- `reading::parts::Reads::ask` meets its contract: each variant has its own case.
-- Assumes nothing.
use Rattle.reading.specs.Parts.{ask_of}
use Rattle.reading.proofs.parts.Reads.ask.Goals as goal

pub returns-in-Nothing : goal.returns-in-Nothing
unfolding ask_of
returns-in-Nothing c = rw c.in-Nothing.is c.mac.ensures

pub returns-in-Once : goal.returns-in-Once
unfolding ask_of
returns-in-Once c = rw c.in-Once.is

pub returns-in-Blocks : goal.returns-in-Blocks
unfolding ask_of
returns-in-Blocks c = rw c.in-Blocks.is (rw c.left.ensures at c.block_ask.ensures)
