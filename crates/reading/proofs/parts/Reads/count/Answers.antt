-- `reading::parts::Reads::count` meets its contract: each variant has its own case.
-- Assumes nothing.
use Rattle.reading.specs.Parts.{read_count}
use Rattle.reading.proofs.parts.Reads.count.Goals as goal

pub returns-in-Nothing : goal.returns-in-Nothing
unfolding read_count
returns-in-Nothing c = rw c.in-Nothing.is

pub returns-in-Once : goal.returns-in-Once
unfolding read_count
returns-in-Once c = rw c.in-Once.is

pub returns-in-Blocks : goal.returns-in-Blocks
unfolding read_count
returns-in-Blocks c = rw c.in-Blocks.is c.blocks-in-Blocks.ensures
