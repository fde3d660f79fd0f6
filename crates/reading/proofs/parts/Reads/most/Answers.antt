-- `reading::parts::Reads::most` meets its contract: each variant has its own case.
-- Assumes nothing.
use Rattle.reading.specs.Parts.{most_of}
use Rattle.reading.proofs.parts.Reads.most.Goals as goal

pub returns-in-Nothing : goal.returns-in-Nothing
unfolding most_of
returns-in-Nothing c = rw c.in-Nothing.is

pub returns-in-Once : goal.returns-in-Once
unfolding most_of
returns-in-Once c = rw c.in-Once.is

pub returns-in-Blocks : goal.returns-in-Blocks
unfolding most_of
returns-in-Blocks c = rw c.in-Blocks.is
