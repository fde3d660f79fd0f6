-- `packs::Reader::between` meets its contract: the fields are those of `between_of`.
-- Assumes nothing.
use Rattle.packs.specs.Count.{between_of}
use Rattle.packs.proofs.Reader.between.Goals as goal

pub returns : goal.returns
unfolding between_of
returns c = cc
