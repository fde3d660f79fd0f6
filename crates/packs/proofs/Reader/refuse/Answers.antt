-- `packs::Reader::refuse` meets its contract: the fields are those of `refused_of`.
-- Assumes nothing.
use Rattle.packs.specs.Count.{refused_of}
use Rattle.packs.proofs.Reader.refuse.Goals as goal

pub returns : goal.returns
unfolding refused_of
returns c = cc
