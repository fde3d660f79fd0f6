-- `packs::Reader::digit` meets its contract: the fields are those of `digit_of`.
-- Assumes nothing.
use Rattle.packs.specs.Count.{digit_of}
use Rattle.packs.proofs.Reader.digit.Goals as goal

pub returns : goal.returns
unfolding digit_of
returns c = cc
