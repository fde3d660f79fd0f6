-- `packs::Sheet::tick` meets its contract: the element is one more.
-- Assumes nothing.
use Rattle.packs.specs.Count.{one_more}
use Rattle.packs.proofs.Sheet.tick.Goals as goal

pub returns : goal.returns
unfolding one_more
returns c = cc
