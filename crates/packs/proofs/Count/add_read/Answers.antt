-- `packs::Count::add_read` meets its contract: each figure is moved by one pack.
-- Assumes nothing.
use Rattle.packs.specs.Count.{add_read}
use Rattle.packs.proofs.Count.add_read.Goals as goal

pub returns : goal.returns
unfolding add_read
returns c = cc
