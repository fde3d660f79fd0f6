-- `packs::Count::add_unread` meets its contract: one more is counted, and the rest stays.
-- Assumes nothing.
use Rattle.packs.specs.Count.{add_unread}
use Rattle.packs.proofs.Count.add_unread.Goals as goal

pub returns : goal.returns
unfolding add_unread
returns c = cc
