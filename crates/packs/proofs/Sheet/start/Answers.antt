-- `packs::Sheet::start` meets its contract: the fields are those of `start_sheet`.
-- Assumes nothing.
use Rattle.packs.specs.Count.{no_packs, start_of, start_sheet}
use Rattle.packs.proofs.Sheet.start.Goals as goal

pub returns : goal.returns
unfolding start_sheet start_of no_packs
returns c = rw c.between.ensures
