-- `packs::Sheet::count` meets its contract: each arm is a case of `counted_of`.
-- Assumes nothing.
use mathlib.Core.Path.{ap}
use Rattle.packs.proofs.Cases.{cases}
use Rattle.packs.proofs.Laws.{sheets}
use Rattle.packs.specs.declared.Sheet.{Sheet}
use Rattle.packs.specs.Count.{counted_of}
use Rattle.packs.proofs.Sheet.count.Goals as goal

pub returns-then-seen-ge-MOST_PACKS : goal.returns-then-seen-ge-MOST_PACKS
unfolding counted_of
returns-then-seen-ge-MOST_PACKS c = search (cases, sheets)

pub returns-in_default : goal.returns-in_default
unfolding counted_of
returns-in_default c = search (cases, sheets)

pub returns-in-Read : goal.returns-in-Read
unfolding counted_of
returns-in-Read c = search (cases, sheets)

pub returns-in-Unread : goal.returns-in-Unread
unfolding counted_of
returns-in-Unread c = let numbers = ap (λ (d : Sheet). d.numbers) c.tick.ensures in search (cases, sheets)
