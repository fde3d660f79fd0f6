-- `packs::Sheet::take` meets its contract: before each turn, what is left of the chunk leads to where the whole of it does.
-- Assumes nothing.
use Prim.Native.Nat.{◌-◌, ◌≤◌}
use mathlib.Core.Path.{◌≡◌}
use lib.ListN.{length, drop}
use Rattle.packs.specs.Count.{feed_of}
use Rattle.packs.proofs.Sheet.take.Given as goal

abbrev pub invariant-loop-i : goal.invariant-loop-i
invariant-loop-i l = (l.i ≤ length l.chunk) × (feed_of (drop l.i l.chunk) l.self ≡ feed_of l.chunk l.initial.self)

abbrev pub decreases-loop-i : goal.decreases-loop-i
decreases-loop-i l = length l.chunk - l.i
