-- `bench::Bench::run` meets its contract: each round that is made is a round of `session`.
-- Assumes nothing.
use Prim.Native.Nat.{◌≤◌}
use lib.ListN.{length}
use Rattle.bench.specs.Ending.{at_hand}
use Rattle.bench.proofs.Laws.{Going}
use Rattle.bench.proofs.Bench.run.Given as goal

abbrev pub invariant-loop-made : goal.invariant-loop-made
invariant-loop-made g l = Going l.fn.self.desk l.made (at_hand l.self) l.self.desk × (l.self.n ≤ length l.self.chunk)
