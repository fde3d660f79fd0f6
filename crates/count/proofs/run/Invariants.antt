-- `count::run` meets its contract: the chunks that were taken, one after the other, lead to where it stops.
-- Assumes nothing.
use Rattle.count.proofs.Laws.{Going}
use Rattle.count.proofs.run.Given as goal

abbrev pub invariant-loop-taken : goal.invariant-loop-taken
invariant-loop-taken g l = Going l.taken l.sheet
