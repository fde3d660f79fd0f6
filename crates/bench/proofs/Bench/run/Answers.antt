-- `bench::Bench::run` meets its contract: each round that is made is a round of `session`.
-- Assumes nothing.
use mathlib.Core.Path.{refl, ap}
use native.Mathlib.Omega.{arith}
use Rattle.bench.specs.declared.Bench.{Bench}
use Rattle.bench.proofs.Laws.{going_first, stopped_unwritten, goes_on}
use Rattle.bench.proofs.Bench.run.Goals as goal

pub loop-made-init : goal.loop-made-init
loop-made-init g c = rw c.requires.none (going_first c.args.self.now.chunk c.args.self.now.desk c.requires.fresh, omega arith)

pub returns-then-not-write : goal.returns-then-not-write
returns-then-not-write g c =
    stopped_unwritten _ _ _ _ c.loop-made.invariant.0 c.if-not-self.false _ _ c.if-not-round.ensures.0 _ _ (omega (arith, c.loop-made-test.true))
    (ap (λ (b : Bench). b.desk) (c.if-not-write.ensures.failed refl))

pub loop-made-preserved : goal.loop-made-preserved
loop-made-preserved g c =
    let e = c.if-not-write.ensures.all refl in
    let m = c.if-not-round.ensures in
    rw e (goes_on _ _ _ _ c.loop-made.invariant.0 c.if-not-self.false _ _ m.0 _ refl, m.1)
