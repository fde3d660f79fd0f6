-- `bench::Bench::round` meets its contract: each way through it is a round of `session`, or a read that failed.
-- Assumes nothing.
use mathlib.Core.Path.{subst, ◌∙◌}
use native.Mathlib.Omega.{arith}
use Rattle.chunks.specs.declared.Brought.{Brought}
use Rattle.chunks.specs.Brings.{Brings}
use Rattle.bench.proofs.Laws.{answers_round, refills_round, ends_round}
use Rattle.bench.proofs.Bench.round.Goals as goal

pub returns-then-self : goal.returns-then-self
returns-then-self g c =
    let b = c.args.self.now in
    (answers_round b.chunk b.n b.desk c.take.new.self (omega arith) (omega arith) (c.take.ensures.0 ∙ rw c.front.ensures), omega arith)

pub returns-in-Bytes : goal.returns-in-Bytes
returns-in-Bytes g c =
    let b = c.args.self.now in
    let k = subst (λ (b : Brought). Brings b c.read.new.chunk) c.in-Bytes.is c.read.ensures in
    (refills_round b.chunk b.n b.desk _ _ _ (omega arith) k.0 k.1 c.next_chunk.ensures, k.1)

pub returns-in-End : goal.returns-in-End
returns-in-End g c =
    let b = c.args.self.now in
    (ends_round b.chunk b.n b.desk c.read.new.chunk _ (omega arith) c.end.ensures, omega arith)
