-- What holds wherever the loop may stand, at the ends of the program.
-- Assumes nothing.
use mathlib.Core.Path.{◌≡◌, subst}
use mathlib.Core.Bool.{Bool, false}
use Rattle.session.specs.declared.Desk.{Desk}
use Rattle.session.specs.Loop.{Reached}
use Rattle.session.proofs.Loop.{unended}
use Rattle.bench_promises.specs.RustBench.{rust_so_far}
use Rattle.bench_promises.proofs.LineByLine.{line_by_line}
use Rattle.bench.specs.declared.Stop.{Stop}
use Rattle.bench.specs.declared.Ending.{Ending}
use Rattle.bench.specs.declared.Ending.TheVariants as ending
use Rattle.bench.specs.Ending.{How, Stopped, Ends}

ended_unread : (r : Stop) (first d : Desk) (c : Stopped r first d) → r.ending ≡ ending.Unread → c.standing.wrote ≡ rust_so_far c.standing.read
ended_unread r first d c e =
    let h : How ending.Unread r.left c.chunk d = subst (λ (x : Ending). How x r.left c.chunk d) e c.how in
    let s = c.standing in
    let u : Reached first c.rounds s.read s.wrote c.chunk false d =
    subst (λ (b : Bool). Reached first c.rounds s.read s.wrote c.chunk b d) (unended s.reached h.0.on) s.reached in
    line_by_line.writes.reads first c.fresh u h.0 h.1

-- the statement
pub ends : Ends
ends = record {
  over = λ r first d c e.
      let h : How ending.Over r.left c.chunk d = subst (λ (x : Ending). How x r.left c.chunk d) e c.how in
      line_by_line.writes.over first c.fresh c.standing.reached h.0 h.1;
  unread = ended_unread;
  starts = λ r first d c. line_by_line.writes.starts first c.fresh c.standing.reached;
}
