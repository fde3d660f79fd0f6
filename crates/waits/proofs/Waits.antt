-- How long a call waits, for each call by its kind and any list of reports.
-- Assumes nothing.
use Rattle.engine.specs.Bus.{Reported}
use Rattle.std.specs.Prelude.{Err, Ok}
use Prim.Native.Nat.{ℕ, ◌*◌, ◌≤◌, ◌<◌}
use mathlib.Core.Path.{◌≡◌, refl, ap, subst, ◌∙◌}
use mathlib.Core.Bool.{Bool}
use mathlib.Core.List.{List, [], ◌∷◌, ◌++◌, append-nil}
use native.Mathlib.Omega.{arith}
use lib.ListN.{length}
use Rattle.protocol.specs.Common.{TwoByteBudgets}
use Rattle.protocol.specs.declared.common.Config.{Config}
use Rattle.engine.specs.declared.bus.Outcome.{Outcome}
use Rattle.calls.specs.Kind.{plan_of}
use Rattle.writing.specs.Writing as writing
use Rattle.writing.specs.declared.call.WritePlan.{WritePlan}
use Rattle.writing.specs.declared.call.WriteCall.{WriteCall}
use Rattle.reading.specs.Reading as reading
use Rattle.reading.specs.declared.call.ReadPlan.{ReadPlan}
use Rattle.reading.specs.declared.call.ReadCall.{ReadCall}
use Rattle.calls.specs.Sides.{budget_of}
use Rattle.calls.specs.Call.{start_with, start_of, wrote_of, got_of, report_of, tally_of}
use Rattle.calls.specs.declared.call.Call.{Call}
use Rattle.calls.specs.declared.call.Call.TheVariants as call
use Rattle.calls.specs.declared.kind.Kind.{Kind}
use Rattle.calls.specs.declared.kind.Plan.{Plan}
use Rattle.calls.specs.declared.kind.Plan.TheVariants as plan
use Rattle.ceilings.specs.Reports.{Report, call_after, feed}
use Rattle.ceilings.proofs.Good.{rests}
use Rattle.waits.specs.Costs.{budget_cost, frames_cost}
use Rattle.waits.specs.Waits.{outcomes_of, budgets_in, counts_of, Waits}
use Rattle.waits.proofs.Costs.{cost_mono}
use Rattle.waits.proofs.Failed.{Short, Tens}
use Rattle.waits.proofs.Writing as writes
use Rattle.waits.proofs.Calls.{Timed, Keeps, reports, keeps_fed}
use Rattle.waits.proofs.Starts.{started}

-- ---- a call stays with its engine

wrote_on : (u : Reported WriteCall) → (d : WriteCall) × (call_after (wrote_of u) ≡ call.Write d)
unfolding wrote_of
wrote_on (Err (a, c)) = (c, refl)
wrote_on (Ok c) = (c, refl)

got_on : (u : Reported ReadCall) → (d : ReadCall) × (call_after (got_of u) ≡ call.Read d)
unfolding got_of
got_on (Err (a, c)) = (c, refl)
got_on (Ok c) = (c, refl)

writes_on : (es : List Report) (c : WriteCall) → (d : WriteCall) × (feed (call.Write c) es ≡ call.Write d)
unfolding feed report_of
writes_on [] c = (c, refl)
writes_on (e ∷ es) c =
    let one = wrote_on (writing.report_of c e.outcome (length e.reply) e.payload e.work) in
    let rest = writes_on es one.0 in
    (rest.0, ap (λ (x : Call). feed x es) one.1 ∙ rest.1)

reads_on : (es : List Report) (c : ReadCall) → (d : ReadCall) × (feed (call.Read c) es ≡ call.Read d)
unfolding feed report_of
reads_on [] c = (c, refl)
reads_on (e ∷ es) c =
    let one = got_on (reading.report_of c e.outcome e.reply e.buffer e.work) in
    let rest = reads_on es one.0 in
    (rest.0, ap (λ (x : Call). feed x es) one.1 ∙ rest.1)

-- ---- what is counted, by the engine

read_total : (growing : Bool) (r f : ℕ) (os : List Outcome) (c : Call) (d : ReadCall) → c ≡ call.Read d → Timed growing r f os c → (tally_of c).waited_ms ≡ budget_cost growing (tally_of c).waits
unfolding tally_of
read_total growing r f os c d e t = rw e (subst (Timed growing r f os) e t).0.total

write_total : (growing : Bool) (r f : ℕ) (os : List Outcome) (c : Call) (d : WriteCall) → c ≡ call.Write d → Timed growing r f os c → (tally_of c).waited_ms ≡ frames_cost growing r 0 (os ++ [])
unfolding tally_of
write_total growing r f os c d e t = rw e (writes.totals growing r f os d (subst (Timed growing r f os) e t))

-- of either
pub record Bounds (growing : Bool) (r f : ℕ) (c : Call) : Type 0 where
  pub short : Short (tally_of c)
  pub tens : Tens growing (tally_of c)
  pub most : (tally_of c).waited_ms ≤ f * budget_cost growing r

pub bounds : (growing : Bool) (r f : ℕ) (os : List Outcome) (c : Call) → Timed growing r f os c → Bounds growing r f c
unfolding tally_of
bounds growing r f os (call.Write c) t = record { short = t.short; tens = t.tens; most = writes.at_most growing r f os c t }
bounds growing r f os (call.Read c) (t, one) = record {
  short = t.short;
  tens = t.tens;
  most =
      let all = cost_mono growing c.tally.waits r t.within in
      let total = t.total in
      rw one (omega (arith, all, total));
}

module _ (config : Config) (few : TwoByteBudgets config) (kind : Kind) (p n w : ℕ) (es : List Report) where
  abbrev taken : List Outcome
  taken = outcomes_of (start_of kind config p n w) es

  abbrev budgets : ℕ
  budgets = budgets_in (plan_of kind config p n) p

  keeps : Keeps config.growing_waits (budget_of kind config n) budgets taken (feed (start_of kind config p n w) es)
  keeps = keeps_fed config.growing_waits (budget_of kind config n) budgets es [] (start_of kind config p n w) (started config few p n w kind)

  total_reads : (its : ReadPlan) → plan_of kind config p n ≡ plan.Read its → (counts_of kind config p n w es).waited_ms ≡ budget_cost config.growing_waits (counts_of kind config p n w es).waits
  unfolding start_of start_with
  total_reads its e =
      let on = reads_on es (reading.start_of its n w) in
      read_total config.growing_waits (budget_of kind config n) budgets taken _ on.0 (ap (λ (x : Plan). feed (start_with x p n w) es) e ∙ on.1) keeps.timed

  total_writes : (its : WritePlan) → plan_of kind config p n ≡ plan.Write its
      → (counts_of kind config p n w es).waited_ms ≡ frames_cost config.growing_waits (budget_of kind config n) 0 taken
  unfolding start_of start_with
  total_writes its e =
      let on = writes_on es (writing.start_of its p w) in
      write_total config.growing_waits (budget_of kind config n) budgets taken _ on.0 (ap (λ (x : Plan). feed (start_with x p n w) es) e ∙ on.1) keeps.timed
      ∙ ap (frames_cost config.growing_waits (budget_of kind config n) 0) (append-nil taken)

  pub bounded : Bounds config.growing_waits (budget_of kind config n) budgets (feed (start_of kind config p n w) es)
  bounded = bounds config.growing_waits (budget_of kind config n) budgets taken (feed (start_of kind config p n w) es) keeps.timed

  small : ((counts_of kind config p n w es).waited_ms ≤ 256 * 65535 * 80) × (256 * 65535 * 80 * 3 < 4294967295)
  small =
      let k = keeps in
      let short = bounded.short in
      let most = rests k.outcomes k.waits (feed (start_of kind config p n w) es) k.good in
      let limit = k.few in
      (omega (arith, short, most, limit), omega arith)

-- HOW LONG A CALL WAITS
pub waits : Waits
waits = record {
  reads = λ config few kind p n w its e es. total_reads config few kind p n w es its e;
  writes = λ config few kind p n w its e es. total_writes config few kind p n w es its e;
  steady = λ config few off kind p n w es. (bounded config few kind p n w es).tens off;
  grows = λ config few kind p n w es e.
      (reports config.growing_waits (budget_of kind config n) _ _ (feed (start_of kind config p n w) es) (keeps config few kind p n w es) e.outcome e.reply e.payload e.buffer e.work).1;
  small = λ config few kind p n w es. small config few kind p n w es;
  most = λ config few kind p n w es. (bounded config few kind p n w es).most;
}
