-- A report to any call, by the engine that carries it out; and any list of reports.
-- Assumes nothing.
use Rattle.engine.specs.Bus.{Reported}
use Rattle.std.specs.Prelude.{Err, Ok}
use Prim.Native.Nat.{ℕ, ◌+◌, ◌*◌, ◌≤◌, ◌<◌}
use mathlib.Core.Path.{◌≡◌, refl, sym, ap, subst, ◌∙◌}
use mathlib.Core.Bool.{Bool}
use mathlib.Core.List.{List, [], ◌∷◌, ◌++◌, append-nil, append_assoc}
use native.Mathlib.Omega.{arith}
use lib.ListN.{length, replicate, length-replicate}
use Rattle.engine.specs.Budget.{more_of}
use Rattle.engine.specs.declared.bus.Outcome.{Outcome}
use Rattle.engine.specs.declared.bus.Phase.TheVariants as phase
use Rattle.writing.specs.Writing as writing
use Rattle.writing.specs.declared.call.WriteCall.{WriteCall}
use Rattle.reading.specs.Reading as reading
use Rattle.reading.specs.declared.call.ReadCall.{ReadCall}
use Rattle.calls.specs.Call.{wrote_of, got_of, report_of, tally_of}
use Rattle.calls.specs.declared.call.Call.{Call}
use Rattle.calls.specs.declared.call.Call.TheVariants as call
use Rattle.answers.specs.Rows.{SortW, SortR}
use Rattle.answers.specs.Steps.{CostW, CostR}
use Rattle.answers.proofs.Costs.{cost_w, cost_r}
use Rattle.answers.proofs.Sorts.{sort_w, sort_r}
use Rattle.ceilings.specs.Reports.{Report, came_of, call_after, feed}
use Rattle.ceilings.proofs.Good.{Good, Follows, follows, rests}
use Rattle.waits.specs.Waits.{takes, outcomes_of, Growth, none}
use Rattle.waits.proofs.Failed.{Few}
use Rattle.waits.proofs.Writing as writes
use Rattle.waits.proofs.Reading as reads

-- by the outcomes that a call has taken
abbrev pub Timed : (growing : Bool) (r f : ℕ) → List Outcome → Call → Type 0
Timed growing r f os (call.Write c) = writes.Timed growing r f os c
Timed growing r f os (call.Read c) = reads.Timed growing r c × (f ≡ 1)

-- what holds of a call with f budgets that has taken `os`: its waits are few, and its total is theirs
pub record Keeps (growing : Bool) (r f : ℕ) (os : List Outcome) (c : Call) : Type 0 where
  pub outcomes : ℕ
  pub waits : ℕ
  pub good : Good outcomes waits c
  pub few : waits ≤ 256 * 65535
  pub timed : Timed growing r f os c

-- what a report leads to: one that is refused leaves the call as it was, one that is taken is one outcome more; and what is counted has grown by no wait or by one
abbrev pub Goes : (growing : Bool) (r f : ℕ) → List Outcome → Outcome → Call → Reported Call → Type 0
Goes growing r f os o c (Err (a, same)) = same ≡ c
Goes growing r f os o c (Ok next) = Timed growing r f (os ++ (o ∷ [])) next × Growth growing (tally_of c) (tally_of next)

-- few waits after a report that is taken
abbrev FewAfter : Reported Call → Type 0
FewAfter (Err (a, same)) = Unit {0}
FewAfter (Ok next) = Few (tally_of next)

module _ (growing : Bool) (r f : ℕ) (os : List Outcome) (m v : ℕ) (o : Outcome) where
  -- a writing call that waits has a frame to send
  ahead : (c : WriteCall) → writes.Timed growing r f os c → Good m v (call.Write c) → c.phase ≡ phase.Waiting → (c.sent < f) × (more_of c.sent ≡ c.sent + 1)
  ahead c s (k, sound) e =
      let d = sound.due e in
      let due = d.whole in
      let few = d.few in
      let all = s.frames in
      (omega (arith, due, all), omega (arith, few))

  wrote_goes : (c : WriteCall) → writes.Timed growing r f os c → Good m v (call.Write c) → (u : Reported WriteCall) → CostW c o u → SortW c u → FewAfter (wrote_of u) → Goes growing r f os o (call.Write c) (wrote_of u)
  unfolding wrote_of tally_of
  wrote_goes c s good (Err (a, same)) cost (numbers, kept) few = ap call.Write kept
  wrote_goes c s good (Ok next) cost (waiting, ends) few = writes.steps growing r f os c next s waiting cost.0 few (ahead c s good waiting) o cost

  got_goes : (c : ReadCall) (bytes before after : List ℕ) → reads.Timed growing r c × (f ≡ 1) → (u : Reported ReadCall) → CostR c o bytes u → SortR c before after u → FewAfter (got_of u)
      → Goes growing r f os o (call.Read c) (got_of u)
  unfolding got_of tally_of
  got_goes c bytes before after s (Err (a, same)) cost (numbers, kept, buffer) few = ap call.Read kept
  got_goes c bytes before after (s, one) (Ok next) cost (waiting, ends, buffer) few =
      let went = reads.steps growing r c next s waiting cost.0 few o bytes cost in
      ((went.0, one), went.1)

  pub goes : (c : Call) → Timed growing r f os c → Good m v c → (reply : List ℕ) (p n w : ℕ) → FewAfter (report_of c o reply p n w) → Goes growing r f os o c (report_of c o reply p n w)
  unfolding report_of
  goes (call.Write c) s good reply p n w few =
      wrote_goes c s good (writing.report_of c o (length reply) p w) (cost_w c o (length reply) p w) (sort_w c o (length reply) p w) few
  goes (call.Read c) s good reply p n w few =
      let some : List ℕ = replicate n 0 in
      let size : length some ≡ n = length-replicate n 0 in
      let sort : SortR c some (reading.buffer_after c o reply some w) (reading.report_of c o reply n w) =
      subst (λ (x : ℕ). SortR c some (reading.buffer_after c o reply some w) (reading.report_of c o reply x w)) size (sort_r c o reply some w) in
      got_goes c reply some (reading.buffer_after c o reply some w) s (reading.report_of c o reply n w) (cost_r c o reply n w) sort few

-- a report keeps it
module _ (growing : Bool) (r f : ℕ) (os : List Outcome) (c : Call) (k : Keeps growing r f os c) (o : Outcome) (reply : List ℕ) (p n w : ℕ) where
  few_after : (u : Reported Call) → Follows k.outcomes k.waits u → FewAfter u
  few_after (Err (a, same)) f = tt
  few_after (Ok next) (l, e, good) =
      let most = rests l k.waits next good in
      let few = k.few in
      omega (arith, most, few)

  went : Goes growing r f os o c (report_of c o reply p n w)
  went = goes growing r f os k.outcomes k.waits o c k.timed k.good reply p n w (few_after (report_of c o reply p n w) (follows k.outcomes k.waits c k.good o reply p n w))

  -- a report that is taken
  pub keeps_on : (next : Call) → report_of c o reply p n w ≡ Ok next → Keeps growing r f (os ++ (o ∷ [])) next
  keeps_on next e =
      let after : Follows k.outcomes k.waits (Ok next) = subst (Follows k.outcomes k.waits) e (follows k.outcomes k.waits c k.good o reply p n w) in
      let g : Goes growing r f os o c (Ok next) = subst (Goes growing r f os o c) e went in
      record { outcomes = after.0; waits = k.waits; good = after.2; few = k.few; timed = g.0 }

  -- and any report
  on : (u : Reported Call) → report_of c o reply p n w ≡ u → Keeps growing r f (os ++ takes o u []) (call_after u) × Growth growing (tally_of c) (tally_of (call_after u))
  on (Err (a, same)) e =
      let g : same ≡ c = subst (Goes growing r f os o c) e went in
      (subst (Keeps growing r f (os ++ [])) (sym g) (subst (λ (x : List Outcome). Keeps growing r f x c) (sym (append-nil os)) k), rw g (none refl refl))
  on (Ok next) e =
      let g : Goes growing r f os o c (Ok next) = subst (Goes growing r f os o c) e went in
      (keeps_on next e, g.1)

  pub reports : Keeps growing r f (os ++ takes o (report_of c o reply p n w) []) (call_after (report_of c o reply p n w)) × Growth growing (tally_of c) (tally_of (call_after (report_of c o reply p n w)))
  reports = on (report_of c o reply p n w) refl

-- ---- any list of reports

takes_first : (o : Outcome) (u : Reported Call) (os : List Outcome) → takes o u [] ++ os ≡ takes o u os
takes_first o (Err (a, same)) os = refl
takes_first o (Ok next) os = refl

pub keeps_fed : (growing : Bool) (r f : ℕ) (es : List Report) (os : List Outcome) (c : Call) → Keeps growing r f os c → Keeps growing r f (os ++ outcomes_of c es) (feed c es)
unfolding feed outcomes_of
keeps_fed growing r f [] os c k = subst (λ (x : List Outcome). Keeps growing r f x c) (sym (append-nil os)) k
keeps_fed growing r f (e ∷ es) os c k =
    let one = (reports growing r f os c k e.outcome e.reply e.payload e.buffer e.work).0 in
    let rest = keeps_fed growing r f es (os ++ takes e.outcome (came_of c e) []) (call_after (came_of c e)) one in
    subst (λ (x : List Outcome). Keeps growing r f x (feed (call_after (came_of c e)) es))
    (append_assoc os (takes e.outcome (came_of c e) []) (outcomes_of (call_after (came_of c e)) es) ∙ ap (λ (x : List Outcome). os ++ x) (takes_first e.outcome (came_of c e) (outcomes_of (call_after (came_of c e)) es))) rest
