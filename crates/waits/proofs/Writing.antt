-- A writing call by the outcomes that it has taken: its total is that of the stretches of failures so far.
-- Assumes nothing.
use Rattle.std.specs.Prelude.{Ok}
use Prim.Native.Nat.{ℕ, suc, ◌+◌, ◌-◌, ◌*◌, ◌≤◌, ◌<◌, min}
use mathlib.Core.Path.{◌≡◌, refl, sym, ap, ◌∙◌}
use mathlib.Core.Bool.{Bool}
use mathlib.Core.Logic.{◌⊎◌, inl, inr}
use mathlib.Core.List.{List, [], ◌∷◌, ◌++◌, append_assoc}
use native.Mathlib.Omega.{arith}
use native.Mathlib.Nat.{suc-mul, mul-le-mul_right}
use native.Mathlib.Numerals.{add-one}
use Rattle.engine.specs.Budget.{wait_of, more_of}
use Rattle.engine.specs.declared.bus.Outcome.{Outcome}
use Rattle.engine.specs.declared.bus.Outcome.TheVariants as outcome
use Rattle.engine.specs.declared.bus.Phase.TheVariants as phase
use Rattle.writing.specs.Frames.{frame_count}
use Rattle.writing.specs.declared.call.WriteCall.{WriteCall}
use Rattle.answers.specs.Steps.{MissedW, CostW}
use Rattle.waits.specs.Costs.{budget_cost, frames_cost}
use Rattle.waits.specs.Waits.{Growth, none}
use Rattle.waits.proofs.Costs.{cost_step, cost_none, cost_mono}
use Rattle.waits.proofs.Failed.{Few, Short, Tens, Missed, missed, misses_short, misses_ten, misses_grow}

-- it has f frames and has taken `os`, of which the last k failed one after another; `before` is what the stretches before those come to
pub record Timed (growing : Bool) (r f : ℕ) (os : List Outcome) (call : WriteCall) : Type 0 where
  pub its : (call.task.plan.retries ≡ r) × (call.task.plan.growing ≡ growing)
  pub before : ℕ
  pub k : ℕ
  pub splits : (more : List Outcome) → frames_cost growing r 0 (os ++ more) ≡ before + frames_cost growing r k more
  pub total : call.tally.waited_ms ≡ before + budget_cost growing (min k r)
  pub due : call.phase ≡ phase.Waiting → k + call.budget.left ≡ r
  pub short : Short call.tally
  pub tens : Tens growing call.tally
  -- each frame that was sent has cost what its budget can at the most, and one that is not sent is due where a failure has been waited for
  pub frames : frame_count call.task.plan.frames call.task.lent.length ≡ f
  pub sum : before ≤ call.sent * budget_cost growing r
  pub part : (k ≡ 0) ⊎ (call.sent < f)
  pub whole : call.sent ≤ f

-- so its total is what they all come to
pub totals : (growing : Bool) (r f : ℕ) (os : List Outcome) (call : WriteCall) → Timed growing r f os call → call.tally.waited_ms ≡ frames_cost growing r 0 (os ++ [])
unfolding frames_cost
totals growing r f os call s = s.total ∙ sym (s.splits [])

-- one more of equal parts
one_more : (n k : ℕ) → (n + 1) * k ≡ n * k + k
one_more n k = rw add-one (suc-mul n k)

-- and at most what all its budgets come to
pub at_most : (growing : Bool) (r f : ℕ) (os : List Outcome) (call : WriteCall) → Timed growing r f os call → call.tally.waited_ms ≤ f * budget_cost growing r
at_most growing r f os call s = by s.part
  where
    by : (s.k ≡ 0) ⊎ (call.sent < f) → call.tally.waited_ms ≤ f * budget_cost growing r
    by (inl fresh) =
        let start : min s.k r ≡ 0 = omega (arith, fresh) in
        let z : budget_cost growing (min s.k r) ≡ 0 = rw start (cost_none growing) in
        let all : call.sent * budget_cost growing r ≤ f * budget_cost growing r = mul-le-mul_right (budget_cost growing r) s.whole in
        let t = s.total in
        let u = s.sum in
        omega (arith, z, all, t, u)
    by (inr due) =
        let here = cost_mono growing (min s.k r) r (omega arith) in
        let next : call.sent + 1 ≤ f = omega (arith, due) in
        let all : (call.sent + 1) * budget_cost growing r ≤ f * budget_cost growing r = mul-le-mul_right (budget_cost growing r) next in
        let parts = one_more call.sent (budget_cost growing r) in
        let t = s.total in
        let u = s.sum in
        omega (arith, here, all, parts, t, u)

module _ (growing : Bool) (r f : ℕ) (os : List Outcome) (call next : WriteCall) (s : Timed growing r f os call) (e : call.phase ≡ phase.Waiting) (task : next.task ≡ call.task) (few : Few next.tally)
    (ahead : (call.sent < f) × (more_of call.sent ≡ call.sent + 1)) where
  its_next : (next.task.plan.retries ≡ r) × (next.task.plan.growing ≡ growing)
  its_next = rw task s.its

  -- one outcome more
  further : (o : Outcome) (more : List Outcome) → frames_cost growing r 0 ((os ++ (o ∷ [])) ++ more) ≡ s.before + frames_cost growing r s.k (o ∷ more)
  further o more = ap (frames_cost growing r 0) (append_assoc os (o ∷ []) more) ∙ s.splits (o ∷ more)

  -- a failure lengthens the stretch
  fails : (o : Outcome) → ((more : List Outcome) → frames_cost growing r s.k (o ∷ more) ≡ frames_cost growing r (suc s.k) more) → MissedW call next
      → Timed growing r f (os ++ (o ∷ [])) next × Growth growing call.tally next.tally
  fails o longer (cost, sent) = (
    record {
      its = its_next;
      before = s.before;
      k = suc s.k;
      splits = λ more. further o more ∙ ap (λ (x : ℕ). s.before + x) (longer more);
      total = by m;
      due = λ w. after w m;
      short = misses_short r growing call.budget next.budget call.tally next.tally next.phase s.short few m;
      tens = misses_ten r growing call.budget next.budget call.tally next.tally next.phase s.short few s.tens m;
      frames = rw task s.frames;
      sum = rw sent s.sum;
      part = inr (rw sent ahead.0);
      whole = rw sent s.whole;
    },
    misses_grow r growing call.budget next.budget call.tally next.tally next.phase s.short few m,
  )
    where
      m : Missed r growing call.budget call.tally next.phase next.budget next.tally
      m = missed r growing call.budget next.budget call.tally next.tally next.phase s.short few (rw (s.its.0, s.its.1) at cost)

      left : s.k + call.budget.left ≡ r
      left = s.due e

      by : Missed r growing call.budget call.tally next.phase next.budget next.tally → next.tally.waited_ms ≡ s.before + budget_cost growing (min (suc s.k) r)
      by (inl (less, more, grown)) =
          let d = left in
          let here : r - call.budget.left ≡ s.k = omega (arith, d) in
          let now : min s.k r ≡ s.k = omega (arith, d) in
          let then : min (suc s.k) r ≡ suc s.k = omega (arith, d, less) in
          let step = cost_step growing s.k in
          let t : call.tally.waited_ms ≡ s.before + budget_cost growing s.k = rw now at s.total in
          let g : next.tally.waited_ms ≡ call.tally.waited_ms + wait_of growing s.k = rw here at grown in
          rw then (omega (arith, t, g, step))
      by (inr (over, last, (waits, same))) =
          let d = left in
          let still : min (suc s.k) r ≡ min s.k r = omega (arith, d, last) in
          rw still (same ∙ s.total)

      after : next.phase ≡ phase.Waiting → Missed r growing call.budget call.tally next.phase next.budget next.tally → suc s.k + next.budget.left ≡ r
      after w (inl (less, more, grown)) = let d = left in omega (arith, d, less)
      after w (inr (over, last, same)) = absurd (over w)

  -- ANY OUTCOME THAT IS TAKEN
  pub steps : (o : Outcome) → CostW call o (Ok next) → Timed growing r f (os ++ (o ∷ [])) next × Growth growing call.tally next.tally
  unfolding frames_cost
  steps outcome.Acknowledged (same, count, (left, (waits, ms), sent)) = (
    record {
      its = its_next;
      before = s.before + budget_cost growing (min s.k r);
      k = 0;
      splits = λ more. let f = further outcome.Acknowledged more in omega (arith, f);
      total =
          let t = s.total in
          let start : min 0 r ≡ 0 = omega arith in
          let z : budget_cost growing (min 0 r) ≡ 0 = rw start (cost_none growing) in
          omega (arith, t, z, ms);
      due = λ w. let full = left ∙ s.its.0 in omega (arith, full);
      short = let h = s.short in omega (arith, h, waits, ms);
      tens = λ off. let h = s.tens off in omega (arith, h, waits, ms);
      frames = rw task s.frames;
      sum =
          let here = cost_mono growing (min s.k r) r (omega arith) in
          let parts = one_more call.sent (budget_cost growing r) in
          let u = s.sum in
          rw (sent, ahead.1) (omega (arith, here, parts, u));
      part = inl refl;
      whole = let n = ahead.0 in let m = ahead.1 in omega (arith, n, m, sent);
    },
    none waits ms,
  )
  steps (outcome.BusError code) (same, count, cost) = fails (outcome.BusError code) (λ more. refl) cost
  steps outcome.Timeout (same, count, cost) = fails outcome.Timeout (λ more. refl) cost
