-- A reading call has one budget: its total is that of all its waits.
-- Assumes nothing.
use Rattle.std.specs.Prelude.{Ok}
use Prim.Native.Nat.{ℕ, suc, ◌+◌, ◌-◌, ◌≤◌}
use mathlib.Core.Path.{◌≡◌, refl, sym, ◌∙◌}
use mathlib.Core.Bool.{Bool, true, false, false≢true}
use mathlib.Core.Logic.{inl, inr}
use mathlib.Core.List.{List}
use native.Mathlib.Omega.{arith}
use Rattle.protocol.specs.Reply.{checked_of}
use Rattle.engine.specs.Budget.{wait_of}
use Rattle.engine.specs.declared.bus.Outcome.{Outcome}
use Rattle.engine.specs.declared.bus.Outcome.TheVariants as outcome
use Rattle.engine.specs.declared.bus.Phase.TheVariants as phase
use Rattle.reading.specs.Reading.{due_ask}
use Rattle.reading.specs.declared.call.ReadCall.{ReadCall}
use Rattle.answers.specs.Rows.{Damaged}
use Rattle.answers.specs.Steps.{MissedR, HeardR, CostR}
use Rattle.waits.specs.Costs.{budget_cost}
use Rattle.waits.specs.Waits.{Growth, none}
use Rattle.waits.proofs.Costs.{cost_step}
use Rattle.waits.proofs.Failed.{Few, Short, Tens, Missed, missed, misses_short, misses_ten, misses_grow}

pub record Timed (growing : Bool) (r : ℕ) (call : ReadCall) : Type 0 where
  pub its : (call.task.plan.retries ≡ r) × (call.task.plan.growing ≡ growing)
  pub total : call.tally.waited_ms ≡ budget_cost growing call.tally.waits
  pub due : call.phase ≡ phase.Waiting → call.tally.waits + call.budget.left ≡ r
  pub short : Short call.tally
  pub tens : Tens growing call.tally
  pub within : call.tally.waits ≤ r

module _ (growing : Bool) (r : ℕ) (call next : ReadCall) (s : Timed growing r call) (e : call.phase ≡ phase.Waiting) (task : next.task ≡ call.task) (few : Few next.tally) where
  its_next : (next.task.plan.retries ≡ r) × (next.task.plan.growing ≡ growing)
  its_next = rw task s.its

  fails : MissedR call next → Timed growing r next × Growth growing call.tally next.tally
  fails (cost, head, over, blocks) = (
    record {
      its = its_next;
      total = by m;
      due = λ w. after w m;
      short = misses_short r growing call.budget next.budget call.tally next.tally next.phase s.short few m;
      tens = misses_ten r growing call.budget next.budget call.tally next.tally next.phase s.short few s.tens m;
      within = short_of m;
    },
    misses_grow r growing call.budget next.budget call.tally next.tally next.phase s.short few m,
  )
    where
      m : Missed r growing call.budget call.tally next.phase next.budget next.tally
      m = missed r growing call.budget next.budget call.tally next.tally next.phase s.short few (rw (s.its.0, s.its.1) at cost)

      left : call.tally.waits + call.budget.left ≡ r
      left = s.due e

      by : Missed r growing call.budget call.tally next.phase next.budget next.tally → next.tally.waited_ms ≡ budget_cost growing next.tally.waits
      by (inl (less, more, grown)) =
          let d = left in
          let here : r - call.budget.left ≡ call.tally.waits = omega (arith, d) in
          let then : next.tally.waits ≡ suc call.tally.waits = omega (arith, more) in
          let step = cost_step growing call.tally.waits in
          let t = s.total in
          let g : next.tally.waited_ms ≡ call.tally.waited_ms + wait_of growing call.tally.waits = rw here at grown in
          rw then (omega (arith, t, g, step))
      by (inr (over, last, (waits, same))) = rw waits (same ∙ s.total)

      short_of : Missed r growing call.budget call.tally next.phase next.budget next.tally → next.tally.waits ≤ r
      short_of (inl (less, more, grown)) = let d = left in omega (arith, d, less, more)
      short_of (inr (over, last, (waits, same))) = rw waits s.within

      after : next.phase ≡ phase.Waiting → Missed r growing call.budget call.tally next.phase next.budget next.tally → next.tally.waits + next.budget.left ≡ r
      after w (inl (less, more, grown)) = let d = left in omega (arith, d, less, more)
      after w (inr (over, last, same)) = absurd (over w)

  hears : HeardR call next → Timed growing r next × Growth growing call.tally next.tally
  hears (left, (waits, ms), head, blocks) = (
    record {
      its = its_next;
      total = rw waits (ms ∙ s.total);
      due = λ w. let d = s.due e in omega (arith, d, left, waits);
      short = let h = s.short in omega (arith, h, waits, ms);
      tens = λ off. let h = s.tens off in omega (arith, h, waits, ms);
      within = rw waits s.within;
    },
    none waits ms,
  )

  -- a reply is damaged or it is not
  replies : (bytes : List ℕ) → (Damaged call bytes → MissedR call next) × ((Damaged call bytes → ⊥) → HeardR call next) → Timed growing r next × Growth growing call.tally next.tally
  replies bytes (misses, heard) = by call.heading refl (due_ask call).pec refl (checked_of (due_ask call).covered bytes) refl
    where
      by : (h : Bool) → call.heading ≡ h → (p : Bool) → (due_ask call).pec ≡ p → (c : Bool) → checked_of (due_ask call).covered bytes ≡ c
          → Timed growing r next × Growth growing call.tally next.tally
      by true h p q c d = hears (heard (λ x. false≢true (sym x.0 ∙ h)))
      by false h false q c d = hears (heard (λ x. false≢true (sym q ∙ x.1)))
      by false h true q true d = hears (heard (λ x. false≢true (sym x.2 ∙ d)))
      by false h true q false d = fails (misses (h, q, d))

  -- ANY OUTCOME THAT IS TAKEN
  pub steps : (o : Outcome) (bytes : List ℕ) → CostR call o bytes (Ok next) → Timed growing r next × Growth growing call.tally next.tally
  steps outcome.Acknowledged bytes (same, count, cost) = replies bytes cost
  steps (outcome.BusError code) bytes (same, count, cost) = fails cost
  steps outcome.Timeout bytes (same, count, cost) = fails cost
