-- A report to a reading call: what comes of it, and how many outcomes it can still accept.
-- Assumes nothing.
use Rattle.engine.specs.Bus.{Reported}
use Rattle.std.specs.Prelude.{Err, Ok}
use Prim.Native.Nat.{ℕ, suc, ◌+◌, ◌-◌, ◌*◌, ◌≤◌, ◌<◌}
use mathlib.Core.Path.{◌≡◌, refl, sym, subst, ◌∙◌}
use mathlib.Core.Bool.{true, false, false≢true}
use mathlib.Core.List.{List}
use native.Mathlib.Omega.{arith}
use Rattle.protocol.specs.declared.error.Answer.{Answer}
use Rattle.engine.specs.Budget.{more_of, waited, tallied}
use Rattle.engine.specs.declared.budget.Budget.{Budget}
use Rattle.engine.specs.declared.bus.Outcome.{Outcome}
use Rattle.engine.specs.declared.bus.Phase.TheVariants as phase
use Rattle.reading.specs.Pick.{case◌refused◌fault◌headed◌block◌}
use Rattle.reading.specs.Parts.{has_head, read_count}
use Rattle.reading.specs.Reading.{headed_of, advance_of, retry_of, end_of, fail_of, judge_of, counted_of, report_of}
use Rattle.reading.specs.declared.call.ReadCall.{ReadCall}
use Rattle.reading.specs.declared.call.Verdict.{Verdict}
use Rattle.reading.specs.declared.call.Verdict.TheVariants as verdict
use Rattle.answers.proofs.Laws.{not_done, either}
use Rattle.answers.proofs.Kept.{Means, judge_means}

-- what can come of a report
data Came (call : ReadCall) : Reported ReadCall → Type 0 where
  turned_down : (why : Answer) → Came call (Err (why, call))
  opens : call.phase ≡ phase.Waiting → call.heading ≡ true → Came call (Ok (headed_of (counted_of call)))
  goes_on : call.phase ≡ phase.Waiting → call.heading ≡ false → Came call (Ok (advance_of (counted_of call)))
  again : (left : Budget) (ms : ℕ) → call.phase ≡ phase.Waiting → left.left + 1 ≡ call.budget.left → Came call (Ok (retry_of (counted_of call) left ms))
  ends : (why : Answer) → call.phase ≡ phase.Waiting → Came call (Ok (end_of (counted_of call) why))

module _ (call : ReadCall) where
  fails : (why : Answer) → call.phase ≡ phase.Waiting → Came call (Ok (fail_of (counted_of call) why))
  unfolding fail_of counted_of
  fails why e =
      either (λ (c : ReadCall). Came call (Ok c)) call.task.plan.retries call.task.plan.growing call.budget (retry_of (counted_of call)) (end_of (counted_of call) why)
      (λ left less. again left _ e less) (λ none. ends why e)

  came : (o : Outcome) (reply : List ℕ) (n w : ℕ) → Came call (report_of call o reply n w)
  unfolding report_of case◌refused◌fault◌headed◌block◌
  came o reply n w = by (judge_of call o reply n w) refl
    where
      by : (v : Verdict) → judge_of call o reply n w ≡ v → Came call (report_of call o reply n w)
      by (verdict.Refused why) e = rw e (turned_down why)
      by (verdict.Failed why) e = rw e (fails why (subst (Means call) e (judge_means call o reply n w)))
      by verdict.Head e =
          let m : Means call verdict.Head = subst (Means call) e (judge_means call o reply n w) in
          rw e (opens m.0 m.1)
      by verdict.Block e =
          let m : Means call verdict.Block = subst (Means call) e (judge_means call o reply n w) in
          rw e (goes_on m.0 m.1)

-- which transfers are still due of a call that waits, and how many outcomes are enough for them: a failure costs a retry, and the head again where there is one
pub data Enough (m : ℕ) (call : ReadCall) : Type 0 where
  head_due : call.heading ≡ true → has_head call.task.plan.head ≡ true → (later : ℕ)
      → read_count call.task.plan.reads call.task.lent.length ≡ call.received + 1 + later → later + 2 + 2 * call.budget.left ≤ m → Enough m call
  only_head : call.heading ≡ true → has_head call.task.plan.head ≡ true
      → read_count call.task.plan.reads call.task.lent.length ≡ 0 → call.budget.left + 1 ≤ m → Enough m call
  read_due : call.heading ≡ false → has_head call.task.plan.head ≡ true → (later : ℕ)
      → read_count call.task.plan.reads call.task.lent.length ≡ call.received + 1 + later → later + 1 + 2 * call.budget.left ≤ m → Enough m call
  bare_due : call.heading ≡ false → has_head call.task.plan.head ≡ false → (later : ℕ)
      → read_count call.task.plan.reads call.task.lent.length ≡ call.received + 1 + later → later + 1 + call.budget.left ≤ m → Enough m call

-- a call that waits, after k outcomes: m more are enough, and all waits come to v at the most
pub record Due (k m v : ℕ) (call : ReadCall) : Type 0 where
  pub few : read_count call.task.plan.reads call.task.lent.length ≤ 4294967295
  pub enough : Enough m call
  pub room : k + m ≤ 4294967295
  pub rest : call.tally.waits + call.budget.left ≤ v

-- it has accepted k outcomes and accepts at most m more
pub record Sound (k m v : ℕ) (call : ReadCall) : Type 0 where
  pub counted : call.tally.transfers ≡ k
  pub rests : call.tally.waits ≤ v
  pub due : call.phase ≡ phase.Waiting → Due k m v call

-- an outcome that is taken is one more, and one fewer can come
abbrev pub Follows : (k m v : ℕ) → Reported ReadCall → Type 0
Follows k m v (Err (why, call)) = Sound k m v call
Follows k m v (Ok next) = (l : ℕ) × (m ≡ suc l) × Sound (suc k) l v next

-- a call that waits has an outcome to accept
pub some_enough : (m : ℕ) (call : ReadCall) → Enough m call → 0 < m
some_enough m call (head_due h a later whole most) = omega arith
some_enough m call (only_head h a none most) = omega arith
some_enough m call (read_due h a later whole most) = omega arith
some_enough m call (bare_due h a later whole most) = omega arith

-- the head was acknowledged
opened : (m : ℕ) (call : ReadCall) → call.heading ≡ true → Enough m call → (headed_of (counted_of call)).phase ≡ phase.Waiting → Enough (m - 1) (headed_of (counted_of call))
unfolding headed_of counted_of
opened m call h (head_due x a later whole most) w = read_due refl a later whole (omega arith)
opened m call h (only_head x a none most) w = let more = not_done _ _ w in absurd (omega (arith, more, none))
opened m call h (read_due x a later whole most) w = absurd (false≢true (sym x ∙ h))
opened m call h (bare_due x a later whole most) w = absurd (false≢true (sym x ∙ h))

-- a block was handed over
advanced : (m : ℕ) (call : ReadCall) → call.heading ≡ false → read_count call.task.plan.reads call.task.lent.length ≤ 4294967295
    → Enough m call → (advance_of (counted_of call)).phase ≡ phase.Waiting → Enough (m - 1) (advance_of (counted_of call))
unfolding advance_of counted_of
advanced m call h few (head_due x a later whole most) w = absurd (false≢true (sym h ∙ x))
advanced m call h few (only_head x a none most) w = absurd (false≢true (sym h ∙ x))
advanced m call h few (read_due x a later whole most) w =
    let more = not_done _ _ w in
    let next : more_of call.received ≡ call.received + 1 = omega (arith, few, whole) in
    read_due refl a (later - 1) (omega (arith, whole, more, next)) (omega (arith, whole, more, next, most))
advanced m call h few (bare_due x a later whole most) w =
    let more = not_done _ _ w in
    let next : more_of call.received ≡ call.received + 1 = omega (arith, few, whole) in
    bare_due refl a (later - 1) (omega (arith, whole, more, next)) (omega (arith, whole, more, next, most))

-- an attempt failed, and its retry is left
retried : (m : ℕ) (call : ReadCall) (left : Budget) (ms : ℕ) → left.left + 1 ≡ call.budget.left → Enough m call → Enough (m - 1) (retry_of (counted_of call) left ms)
unfolding retry_of counted_of
retried m call left ms less (head_due x a later whole most) = head_due a a later whole (omega arith)
retried m call left ms less (only_head x a none most) = only_head a a none (omega arith)
retried m call left ms less (read_due x a later whole most) = head_due a a later whole (omega arith)
retried m call left ms less (bare_due x a later whole most) = bare_due a a later whole (omega arith)

module _ (k m v : ℕ) where
  -- the count of a call that waits is not full
  one_more : (call : ReadCall) → Sound k m v call → call.phase ≡ phase.Waiting → (more_of call.tally.transfers ≡ suc k) × (m ≡ suc (m - 1)) × (suc k + (m - 1) ≤ 4294967295)
  one_more call s e =
      let d = s.due e in
      let some = some_enough m call d.enough in
      (omega (arith, s.counted, d.room, some), omega (arith, some), omega (arith, d.room, some))

  keeps : (call : ReadCall) (r : Reported ReadCall) → Came call r → Sound k m v call → Follows k m v r
  unfolding headed_of advance_of retry_of end_of counted_of waited tallied
  keeps call r (turned_down why) s = s
  keeps call r (opens e h) s =
      let d = s.due e in
      let one = one_more call s e in (
        m - 1,
        one.1,
        record {
          counted = one.0;
          rests = s.rests;
          due = λ w. record { few = d.few; enough = opened m call h d.enough w; room = one.2; rest = d.rest };
        },
      )
  keeps call r (goes_on e h) s =
      let d = s.due e in
      let one = one_more call s e in (
        m - 1,
        one.1,
        record {
          counted = one.0;
          rests = s.rests;
          due = λ w. record { few = d.few; enough = advanced m call h d.few d.enough w; room = one.2; rest = d.rest };
        },
      )
  keeps call r (again left ms e less) s =
      let d = s.due e in
      let one = one_more call s e in (
        m - 1,
        one.1,
        record {
          counted = one.0;
          rests = omega (arith, d.rest, less);
          due = λ w. record { few = d.few; enough = retried m call left ms less d.enough; room = one.2; rest = omega (arith, d.rest, less) };
        },
      )
  keeps call r (ends why e) s =
      let one = one_more call s e in (
        m - 1,
        one.1,
        record {
          counted = one.0;
          rests = s.rests;
          due = λ w. let z : ◌≡◌ {A = ℕ} 0 1 = cc in absurd (omega arith);
        },
      )

  pub follows : (call : ReadCall) → Sound k m v call → (o : Outcome) (reply : List ℕ) (n w : ℕ) → Follows k m v (report_of call o reply n w)
  follows call s o reply n w = keeps call (report_of call o reply n w) (came call o reply n w) s
