-- A report to a writing call: what comes of it, and how many outcomes it can still accept.
-- Assumes nothing.
use Rattle.engine.specs.Bus.{Reported}
use Rattle.std.specs.Prelude.{Err, Ok}
use Prim.Native.Nat.{ℕ, suc, ◌+◌, ◌-◌, ◌*◌, ◌≤◌, ◌<◌}
use mathlib.Core.Path.{◌≡◌, refl, sym, subst}
use mathlib.Core.Bool.{Bool, true, false}
use native.Mathlib.Omega.{arith}
use Rattle.protocol.specs.Pick.{when◌then◌else◌}
use Rattle.protocol.specs.declared.error.Answer.{Answer}
use Rattle.protocol.specs.declared.error.Answer.TheVariants as answer
use Rattle.engine.specs.Pick.{case◌waiting◌ended◌, case◌acknowledged◌error◌timeout◌}
use Rattle.engine.specs.Budget.{more_of, waited, tallied}
use Rattle.engine.specs.Bus.{fits_of}
use Rattle.engine.specs.declared.budget.Budget.{Budget}
use Rattle.engine.specs.declared.bus.Outcome.{Outcome}
use Rattle.engine.specs.declared.bus.Outcome.TheVariants as outcome
use Rattle.engine.specs.declared.bus.Phase.{Phase}
use Rattle.engine.specs.declared.bus.Phase.TheVariants as phase
use Rattle.writing.specs.Frames.{frame_count}
use Rattle.writing.specs.Writing.{advance_of, retry_of, end_of, fail_of, settle_of, replied_of, counted_of, report_of}
use Rattle.writing.specs.declared.call.WriteCall.{WriteCall}
use Rattle.answers.proofs.Laws.{not_done, either}
use Rattle.ceilings.proofs.Numbers.{one_less}

-- what can come of a report
data Came (call : WriteCall) : Reported WriteCall → Type 0 where
  refused : (why : Answer) → Came call (Err (why, call))
  goes_on : call.phase ≡ phase.Waiting → Came call (Ok (advance_of (counted_of call)))
  again : (left : Budget) (ms : ℕ) → call.phase ≡ phase.Waiting → left.left + 1 ≡ call.budget.left → Came call (Ok (retry_of (counted_of call) left ms))
  ends : (why : Answer) → call.phase ≡ phase.Waiting → Came call (Ok (end_of (counted_of call) why))

module _ (call : WriteCall) where
  fails : (why : Answer) → call.phase ≡ phase.Waiting → Came call (Ok (fail_of (counted_of call) why))
  unfolding fail_of counted_of
  fails why e =
      either (λ (c : WriteCall). Came call (Ok c)) call.task.plan.retries call.task.plan.growing call.budget (retry_of (counted_of call)) (end_of (counted_of call) why)
      (λ left less. again left _ e less) (λ none. ends why e)

  settles : (o : Outcome) → call.phase ≡ phase.Waiting → Came call (Ok (settle_of (counted_of call) o))
  unfolding settle_of case◌acknowledged◌error◌timeout◌
  settles outcome.Acknowledged e = goes_on e
  settles (outcome.BusError code) e = fails (answer.I2c code) e
  settles outcome.Timeout e = fails answer.Timeout e

  came : (o : Outcome) (r n w : ℕ) → Came call (report_of call o r n w)
  unfolding report_of case◌waiting◌ended◌ when◌then◌else◌
  came o r n w = by call.phase refl (fits_of call.task.lent n w) refl (replied_of o r) refl
    where
      by : (p : Phase) → call.phase ≡ p → (t : Bool) → fits_of call.task.lent n w ≡ t → (s : Bool) → replied_of o r ≡ s → Came call (report_of call o r n w)
      by (phase.Ended a) e t f s g =
          let q : report_of call o r n w ≡ Err (answer.NothingOutstanding, call) = rw e in
          subst (Came call) (sym q) (refused answer.NothingOutstanding)
      by phase.Waiting e false f s g =
          let q : report_of call o r n w ≡ Err (answer.WrongBuffer, call) = rw (e, f) in
          subst (Came call) (sym q) (refused answer.WrongBuffer)
      by phase.Waiting e true f true g =
          let q : report_of call o r n w ≡ Err (answer.WrongReply, call) = rw (e, f, g) in
          subst (Came call) (sym q) (refused answer.WrongReply)
      by phase.Waiting e true f false g =
          let q : report_of call o r n w ≡ Ok (settle_of (counted_of call) o) = rw (e, f, g) in
          subst (Came call) (sym q) (settles o e)

-- a call that waits, after k outcomes: m more are enough for the frame that is due and those that follow it, and all waits come to v at the most
pub record Due (k m v : ℕ) (call : WriteCall) : Type 0 where
  pub later : ℕ
  pub whole : frame_count call.task.plan.frames call.task.lent.length ≡ call.sent + 1 + later
  pub few : call.sent + 1 + later ≤ 4294967295
  pub enough : later * (call.task.plan.retries + 1) + call.budget.left + 1 ≤ m
  pub room : k + m ≤ 4294967295
  pub rest : call.tally.waits + later * call.task.plan.retries + call.budget.left ≤ v

-- it has accepted k outcomes and accepts at most m more
pub record Sound (k m v : ℕ) (call : WriteCall) : Type 0 where
  pub counted : call.tally.transfers ≡ k
  pub rests : call.tally.waits ≤ v
  pub due : call.phase ≡ phase.Waiting → Due k m v call

-- an outcome that is taken is one more, and one fewer can come
abbrev pub Follows : (k m v : ℕ) → Reported WriteCall → Type 0
Follows k m v (Err (why, call)) = Sound k m v call
Follows k m v (Ok next) = (l : ℕ) × (m ≡ suc l) × Sound (suc k) l v next

module _ (k m v : ℕ) where
  keeps : (call : WriteCall) (r : Reported WriteCall) → Came call r → Sound k m v call → Follows k m v r
  unfolding advance_of retry_of end_of counted_of waited tallied
  keeps call r (refused why) s = s
  keeps call r (goes_on e) s =
      let d = s.due e in
      let one : more_of call.tally.transfers ≡ suc k = omega (arith, s.counted, d.room, d.enough) in
      let next : more_of call.sent ≡ call.sent + 1 = omega (arith, d.few) in (
        m - 1,
        omega (arith, d.enough),
        record {
          counted = one;
          rests = s.rests;
          due = λ w.
              let more = not_done _ _ w in
              let some : 0 < d.later = omega (arith, more, d.whole, next) in
              let times = one_less d.later (call.task.plan.retries + 1) some in
              let waits = one_less d.later call.task.plan.retries some in
              record {
                later = d.later - 1;
                whole = omega (arith, d.whole, next, some);
                few = omega (arith, d.few, next, some);
                enough = omega (arith, d.enough, times);
                room = omega (arith, d.room, d.enough);
                rest = omega (arith, d.rest, waits);
              };
        },
      )
  keeps call r (again left ms e less) s =
      let d = s.due e in (
        m - 1,
        omega (arith, d.enough),
        record {
          counted = omega (arith, s.counted, d.room, d.enough);
          rests = omega (arith, d.rest, less);
          due = λ w. record {
            later = d.later;
            whole = d.whole;
            few = d.few;
            enough = omega (arith, d.enough, less);
            room = omega (arith, d.room, d.enough);
            rest = omega (arith, d.rest, less);
          };
        },
      )
  keeps call r (ends why e) s =
      let d = s.due e in (
        m - 1,
        omega (arith, d.enough),
        record {
          counted = omega (arith, s.counted, d.room, d.enough);
          rests = s.rests;
          due = λ w. let z : ◌≡◌ {A = ℕ} 0 1 = cc in absurd (omega arith);
        },
      )

  pub follows : (call : WriteCall) → Sound k m v call → (o : Outcome) (r n w : ℕ) → Follows k m v (report_of call o r n w)
  follows call s o r n w = keeps call (report_of call o r n w) (came call o r n w) s
