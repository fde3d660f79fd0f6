-- What a report can lead to, and what stays true of a call however it is fed.
-- Assumes nothing.
use Prim.Native.Nat.{ℕ, ◌+◌, ◌*◌, ◌≤◌, ◌<◌}
use mathlib.Core.Path.{◌≡◌, refl, sym, ap, subst, ◌∙◌}
use mathlib.Core.Bool.{Bool, true, false}
use mathlib.Core.List.{List, [], ◌∷◌}
use native.Mathlib.Omega.{arith}
use lib.Dec.{eqb}
use borrow.Author.Tests.{eqb-true, eqb-false}
use Rattle.protocol.specs.Pick.{when◌then◌else◌}
use Rattle.protocol.specs.Bytes.{blocks_of}
use Rattle.protocol.specs.Window.{in_window}
use Rattle.protocol.proofs.WindowLaws.{within}
use Rattle.protocol.specs.declared.error.Answer.{Answer}
use Rattle.protocol.specs.declared.error.Answer.TheVariants as answer
use Rattle.engine.specs.Pick.{case◌waiting◌ended◌, case◌acknowledged◌error◌timeout◌}
use Rattle.engine.specs.Budget.{more_of, waited, nothing, tallied}
use Rattle.engine.specs.Bus.{fits_of}
use Rattle.engine.specs.declared.budget.Budget.{Budget}
use Rattle.engine.specs.declared.bus.Outcome.{Outcome}
use Rattle.engine.specs.declared.bus.Outcome.TheVariants as outcome
use Rattle.engine.specs.declared.bus.Phase.{Phase}
use Rattle.engine.specs.declared.bus.Phase.TheVariants as phase
use Rattle.writing.specs.Frames as frames
use Rattle.writing.specs.Writing.{start_of, advance_of, retry_of, end_of, fail_of, settle_of, replied_of, report_of, counted_of}
use Rattle.writing.specs.declared.call.WritePlan.{WritePlan}
use Rattle.writing.specs.declared.call.WriteCall.{WriteCall}
use Rattle.answers.specs.Runs.{WriteReport, call_w, reported_w, feed_w, TameW}
use Rattle.answers.proofs.Laws.{not_done, either}

-- where a report can lead a writing call
pub data Step (call : WriteCall) : WriteCall → Type 0 where
  stays : Step call call
  goes_on : call.phase ≡ phase.Waiting → Step call (advance_of (counted_of call))
  again : (left : Budget) (ms : ℕ) → call.phase ≡ phase.Waiting → left.left + 1 ≡ call.budget.left → Step call (retry_of (counted_of call) left ms)
  ends : (why : Answer) → call.phase ≡ phase.Waiting → Step call (end_of (counted_of call) why)

module _ (call : WriteCall) where
  fails : (why : Answer) → call.phase ≡ phase.Waiting → Step call (fail_of (counted_of call) why)
  unfolding fail_of counted_of
  fails why e = either (Step call) call.task.plan.retries call.task.plan.growing call.budget (retry_of (counted_of call)) (end_of (counted_of call) why) (λ left less. again left _ e less) (λ none. ends why e)

  settles : (o : Outcome) → call.phase ≡ phase.Waiting → Step call (settle_of (counted_of call) o)
  unfolding settle_of case◌acknowledged◌error◌timeout◌ counted_of tallied
  settles outcome.Acknowledged e = goes_on e
  settles (outcome.BusError code) e = fails (answer.I2c code) e
  settles outcome.Timeout e = fails answer.Timeout e

  pub steps : (o : Outcome) (r n w : ℕ) → Step call (call_w (report_of call o r n w))
  unfolding report_of case◌waiting◌ended◌ when◌then◌else◌ counted_of tallied
  steps o r n w = by call.phase refl (fits_of call.task.lent n w) refl (replied_of o r) refl
    where
      by : (p : Phase) → call.phase ≡ p → (t : Bool) → fits_of call.task.lent n w ≡ t → (s : Bool) → replied_of o r ≡ s → Step call (call_w (report_of call o r n w))
      by (phase.Ended a) e t f s g = let q : call_w (report_of call o r n w) ≡ call = rw e in subst (Step call) (sym q) stays
      by phase.Waiting e false f s g = let q : call_w (report_of call o r n w) ≡ call = rw (e, f) in subst (Step call) (sym q) stays
      by phase.Waiting e true f true g = let q : call_w (report_of call o r n w) ≡ call = rw (e, f, g) in subst (Step call) (sym q) stays
      by phase.Waiting e true f false g =
          let q : call_w (report_of call o r n w) ≡ settle_of (counted_of call) o = rw (e, f, g) in
          subst (Step call) (sym q) (settles o e)

-- what stays true: a waiting call has frames left, and each frame so far had at most 65,535 waits
pub record Sound (count : ℕ) (call : WriteCall) : Type 0 where
  counts : frames.frame_count call.task.plan.frames call.task.lent.length ≡ count
  retries : call.task.plan.retries ≤ 65535
  pub due : call.phase ≡ phase.Waiting → call.sent < count
  sent : call.sent ≤ 256
  spare : call.budget.left ≤ 65535
  waits : call.tally.waits + call.budget.left ≤ 65535 * (call.sent + 1)

module _ (count : ℕ) (few : count ≤ 256) where
  keeps : (call after : WriteCall) → Step call after → Sound count call → Sound count after
  unfolding advance_of retry_of end_of waited counted_of tallied
  keeps call after stays s = s
  keeps call after (goes_on e) s =
      let below = s.due e in
      let next : more_of call.sent ≡ call.sent + 1 = omega arith in
      record {
        counts = s.counts;
        retries = s.retries;
        due = λ w. rw s.counts at (not_done _ _ w);
        sent = omega (arith, s.sent);
        spare = s.retries;
        waits = omega (arith, s.waits, s.retries);
      }
  keeps call after (again left ms e less) s =
      record {
        counts = s.counts;
        retries = s.retries;
        due = λ w. s.due e;
        sent = s.sent;
        spare = omega (arith, s.spare);
        waits = omega (arith, s.waits, s.sent);
      }
  keeps call after (ends why e) s =
      record {
        counts = s.counts;
        retries = s.retries;
        due = λ w. s.due e;
        sent = s.sent;
        spare = s.spare;
        waits = s.waits;
      }

  fed : (es : List WriteReport) (call : WriteCall) → Sound count call → Sound count (feed_w call es)
  unfolding feed_w
  fed [] call s = s
  fed (e ∷ es) call s = fed es (reported_w call e) (keeps call (reported_w call e) (steps call e.outcome e.reply e.payload e.work) s)

-- a call with at most 256 frames, if it waits at its start, keeps this
pub sound : (plan : WritePlan) (n w : ℕ) → plan.retries ≤ 65535
    → ((start_of plan n w).phase ≡ phase.Waiting → 0 < frames.frame_count plan.frames n) → frames.frame_count plan.frames n ≤ 256
    → (es : List WriteReport) → Sound (frames.frame_count plan.frames n) (feed_w (start_of plan n w) es)
unfolding start_of nothing
sound plan n w r some few es =
    fed (frames.frame_count plan.frames n) few es (start_of plan n w)
    (record { counts = refl; retries = r; due = some; sent = omega arith; spare = r; waits = omega arith })

-- so it never gets near the end of a counter
pub tame : (count : ℕ) (call : WriteCall) → Sound count call → TameW call
tame count call s = record { frames = s.sent; waits = omega (arith, s.waits, s.sent) }

-- and no report changes what a call was started for
step_task : (call after : WriteCall) → Step call after → after.task ≡ call.task
unfolding advance_of retry_of end_of counted_of
step_task call after stays = refl
step_task call after (goes_on e) = refl
step_task call after (again left ms e less) = refl
step_task call after (ends why e) = refl

pub same_task : (es : List WriteReport) (call : WriteCall) → (feed_w call es).task ≡ call.task
unfolding feed_w
same_task [] call = refl
same_task (e ∷ es) call =
    same_task es (reported_w call e) ∙ step_task call (reported_w call e) (steps call e.outcome e.reply e.payload e.work)

-- a call that has ended, or was refused at its start, stays as it is
pub over_stays : (es : List WriteReport) (call : WriteCall) (a : Answer) → call.phase ≡ phase.Ended a → feed_w call es ≡ call
unfolding feed_w report_of case◌waiting◌ended◌
over_stays [] call a e = refl
over_stays (x ∷ es) call a e = let q : reported_w call x ≡ call = rw e in ap (λ (c : WriteCall). feed_w c es) q ∙ over_stays es call a e

-- a transfer inside the window has at most 256 blocks
pub window_few : (start n : ℕ) → in_window start n ≡ true → blocks_of n ≤ 256
window_few start n e = by (eqb n 0) refl
  where
    by : (t : Bool) → eqb n 0 ≡ t → blocks_of n ≤ 256
    by true t = let none = eqb-true n 0 t in omega arith
    by false t =
        let some = eqb-false n 0 t in
        let w = within start n e (omega arith) in
        omega (arith, w.0, w.1)
