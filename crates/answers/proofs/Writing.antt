-- At a report to a writing call each answer is given exactly when its row says so.
-- Assumes nothing.
use Rattle.std.specs.Prelude.{Err, Ok}
use Prim.Native.Nat.{ℕ, ◌*◌}
use mathlib.Core.Path.{◌≡◌, refl, sym, ap, subst, ◌∙◌}
use mathlib.Core.Bool.{Bool, true, false, false≢true}
use mathlib.Core.Logic.{◌↔◌}
use native.Mathlib.Omega.{arith}
use lib.Dec.{leb, eqb}
use borrow.Author.Tests.{leb-true, eqb-true, eqb-false, le-leb, eq-eqb, ne_eqb}
use Rattle.protocol.specs.Pick.{when◌then◌else◌}
use Rattle.protocol.specs.Answer.{number_of, detail_of}
use Rattle.protocol.specs.declared.error.Answer.{Answer}
use Rattle.protocol.specs.declared.error.Answer.TheVariants as answer
use Rattle.engine.specs.Pick.{case◌waiting◌ended◌, case◌acknowledged◌error◌timeout◌, case◌retry◌spent◌}
use Rattle.engine.specs.Budget.{failed, more_of}
use Rattle.engine.specs.Bus.{phase_after, fits_of}
use Rattle.engine.specs.declared.bus.Outcome.{Outcome}
use Rattle.engine.specs.declared.bus.Outcome.TheVariants as outcome
use Rattle.engine.specs.declared.bus.Phase.{Phase}
use Rattle.engine.specs.declared.bus.Phase.TheVariants as phase
use Rattle.writing.specs.Frames as frames
use Rattle.writing.specs.declared.frames.Frames.{Frames}
use Rattle.writing.specs.declared.frames.Frames.TheVariants as sent
use Rattle.writing.specs.Writing.{advance_of, gave_up, retry_of, end_of, fail_of, settle_of, replied_of, report_of, counted_of}
use Rattle.writing.specs.declared.call.WriteCall.{WriteCall}
use Rattle.answers.specs.Rows.{Says, Failure, said_w, OpenW, Partial, Writes}
use Rattle.answers.specs.Rows.Writes.{done, bus_error, timed_out, partly, wrong_buffer, wrong_reply, nothing_outstanding}
use Rattle.answers.proofs.Laws.{InTable, row_of, says_of, over_waits, fits_same, same_fits, other_fits, fits_other}

-- only the frames of data flash write data flash
flash_from : (f : Frames) → frames.is_flash f ≡ true → (start : ℕ) × (f ≡ sent.DataFlash start)
unfolding frames.is_flash
flash_from sent.Plain e = absurd (false≢true e)
flash_from (sent.Register address) e = absurd (false≢true e)
flash_from sent.MfgInfo e = absurd (false≢true e)
flash_from (sent.Mac command) e = absurd (false≢true e)
flash_from (sent.AccessKey lower upper) e = absurd (false≢true e)
flash_from (sent.MfgInfoC lower upper) e = absurd (false≢true e)
flash_from (sent.DataFlash start) e = (start, refl)

from_flash : (f : Frames) (start : ℕ) → f ≡ sent.DataFlash start → frames.is_flash f ≡ true
unfolding frames.is_flash
from_flash f start e = ap frames.is_flash e

module _ (call : WriteCall) (o : Outcome) (r n w : ℕ) where
  -- what a phase says of the report
  abbrev Holds : Phase → Type 0
  Holds = InTable (Writes call o r n w)

  Row : Answer → Type 0
  Row a = Writes call o r n w (number_of a) (detail_of a)

  -- ---- an answer that is given is its row's

  gave_up_lem : (why : Answer) → OpenW call n w → Failure o → call.budget.left ≡ 0
      → ((Partial call → ⊥) → Row why) → Row (gave_up call.task.plan.frames call.sent why)
  unfolding Row gave_up when◌then◌else◌
  gave_up_lem why ready bad last row = by (frames.is_flash call.task.plan.frames) refl (eqb call.sent 0) refl
    where
      by : (f : Bool) → frames.is_flash call.task.plan.frames ≡ f → (z : Bool) → eqb call.sent 0 ≡ z
          → Row (gave_up call.task.plan.frames call.sent why)
      by false f z q =
          let g : gave_up call.task.plan.frames call.sent why ≡ why = rw f in
          subst Row (sym g) (row (λ p. false≢true (sym f ∙ from_flash _ p.0.0 p.0.1)))
      by true f true q =
          let none = eqb-true call.sent 0 q in
          let g : gave_up call.task.plan.frames call.sent why ≡ why = rw (f, q) in
          subst Row (sym g) (row (λ p. omega (arith, p.1)))
      by true f false q =
          let some = eqb-false call.sent 0 q in
          let g : gave_up call.task.plan.frames call.sent why ≡ answer.PartialDataFlashWrite (call.sent * 32) = rw (f, q) in
          subst Row (sym g) (partly ready bad last (flash_from _ f, omega arith))

  fail_holds : (why : Answer) → OpenW call n w → Failure o
      → (call.budget.left ≡ 0 → (Partial call → ⊥) → Row why) → Holds (fail_of (counted_of call) why).phase
  unfolding Row fail_of failed retry_of end_of case◌retry◌spent◌ when◌then◌else◌ counted_of
  fail_holds why ready bad row = by (eqb call.budget.left 0) refl
    where
      by : (t : Bool) → eqb call.budget.left 0 ≡ t → Holds (fail_of (counted_of call) why).phase
      by true t =
          let last = eqb-true call.budget.left 0 t in
          let q : (fail_of (counted_of call) why).phase ≡ phase.Ended (gave_up call.task.plan.frames call.sent why) = rw t in
          subst Holds (sym q) (gave_up_lem why ready bad last (row last))
      by false t = let q : (fail_of (counted_of call) why).phase ≡ phase.Waiting = rw t in subst Holds (sym q) tt

  sent_holds : OpenW call n w → o ≡ outcome.Acknowledged → r ≡ 0 → Holds (advance_of (counted_of call)).phase
  unfolding advance_of phase_after when◌then◌else◌ counted_of
  sent_holds ready ack none = by (leb (frames.frame_count call.task.plan.frames call.task.lent.length) (more_of call.sent)) refl
    where
      by : (t : Bool) → leb (frames.frame_count call.task.plan.frames call.task.lent.length) (more_of call.sent) ≡ t → Holds (advance_of (counted_of call)).phase
      by true t =
          let q : (advance_of (counted_of call)).phase ≡ phase.Ended answer.Done = rw t in
          subst Holds (sym q) (done ready ack none (leb-true _ _ t))
      by false t = let q : (advance_of (counted_of call)).phase ≡ phase.Waiting = rw t in subst Holds (sym q) tt

  -- a report that is looked at
  taken_holds : OpenW call n w → (x : Outcome) → o ≡ x → Holds (said_w (when◌then◌else◌ (replied_of o r) (Err (answer.WrongReply, call)) (Ok (settle_of (counted_of call) o))))
  unfolding Row replied_of settle_of case◌acknowledged◌error◌timeout◌ when◌then◌else◌ counted_of
  taken_holds ready outcome.Acknowledged e = by (eqb r 0) refl
    where
      said : Phase
      said = said_w (when◌then◌else◌ (replied_of o r) (Err (answer.WrongReply, call)) (Ok (settle_of (counted_of call) o)))

      by : (t : Bool) → eqb r 0 ≡ t → Holds said
      by true t =
          let q : said ≡ (advance_of (counted_of call)).phase = rw (e, t) in
          subst Holds (sym q) (sent_holds ready e (eqb-true r 0 t))
      by false t =
          let q : said ≡ phase.Ended answer.WrongReply = rw (e, t) in
          subst Holds (sym q) (wrong_reply ready e (eqb-false r 0 t))
  taken_holds ready (outcome.BusError code) e =
      let q : said_w (when◌then◌else◌ (replied_of o r) (Err (answer.WrongReply, call)) (Ok (settle_of (counted_of call) o))) ≡ (fail_of (counted_of call) (answer.I2c code)).phase = rw e in
      subst Holds (sym q) (fail_holds (answer.I2c code) ready (rw e tt) (bus_error code ready e))
  taken_holds ready outcome.Timeout e =
      let q : said_w (when◌then◌else◌ (replied_of o r) (Err (answer.WrongReply, call)) (Ok (settle_of (counted_of call) o))) ≡ (fail_of (counted_of call) answer.Timeout).phase = rw e in
      subst Holds (sym q) (fail_holds answer.Timeout ready (rw e tt) (timed_out ready e))

  report_holds : Holds (said_w (report_of call o r n w))
  unfolding report_of case◌waiting◌ended◌ when◌then◌else◌ counted_of
  report_holds = by call.phase refl (fits_of call.task.lent n w) refl
    where
      by : (p : Phase) → call.phase ≡ p → (t : Bool) → fits_of call.task.lent n w ≡ t → Holds (said_w (report_of call o r n w))
      by (phase.Ended a) e t f =
          let q : said_w (report_of call o r n w) ≡ phase.Ended answer.NothingOutstanding = rw e in
          subst Holds (sym q) (nothing_outstanding (over_waits a call.phase e))
      by phase.Waiting e false f =
          let q : said_w (report_of call o r n w) ≡ phase.Ended answer.WrongBuffer = rw (e, f) in
          subst Holds (sym q) (wrong_buffer e (other_fits call.task.lent n w f))
      by phase.Waiting e true f =
          let q : said_w (report_of call o r n w) ≡ said_w (when◌then◌else◌ (replied_of o r) (Err (answer.WrongReply, call)) (Ok (settle_of (counted_of call) o))) = rw (e, f) in
          subst Holds (sym q) (taken_holds (e, fits_same call.task.lent n w f) o refl)

  -- ---- and a row that holds is answered

  looked : OpenW call n w → report_of call o r n w ≡ when◌then◌else◌ (replied_of o r) (Err (answer.WrongReply, call)) (Ok (settle_of (counted_of call) o))
  unfolding report_of case◌waiting◌ended◌ when◌then◌else◌
  looked (e, same) = rw (e, same_fits call.task.lent n w same)

  gives_up : (why : Answer) → call.budget.left ≡ 0 → (fail_of (counted_of call) why).phase ≡ phase.Ended (gave_up call.task.plan.frames call.sent why)
  unfolding fail_of failed end_of case◌retry◌spent◌ when◌then◌else◌ counted_of
  gives_up why last = rw (eq-eqb call.budget.left 0 last)

  whole_why : (why : Answer) → (Partial call → ⊥) → gave_up call.task.plan.frames call.sent why ≡ why
  unfolding gave_up when◌then◌else◌
  whole_why why whole = by (frames.is_flash call.task.plan.frames) refl (eqb call.sent 0) refl
    where
      by : (f : Bool) → frames.is_flash call.task.plan.frames ≡ f → (z : Bool) → eqb call.sent 0 ≡ z → gave_up call.task.plan.frames call.sent why ≡ why
      by false f z q = rw f
      by true f true q = rw (f, q)
      by true f false q = let some = eqb-false call.sent 0 q in absurd (whole (flash_from _ f, omega arith))

  partial_why : (why : Answer) → Partial call → gave_up call.task.plan.frames call.sent why ≡ answer.PartialDataFlashWrite (call.sent * 32)
  unfolding gave_up when◌then◌else◌
  partial_why why (f, some) = let p : call.sent ≡ 0 → ⊥ = λ e. omega arith in rw (from_flash _ f.0 f.1, ne_eqb call.sent 0 p)

  failure : OpenW call n w → (x : Outcome) → o ≡ x → Failure x → (a : Answer) → ((why : Answer) → (fail_of (counted_of call) why).phase ≡ phase.Ended a) → said_w (report_of call o r n w) ≡ phase.Ended a
  unfolding replied_of settle_of case◌acknowledged◌error◌timeout◌ when◌then◌else◌ counted_of
  failure ready outcome.Acknowledged e bad a ends = absurd bad
  failure ready (outcome.BusError code) e bad a ends = ap said_w (looked ready) ∙ rw e (ends (answer.I2c code))
  failure ready outcome.Timeout e bad a ends = ap said_w (looked ready) ∙ rw e (ends answer.Timeout)

  report_row : (k d : ℕ) → Writes call o r n w k d → Says k d (said_w (report_of call o r n w))
  unfolding report_of replied_of settle_of advance_of phase_after case◌waiting◌ended◌ case◌acknowledged◌error◌timeout◌ when◌then◌else◌ counted_of
  report_row k d (done ready ack none all) = says_of answer.Done (said_w (report_of call o r n w)) (ap said_w (looked ready) ∙ rw (ack, eq-eqb r 0 none, le-leb _ _ all))
  report_row k d (bus_error code ready e last whole) =
      says_of (answer.I2c code) (said_w (report_of call o r n w))
      (ap said_w (looked ready) ∙ rw e (gives_up (answer.I2c code) last ∙ ap phase.Ended (whole_why (answer.I2c code) whole)))
  report_row k d (timed_out ready e last whole) =
      says_of answer.Timeout (said_w (report_of call o r n w))
      (ap said_w (looked ready) ∙ rw e (gives_up answer.Timeout last ∙ ap phase.Ended (whole_why answer.Timeout whole)))
  report_row k d (partly ready bad last some) =
      says_of (answer.PartialDataFlashWrite (call.sent * 32)) (said_w (report_of call o r n w))
      (failure ready o refl bad (answer.PartialDataFlashWrite (call.sent * 32)) (λ why. gives_up why last ∙ ap phase.Ended (partial_why why some)))
  report_row k d (wrong_buffer e other) = rw (e, fits_other call.task.lent n w other) (refl, refl)
  report_row k d (wrong_reply ready ack some) =
      says_of answer.WrongReply (said_w (report_of call o r n w)) (ap said_w (looked ready) ∙ rw (ack, ne_eqb r 0 some))
  report_row k d (nothing_outstanding over) = by call.phase refl
    where
      by : (p : Phase) → call.phase ≡ p → Says 10 0 (said_w (report_of call o r n w))
      by phase.Waiting e = absurd (over e)
      by (phase.Ended a) e = rw e (refl, refl)

-- THE TABLE OF A WRITING CALL
pub writes : (call : WriteCall) (o : Outcome) (r n w k d : ℕ) → Says k d (said_w (report_of call o r n w)) ↔ Writes call o r n w k d
writes call o r n w k d = (row_of (Writes call o r n w) (said_w (report_of call o r n w)) (report_holds call o r n w) k d, report_row call o r n w k d)
