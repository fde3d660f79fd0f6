-- At a report to a reading call each answer is given exactly when its row says so.
-- Assumes nothing.
use Prim.Native.Nat.{ℕ, ◌≤◌}
use mathlib.Core.Path.{◌≡◌, refl, sym, ap, subst, ◌∙◌}
use mathlib.Core.Bool.{Bool, true, false, false≢true}
use mathlib.Core.List.{List}
use mathlib.Core.Logic.{◌↔◌}
use lib.ListN.{length}
use lib.Dec.{leb, eqb}
use borrow.Author.Tests.{leb-true, eqb-true, eqb-false, le-leb, eq-eqb, ne_eqb}
use Rattle.protocol.specs.Pick.{when◌then◌else◌}
use Rattle.protocol.specs.Reply as reply
use Rattle.protocol.specs.Answer.{number_of, detail_of}
use Rattle.protocol.specs.declared.error.Answer.{Answer}
use Rattle.protocol.specs.declared.error.Answer.TheVariants as answer
use Rattle.engine.specs.Pick.{case◌waiting◌ended◌, case◌acknowledged◌error◌timeout◌, case◌retry◌spent◌}
use Rattle.engine.specs.Budget.{failed, more_of}
use Rattle.engine.specs.Bus.{phase_after, fits_of}
use Rattle.engine.specs.declared.bus.Outcome.{Outcome}
use Rattle.engine.specs.declared.bus.Outcome.TheVariants as outcome
use Rattle.engine.specs.declared.bus.Phase.{Phase}
use Rattle.engine.specs.declared.bus.Phase.TheVariants as phase
use Rattle.reading.specs.Pick.{case◌refused◌fault◌headed◌block◌}
use Rattle.reading.specs.Parts as parts
use Rattle.reading.specs.Reading.{due_ask, headed_of, advance_of, retry_of, end_of, fail_of, heard_head, verdict_of, heard_block, acknowledged_of, weigh_of, judge_of, report_of, counted_of}
use Rattle.reading.specs.declared.call.ReadCall.{ReadCall}
use Rattle.reading.specs.declared.call.Verdict.{Verdict}
use Rattle.reading.specs.declared.call.Verdict.TheVariants as verdict
use Rattle.answers.specs.Rows.{Says, said_r, OpenR, asked, Damaged, reads_made, Reads}
use Rattle.answers.specs.Rows.Reads.{done, bus_error, timed_out, wrong_pec, wrong_buffer, wrong_reply, nothing_outstanding}
use Rattle.answers.proofs.Laws.{InTable, row_of, says_of, over_waits, fits_same, same_fits, other_fits, fits_other}

module _ (call : ReadCall) (o : Outcome) (bytes : List ℕ) (n w : ℕ) where
  -- what a phase says of the report
  abbrev Holds : Phase → Type 0
  Holds = InTable (Reads call o bytes n w)

  -- where a verdict leads
  abbrev leads : Verdict → Phase
  leads (verdict.Refused a) = phase.Ended a
  leads (verdict.Failed a) = (fail_of (counted_of call) a).phase
  leads verdict.Head = (headed_of (counted_of call)).phase
  leads verdict.Block = (advance_of (counted_of call)).phase

  said : said_r (report_of call o bytes n w) ≡ leads (judge_of call o bytes n w)
  unfolding report_of case◌refused◌fault◌headed◌block◌ counted_of
  said = by (judge_of call o bytes n w) refl
    where
      by : (v : Verdict) → judge_of call o bytes n w ≡ v → said_r (report_of call o bytes n w) ≡ leads (judge_of call o bytes n w)
      by (verdict.Refused a) e = rw e
      by (verdict.Failed a) e = rw e
      by verdict.Head e = rw e
      by verdict.Block e = rw e

  -- ---- an answer that is given is its row's

  fail_holds : (why : Answer) → (call.budget.left ≡ 0 → Reads call o bytes n w (number_of why) (detail_of why)) → Holds (fail_of (counted_of call) why).phase
  unfolding fail_of failed retry_of end_of case◌retry◌spent◌ when◌then◌else◌ counted_of
  fail_holds why row = by (eqb call.budget.left 0) refl
    where
      by : (t : Bool) → eqb call.budget.left 0 ≡ t → Holds (fail_of (counted_of call) why).phase
      by true t = let q : (fail_of (counted_of call) why).phase ≡ phase.Ended why = rw t in subst Holds (sym q) (row (eqb-true _ _ t))
      by false t = let q : (fail_of (counted_of call) why).phase ≡ phase.Waiting = rw t in subst Holds (sym q) tt

  -- all reads are made, or some are left
  after_holds : (m : ℕ) (p : Phase) → p ≡ phase_after (parts.read_count call.task.plan.reads call.task.lent.length) m
      → (parts.read_count call.task.plan.reads call.task.lent.length ≤ m → Reads call o bytes n w 0 0) → Holds p
  unfolding phase_after when◌then◌else◌
  after_holds m p is row = by (leb (parts.read_count call.task.plan.reads call.task.lent.length) m) refl
    where
      by : (t : Bool) → leb (parts.read_count call.task.plan.reads call.task.lent.length) m ≡ t → Holds p
      by true t = let q : p ≡ phase.Ended answer.Done = is ∙ rw t in subst Holds (sym q) (row (leb-true _ _ t))
      by false t = let q : p ≡ phase.Waiting = is ∙ rw t in subst Holds (sym q) tt

  -- a head that was acknowledged
  head_holds : OpenR call n w → o ≡ outcome.Acknowledged → call.heading ≡ true → Holds (leads (heard_head (length bytes)))
  unfolding heard_head headed_of asked reads_made when◌then◌else◌ counted_of
  head_holds ready ack h = by (eqb (length bytes) 0) refl
    where
      none : asked call ≡ 0
      none = rw h

      by : (t : Bool) → eqb (length bytes) 0 ≡ t → Holds (leads (heard_head (length bytes)))
      by true t =
          let q : leads (heard_head (length bytes)) ≡ (headed_of (counted_of call)).phase = rw t in
          subst Holds (sym q)
          (after_holds call.received (headed_of (counted_of call)).phase refl
          (λ all. done ready ack (eqb-true _ _ t ∙ sym none) (λ d. false≢true (sym d.0 ∙ h)) (rw h all)))
      by false t =
          let q : leads (heard_head (length bytes)) ≡ phase.Ended answer.WrongReply = rw t in
          subst Holds (sym q) (wrong_reply ready ack (λ e. eqb-false _ _ t (e ∙ none)))

  -- a read that was acknowledged
  block_holds : OpenR call n w → o ≡ outcome.Acknowledged → call.heading ≡ false → Holds (leads (heard_block (due_ask call) bytes))
  unfolding heard_block verdict_of reply.heard_of advance_of asked reads_made when◌then◌else◌ counted_of
  block_holds ready ack h = by (eqb (reply.bytes_asked (due_ask call)) (length bytes)) refl (due_ask call).pec refl (reply.checked_of (due_ask call).covered bytes) refl
    where
      some : asked call ≡ reply.bytes_asked (due_ask call)
      some = rw h

      good : leads (heard_block (due_ask call) bytes) ≡ (advance_of (counted_of call)).phase → length bytes ≡ asked call → (Damaged call bytes → ⊥) → Holds (leads (heard_block (due_ask call) bytes))
      good q size fine =
          subst Holds (sym q) (after_holds (more_of call.received) (advance_of (counted_of call)).phase refl (λ all. done ready ack size fine (rw h all)))

      by : (t : Bool) → eqb (reply.bytes_asked (due_ask call)) (length bytes) ≡ t → (p : Bool) → (due_ask call).pec ≡ p
          → (k : Bool) → reply.checked_of (due_ask call).covered bytes ≡ k → Holds (leads (heard_block (due_ask call) bytes))
      by false t p x k y =
          let q : leads (heard_block (due_ask call) bytes) ≡ phase.Ended answer.WrongReply = rw t in
          subst Holds (sym q) (wrong_reply ready ack (λ e. eqb-false _ _ t (sym (e ∙ some))))
      by true t false x k y = good (rw (t, x)) (sym (some ∙ eqb-true _ _ t)) (λ d. false≢true (sym x ∙ d.1))
      by true t true x true y = good (rw (t, x, y)) (sym (some ∙ eqb-true _ _ t)) (λ d. false≢true (sym d.2 ∙ y))
      by true t true x false y =
          let q : leads (heard_block (due_ask call) bytes) ≡ (fail_of (counted_of call) answer.Pec).phase = rw (t, x, y) in
          subst Holds (sym q) (fail_holds answer.Pec (wrong_pec ready ack (sym (some ∙ eqb-true _ _ t)) (h, x, y)))

  outcome_holds : OpenR call n w → (x : Outcome) → o ≡ x → Holds (leads (weigh_of call o bytes))
  unfolding weigh_of acknowledged_of case◌acknowledged◌error◌timeout◌ when◌then◌else◌
  outcome_holds ready outcome.Acknowledged e = by call.heading refl
    where
      by : (t : Bool) → call.heading ≡ t → Holds (leads (weigh_of call o bytes))
      by true h =
          let q : weigh_of call o bytes ≡ heard_head (length bytes) = rw (e, h) in
          subst (λ (v : Verdict). Holds (leads v)) (sym q) (head_holds ready e h)
      by false h =
          let q : weigh_of call o bytes ≡ heard_block (due_ask call) bytes = rw (e, h) in
          subst (λ (v : Verdict). Holds (leads v)) (sym q) (block_holds ready e h)
  outcome_holds ready (outcome.BusError code) e =
      let q : weigh_of call o bytes ≡ verdict.Failed (answer.I2c code) = rw e in
      subst (λ (v : Verdict). Holds (leads v)) (sym q) (fail_holds (answer.I2c code) (bus_error code ready e))
  outcome_holds ready outcome.Timeout e =
      let q : weigh_of call o bytes ≡ verdict.Failed answer.Timeout = rw e in
      subst (λ (v : Verdict). Holds (leads v)) (sym q) (fail_holds answer.Timeout (timed_out ready e))

  judge_holds : Holds (leads (judge_of call o bytes n w))
  unfolding judge_of case◌waiting◌ended◌ when◌then◌else◌
  judge_holds = by call.phase refl (fits_of call.task.lent n w) refl
    where
      by : (p : Phase) → call.phase ≡ p → (t : Bool) → fits_of call.task.lent n w ≡ t → Holds (leads (judge_of call o bytes n w))
      by (phase.Ended a) e t f =
          let q : judge_of call o bytes n w ≡ verdict.Refused answer.NothingOutstanding = rw e in
          subst (λ (v : Verdict). Holds (leads v)) (sym q) (nothing_outstanding (over_waits a call.phase e))
      by phase.Waiting e false f =
          let q : judge_of call o bytes n w ≡ verdict.Refused answer.WrongBuffer = rw (e, f) in
          subst (λ (v : Verdict). Holds (leads v)) (sym q) (wrong_buffer e (other_fits call.task.lent n w f))
      by phase.Waiting e true f =
          let q : judge_of call o bytes n w ≡ weigh_of call o bytes = rw (e, f) in
          subst (λ (v : Verdict). Holds (leads v)) (sym q) (outcome_holds (e, fits_same call.task.lent n w f) o refl)

  -- ---- and a row that holds is answered

  looked : OpenR call n w → judge_of call o bytes n w ≡ weigh_of call o bytes
  unfolding judge_of case◌waiting◌ended◌ when◌then◌else◌
  looked (e, same) = rw (e, same_fits call.task.lent n w same)

  gives_up : (why : Answer) → call.budget.left ≡ 0 → (fail_of (counted_of call) why).phase ≡ phase.Ended why
  unfolding fail_of failed end_of case◌retry◌spent◌ when◌then◌else◌ counted_of
  gives_up why last = rw (eq-eqb call.budget.left 0 last)

  heard : OpenR call n w → o ≡ outcome.Acknowledged → judge_of call o bytes n w ≡ acknowledged_of call bytes
  unfolding weigh_of case◌acknowledged◌error◌timeout◌
  heard ready ack = looked ready ∙ rw ack

  -- a read, and not a head
  reading : call.heading ≡ false → acknowledged_of call bytes ≡ heard_block (due_ask call) bytes
  unfolding acknowledged_of when◌then◌else◌
  reading h = rw h

  asked_some : call.heading ≡ false → asked call ≡ reply.bytes_asked (due_ask call)
  unfolding asked when◌then◌else◌
  asked_some h = rw h

  done_row : OpenR call n w → o ≡ outcome.Acknowledged → length bytes ≡ asked call → (Damaged call bytes → ⊥)
      → parts.read_count call.task.plan.reads call.task.lent.length ≤ reads_made call → leads (judge_of call o bytes n w) ≡ phase.Ended answer.Done
  unfolding acknowledged_of heard_head heard_block verdict_of reply.heard_of headed_of advance_of phase_after asked reads_made when◌then◌else◌ counted_of
  done_row ready ack size fine all = ap leads (heard ready ack) ∙ by call.heading refl (due_ask call).pec refl (reply.checked_of (due_ask call).covered bytes) refl
    where
      by : (t : Bool) → call.heading ≡ t → (p : Bool) → (due_ask call).pec ≡ p → (k : Bool) → reply.checked_of (due_ask call).covered bytes ≡ k
          → leads (acknowledged_of call bytes) ≡ phase.Ended answer.Done
      by true h p x k y = let none : length bytes ≡ 0 = size ∙ rw h in let every = rw h at all in rw (h, eq-eqb (length bytes) 0 none, le-leb _ _ every)
      by false h false x k y =
          let t = eq-eqb (reply.bytes_asked (due_ask call)) (length bytes) (sym (size ∙ asked_some h)) in
          let every = rw h at all in
          ap leads (reading h) ∙ rw (t, x, le-leb _ _ every)
      by false h true x true y =
          let t = eq-eqb (reply.bytes_asked (due_ask call)) (length bytes) (sym (size ∙ asked_some h)) in
          let every = rw h at all in
          ap leads (reading h) ∙ rw (t, x, y, le-leb _ _ every)
      by false h true x false y = absurd (fine (h, x, y))

  pec_row : OpenR call n w → o ≡ outcome.Acknowledged → length bytes ≡ asked call → Damaged call bytes → call.budget.left ≡ 0
      → leads (judge_of call o bytes n w) ≡ phase.Ended answer.Pec
  unfolding acknowledged_of heard_block verdict_of reply.heard_of asked when◌then◌else◌
  pec_row ready ack size (h, x, y) last =
      let t = eq-eqb (reply.bytes_asked (due_ask call)) (length bytes) (sym (size ∙ asked_some h)) in
      ap leads (heard ready ack ∙ reading h) ∙ rw (t, x, y) (gives_up answer.Pec last)

  wrong_row : OpenR call n w → o ≡ outcome.Acknowledged → (length bytes ≡ asked call → ⊥) → leads (judge_of call o bytes n w) ≡ phase.Ended answer.WrongReply
  unfolding acknowledged_of heard_head heard_block verdict_of reply.heard_of asked when◌then◌else◌
  wrong_row ready ack other = ap leads (heard ready ack) ∙ by call.heading refl
    where
      by : (t : Bool) → call.heading ≡ t → leads (acknowledged_of call bytes) ≡ phase.Ended answer.WrongReply
      by true h = let z : asked call ≡ 0 = rw h in rw (h, ne_eqb (length bytes) 0 (λ e. other (e ∙ sym z)))
      by false h =
          let t = ne_eqb (reply.bytes_asked (due_ask call)) (length bytes) (λ e. other (sym e ∙ sym (asked_some h))) in
          ap leads (reading h) ∙ rw t

  report_row : (k d : ℕ) → Reads call o bytes n w k d → Says k d (leads (judge_of call o bytes n w))
  unfolding judge_of weigh_of case◌waiting◌ended◌ case◌acknowledged◌error◌timeout◌ when◌then◌else◌
  report_row k d (done ready ack size fine all) = says_of answer.Done (leads (judge_of call o bytes n w)) (done_row ready ack size fine all)
  report_row k d (bus_error code ready e last) =
      says_of (answer.I2c code) (leads (judge_of call o bytes n w)) (ap leads (looked ready) ∙ rw e (gives_up (answer.I2c code) last))
  report_row k d (timed_out ready e last) = says_of answer.Timeout (leads (judge_of call o bytes n w)) (ap leads (looked ready) ∙ rw e (gives_up answer.Timeout last))
  report_row k d (wrong_pec ready ack size damaged last) = says_of answer.Pec (leads (judge_of call o bytes n w)) (pec_row ready ack size damaged last)
  report_row k d (wrong_buffer e other) = rw (e, fits_other call.task.lent n w other) (refl, refl)
  report_row k d (wrong_reply ready ack other) = says_of answer.WrongReply (leads (judge_of call o bytes n w)) (wrong_row ready ack other)
  report_row k d (nothing_outstanding over) = by call.phase refl
    where
      by : (p : Phase) → call.phase ≡ p → Says 10 0 (leads (judge_of call o bytes n w))
      by phase.Waiting e = absurd (over e)
      by (phase.Ended a) e = rw e (refl, refl)

-- THE TABLE OF A READING CALL
pub reads : (call : ReadCall) (o : Outcome) (bytes : List ℕ) (n w k d : ℕ) → Says k d (said_r (report_of call o bytes n w)) ↔ Reads call o bytes n w k d
reads call o bytes n w k d =
    rw (said call o bytes n w)
    (row_of (Reads call o bytes n w) (leads call o bytes n w (judge_of call o bytes n w)) (judge_holds call o bytes n w) k d, report_row call o bytes n w k d)
