-- A refused report changes nothing, a call ends only by a report that was taken, and what is not sent leaves the work buffer alone.
-- Assumes nothing.
use Rattle.engine.specs.Bus.{Reported}
use Rattle.std.specs.Prelude.{Err, None, Ok, Some, Option, Result}
use Prim.Native.Nat.{ℕ}
use mathlib.Core.Path.{◌≡◌, refl, sym, ap, subst, ◌∙◌}
use mathlib.Core.Bool.{Bool, true, false}
use mathlib.Core.List.{List, [], ◌∷◌}
use mathlib.Core.Logic.{inl, inr}
use native.Mathlib.Omega.{arith}
use lib.ListN.{length}
use lib.Dec.{ltb, leb, eqb}
use Rattle.protocol.specs.Pick.{when◌then◌else◌}
use Rattle.protocol.specs.Answer.{number_of}
use Rattle.protocol.specs.Bytes.{over}
use Rattle.protocol.specs.Frame.{laid_of, work_laid, sealed}
use Rattle.protocol.specs.Reply as reply
use Rattle.protocol.proofs.Laws.{drop_over}
use Rattle.protocol.specs.declared.error.Answer.{Answer}
use Rattle.protocol.specs.declared.error.Answer.TheVariants as answer
use Rattle.protocol.specs.declared.reply.Unheard.{Unheard}
use Rattle.protocol.specs.declared.reply.Unheard.TheVariants as unheard
use Rattle.engine.specs.Pick.{case◌waiting◌ended◌, case◌acknowledged◌error◌timeout◌, case◌retry◌spent◌}
use Rattle.engine.specs.Budget.{failed, more_of}
use Rattle.engine.specs.Bus.{write_of, phase_after, fits_of}
use Rattle.engine.specs.declared.bus.Outcome.{Outcome}
use Rattle.engine.specs.declared.bus.Outcome.TheVariants as outcome
use Rattle.engine.specs.declared.bus.Phase.{Phase}
use Rattle.engine.specs.declared.bus.Phase.TheVariants as phase
use Rattle.engine.specs.declared.bus.Transfer.{Transfer}
use Rattle.engine.specs.declared.bus.Transfer.TheVariants as transfer
use Rattle.writing.specs.Frames as frames
use Rattle.writing.specs.Writing as writing
use Rattle.writing.specs.declared.call.WriteCall.{WriteCall}
use Rattle.reading.specs.Pick.{case◌refused◌fault◌headed◌block◌}
use Rattle.reading.specs.Parts as parts
use Rattle.reading.specs.Reading as reading
use Rattle.reading.specs.declared.call.ReadCall.{ReadCall}
use Rattle.reading.specs.declared.call.Verdict.{Verdict}
use Rattle.reading.specs.declared.call.Verdict.TheVariants as verdict
use Rattle.answers.specs.Rows.{OneOf, Among, asked, SortW, Kept, SortR}
use Rattle.answers.specs.Steps.{Shown, AsksNothing, AsksOf}
use Rattle.answers.proofs.Laws.{fits_same}

-- a call goes on or is done
phase_ends : (ks : List ℕ) (count m : ℕ) → Among (0 ∷ ks) (phase_after count m)
unfolding phase_after when◌then◌else◌
phase_ends ks count m = by (leb count m) refl
  where
    by : (t : Bool) → leb count m ≡ t → Among (0 ∷ ks) (phase_after count m)
    by true t = rw t (inl refl)
    by false t = rw t tt

-- ---- a writing call

module _ (call : WriteCall) where
  Ending : Answer → Type 0
  Ending a = OneOf (0 ∷ 1 ∷ 2 ∷ 6 ∷ []) (number_of a)

  gives_up : (why : Answer) → Ending why → Ending (writing.gave_up call.task.plan.frames call.sent why)
  unfolding Ending writing.gave_up when◌then◌else◌
  gives_up why ok = by (frames.is_flash call.task.plan.frames) refl (eqb call.sent 0) refl
    where
      answer_of : Answer
      answer_of = writing.gave_up call.task.plan.frames call.sent why

      by : (f : Bool) → frames.is_flash call.task.plan.frames ≡ f → (z : Bool) → eqb call.sent 0 ≡ z → Ending answer_of
      by false f z q = let e : answer_of ≡ why = rw f in subst Ending (sym e) ok
      by true f true q = let e : answer_of ≡ why = rw (f, q) in subst Ending (sym e) ok
      by true f false q = rw (f, q) (inr (inr (inr (inl refl))))

  fail_ends : (why : Answer) → Ending why → Among (0 ∷ 1 ∷ 2 ∷ 6 ∷ []) (writing.fail_of (writing.counted_of call) why).phase
  unfolding Ending writing.fail_of writing.retry_of writing.end_of failed case◌retry◌spent◌ when◌then◌else◌ writing.counted_of
  fail_ends why ok = by (eqb call.budget.left 0) refl
    where
      by : (t : Bool) → eqb call.budget.left 0 ≡ t → Among (0 ∷ 1 ∷ 2 ∷ 6 ∷ []) (writing.fail_of (writing.counted_of call) why).phase
      by true t =
          let q : (writing.fail_of (writing.counted_of call) why).phase ≡ phase.Ended (writing.gave_up call.task.plan.frames call.sent why) = rw t in
          subst (Among (0 ∷ 1 ∷ 2 ∷ 6 ∷ [])) (sym q) (gives_up why ok)
      by false t = let q : (writing.fail_of (writing.counted_of call) why).phase ≡ phase.Waiting = rw t in subst (Among (0 ∷ 1 ∷ 2 ∷ 6 ∷ [])) (sym q) tt

  settle_ends : (o : Outcome) → Among (0 ∷ 1 ∷ 2 ∷ 6 ∷ []) (writing.settle_of (writing.counted_of call) o).phase
  unfolding Ending writing.settle_of writing.advance_of case◌acknowledged◌error◌timeout◌ writing.counted_of
  settle_ends outcome.Acknowledged = phase_ends (1 ∷ 2 ∷ 6 ∷ []) _ _
  settle_ends (outcome.BusError code) = fail_ends (answer.I2c code) (inr (inl refl))
  settle_ends outcome.Timeout = fail_ends answer.Timeout (inr (inr (inl refl)))

  -- EVERY REPORT TO A WRITING CALL
  pub sort_w : (o : Outcome) (r n w : ℕ) → SortW call (writing.report_of call o r n w)
  unfolding writing.report_of case◌waiting◌ended◌ when◌then◌else◌ writing.counted_of
  sort_w o r n w = by call.phase refl (fits_of call.task.lent n w) refl (writing.replied_of o r) refl
    where
      result : Reported WriteCall
      result = writing.report_of call o r n w

      by : (p : Phase) → call.phase ≡ p → (t : Bool) → fits_of call.task.lent n w ≡ t → (s : Bool) → writing.replied_of o r ≡ s → SortW call result
      by (phase.Ended a) e t f s g = let q : result ≡ Err (answer.NothingOutstanding, call) = rw e in subst (SortW call) (sym q) (inr (inr (inl refl)), refl)
      by phase.Waiting e false f s g = let q : result ≡ Err (answer.WrongBuffer, call) = rw (e, f) in subst (SortW call) (sym q) (inl refl, refl)
      by phase.Waiting e true f true g = let q : result ≡ Err (answer.WrongReply, call) = rw (e, f, g) in subst (SortW call) (sym q) (inr (inl refl), refl)
      by phase.Waiting e true f false g = let q : result ≡ Ok (writing.settle_of (writing.counted_of call) o) = rw (e, f, g) in subst (SortW call) (sym q) (e, settle_ends o)

  -- WHAT A WRITING CALL SHOWS
  pub shows_w : (payload work : List ℕ) → Shown (Unit {0}) AsksNothing call.phase call.task.lent (length payload) (length work) work (writing.work_after call payload work) (writing.next_of call payload (length work))
  unfolding writing.next_of writing.work_after writing.shown_of writing.work_shown laid_of work_laid write_of case◌waiting◌ended◌ when◌then◌else◌
  shows_w payload work =
      by call.phase refl (fits_of call.task.lent (length payload) (length work)) refl (writing.own_bytes call) refl
      (ltb (length (writing.due_bytes call payload)) (length work)) refl
    where
      At : List ℕ → Transfer → Type 0
      At after shown = Shown (Unit {0}) AsksNothing call.phase call.task.lent (length payload) (length work) work after shown

      both : (after : List ℕ) (shown : Transfer) → writing.work_after call payload work ≡ after → writing.next_of call payload (length work) ≡ shown → At after shown
          → At (writing.work_after call payload work) (writing.next_of call payload (length work))
      both after shown p q x = subst (λ (l : List ℕ). At l (writing.next_of call payload (length work))) (sym p) (subst (At after) (sym q) x)

      frame : Option ℕ
      frame = laid_of call.task.plan.pec (writing.due_bytes call payload) (length work)

      sent : List ℕ
      sent = sealed call.task.plan.pec (writing.due_bytes call payload)

      due : call.phase ≡ phase.Waiting → fits_of call.task.lent (length payload) (length work) ≡ true → writing.own_bytes call ≡ false
          → writing.next_of call payload (length work) ≡ write_of frame
      due e f g = rw (g, f, e)

      has_room : ltb (length (writing.due_bytes call payload)) (length work) ≡ true → frame ≡ Some (length (sealed call.task.plan.pec (writing.due_bytes call payload)))
      has_room h = rw h

      no_room : ltb (length (writing.due_bytes call payload)) (length work) ≡ false → frame ≡ None
      no_room h = rw h

      by : (p : Phase) → call.phase ≡ p → (t : Bool) → fits_of call.task.lent (length payload) (length work) ≡ t → (s : Bool) → writing.own_bytes call ≡ s
          → (k : Bool) → ltb (length (writing.due_bytes call payload)) (length work) ≡ k
          → At (writing.work_after call payload work) (writing.next_of call payload (length work))
      by (phase.Ended a) e t f s g k h = both work (transfer.Ended a) (rw e) (rw e) (e, refl)
      by phase.Waiting e false f s g k h = both work (transfer.Refused answer.WrongBuffer) (rw (e, f)) (rw (e, f)) (e, refl, refl)
      by phase.Waiting e true f true g k h = both work (transfer.Write (length payload)) (rw (g, f, e)) (rw (g, f, e)) (e, fits_same _ _ _ f, tt, refl)
      by phase.Waiting e true f false g true h =
          both (over sent work) (transfer.Write (length sent)) (rw (h, g, f, e)) (due e f g ∙ ap write_of (has_room h)) (e, fits_same _ _ _ f, tt, drop_over (length sent) sent work (omega arith))
      by phase.Waiting e true f false g false h = both work (transfer.Refused answer.WrongBuffer) (rw (h, g, f, e)) (due e f g ∙ ap write_of (no_room h)) (e, refl, refl)

-- ---- a reading call

module _ (call : ReadCall) where
  reads_fail : (why : Answer) → OneOf (0 ∷ 1 ∷ 2 ∷ 3 ∷ []) (number_of why) → Among (0 ∷ 1 ∷ 2 ∷ 3 ∷ []) (reading.fail_of (reading.counted_of call) why).phase
  unfolding reading.fail_of reading.retry_of reading.end_of failed case◌retry◌spent◌ when◌then◌else◌ reading.counted_of
  reads_fail why ok = by (eqb call.budget.left 0) refl
    where
      by : (t : Bool) → eqb call.budget.left 0 ≡ t → Among (0 ∷ 1 ∷ 2 ∷ 3 ∷ []) (reading.fail_of (reading.counted_of call) why).phase
      by true t = let q : (reading.fail_of (reading.counted_of call) why).phase ≡ phase.Ended why = rw t in subst (Among (0 ∷ 1 ∷ 2 ∷ 3 ∷ [])) (sym q) ok
      by false t = let q : (reading.fail_of (reading.counted_of call) why).phase ≡ phase.Waiting = rw t in subst (Among (0 ∷ 1 ∷ 2 ∷ 3 ∷ [])) (sym q) tt

  -- what a verdict can be
  abbrev Fit : Verdict → Type 0
  Fit (verdict.Refused a) = OneOf (8 ∷ 9 ∷ 10 ∷ []) (number_of a)
  Fit (verdict.Failed a) = (call.phase ≡ phase.Waiting) × OneOf (0 ∷ 1 ∷ 2 ∷ 3 ∷ []) (number_of a)
  Fit verdict.Head = call.phase ≡ phase.Waiting
  Fit verdict.Block = call.phase ≡ phase.Waiting

  heard_fit : (h : Result (Unit {0}) Unheard) → call.phase ≡ phase.Waiting → Fit (reading.verdict_of h)
  unfolding reading.verdict_of
  heard_fit (Err unheard.WrongLength) p = inr (inl refl)
  heard_fit (Err unheard.WrongPec) p = (p, inr (inr (inr (inl refl))))
  heard_fit (Ok tt) p = p

  head_fit : (r : ℕ) → call.phase ≡ phase.Waiting → Fit (reading.heard_head r)
  unfolding reading.heard_head when◌then◌else◌
  head_fit r p = by (eqb r 0) refl
    where
      by : (t : Bool) → eqb r 0 ≡ t → Fit (reading.heard_head r)
      by true t = let q : reading.heard_head r ≡ verdict.Head = rw t in subst Fit (sym q) p
      by false t = let q : reading.heard_head r ≡ verdict.Refused answer.WrongReply = rw t in subst Fit (sym q) (inr (inl refl))

  outcome_fit : (o : Outcome) (bytes : List ℕ) → call.phase ≡ phase.Waiting → Fit (reading.weigh_of call o bytes)
  unfolding reading.weigh_of reading.acknowledged_of reading.heard_block case◌acknowledged◌error◌timeout◌ when◌then◌else◌
  outcome_fit outcome.Acknowledged bytes p = by call.heading refl
    where
      by : (t : Bool) → call.heading ≡ t → Fit (reading.weigh_of call outcome.Acknowledged bytes)
      by true h =
          let q : reading.weigh_of call outcome.Acknowledged bytes ≡ reading.heard_head (length bytes) = rw h in
          subst Fit (sym q) (head_fit (length bytes) p)
      by false h =
          let q : reading.weigh_of call outcome.Acknowledged bytes ≡ reading.heard_block (reading.due_ask call) bytes = rw h in
          subst Fit (sym q) (heard_fit (reply.heard_of (reading.due_ask call) bytes) p)
  outcome_fit (outcome.BusError code) bytes p = (p, inr (inl refl))
  outcome_fit outcome.Timeout bytes p = (p, inr (inr (inl refl)))

  judge_fit : (o : Outcome) (bytes : List ℕ) (n w : ℕ) → Fit (reading.judge_of call o bytes n w)
  unfolding reading.judge_of case◌waiting◌ended◌ when◌then◌else◌
  judge_fit o bytes n w = by call.phase refl (fits_of call.task.lent n w) refl
    where
      by : (p : Phase) → call.phase ≡ p → (t : Bool) → fits_of call.task.lent n w ≡ t → Fit (reading.judge_of call o bytes n w)
      by (phase.Ended a) e t f =
          let q : reading.judge_of call o bytes n w ≡ verdict.Refused answer.NothingOutstanding = rw e in
          subst Fit (sym q) (inr (inr (inl refl)))
      by phase.Waiting e false f =
          let q : reading.judge_of call o bytes n w ≡ verdict.Refused answer.WrongBuffer = rw (e, f) in
          subst Fit (sym q) (inl refl)
      by phase.Waiting e true f =
          let q : reading.judge_of call o bytes n w ≡ reading.weigh_of call o bytes = rw (e, f) in
          subst Fit (sym q) (outcome_fit o bytes e)

  -- a call that goes on or is done
  headed_ends : Among (0 ∷ 1 ∷ 2 ∷ 3 ∷ []) (reading.headed_of (reading.counted_of call)).phase
  unfolding reading.headed_of
  headed_ends = phase_ends (1 ∷ 2 ∷ 3 ∷ []) _ _

  block_ends : Among (0 ∷ 1 ∷ 2 ∷ 3 ∷ []) (reading.advance_of (reading.counted_of call)).phase
  unfolding reading.advance_of
  block_ends = phase_ends (1 ∷ 2 ∷ 3 ∷ []) _ _

  -- once a block is handed over the call waits or is done
  block_kept : (before after : List ℕ) → Kept (reading.advance_of (reading.counted_of call)).phase before after
  unfolding reading.advance_of phase_after when◌then◌else◌ reading.counted_of
  block_kept before after going undone = by (leb (parts.read_count call.task.plan.reads call.task.lent.length) (more_of call.received)) refl
    where
      by : (t : Bool) → leb (parts.read_count call.task.plan.reads call.task.lent.length) (more_of call.received) ≡ t → after ≡ before
      by true t = absurd (undone (rw t (refl, refl)))
      by false t = absurd (going (rw t))

  -- EVERY REPORT TO A READING CALL
  pub sort_r : (o : Outcome) (bytes buffer : List ℕ) (w : ℕ)
      → SortR call buffer (reading.buffer_after call o bytes buffer w) (reading.report_of call o bytes (length buffer) w)
  unfolding reading.report_of reading.buffer_after case◌refused◌fault◌headed◌block◌ reading.counted_of
  sort_r o bytes buffer w = by (reading.judge_of call o bytes (length buffer) w) refl (judge_fit o bytes (length buffer) w)
    where
      At : List ℕ → Reported ReadCall → Type 0
      At after result = SortR call buffer after result

      goal : Type 0
      goal = At (reading.buffer_after call o bytes buffer w) (reading.report_of call o bytes (length buffer) w)

      both : (after : List ℕ) (result : Reported ReadCall) → reading.buffer_after call o bytes buffer w ≡ after → reading.report_of call o bytes (length buffer) w ≡ result → At after result → goal
      both after result p q x = subst (λ (l : List ℕ). At l (reading.report_of call o bytes (length buffer) w)) (sym p) (subst (At after) (sym q) x)

      by : (v : Verdict) → reading.judge_of call o bytes (length buffer) w ≡ v → Fit (reading.judge_of call o bytes (length buffer) w) → goal
      by (verdict.Refused a) e fit = both buffer (Err (a, call)) (rw e) (rw e) (subst Fit e fit, refl, refl)
      by (verdict.Failed a) e fit =
          let f : Fit (verdict.Failed a) = subst Fit e fit in
          both buffer (Ok (reading.fail_of (reading.counted_of call) a)) (rw e) (rw e) (f.0, reads_fail a f.1, (λ x y. refl))
      by verdict.Head e fit =
          let f : Fit verdict.Head = subst Fit e fit in
          both buffer (Ok (reading.headed_of (reading.counted_of call))) (rw e) (rw e) (f, headed_ends, (λ x y. refl))
      by verdict.Block e fit =
          let f : Fit verdict.Block = subst Fit e fit in
          both (reading.stored_of call bytes buffer) (Ok (reading.advance_of (reading.counted_of call))) (rw e) (rw e) (f, block_ends, block_kept buffer (reading.stored_of call bytes buffer))

  -- WHAT A READING CALL SHOWS
  pub shows_r : (n : ℕ) (work : List ℕ) → Shown (call.heading ≡ true) (AsksOf call) call.phase call.task.lent n (length work) work (reading.work_after call n work) (reading.next_of call n (length work))
  unfolding reading.next_of reading.work_after reading.shown_of reading.work_shown reading.shown_head reading.work_head laid_of work_laid write_of asked case◌waiting◌ended◌ when◌then◌else◌
  shows_r n work =
      by call.phase refl (fits_of call.task.lent n (length work)) refl call.heading refl
      (ltb (length (parts.head_bytes call.task.plan.head call.received)) (length work)) refl
    where
      At : List ℕ → Transfer → Type 0
      At after shown = Shown (call.heading ≡ true) (AsksOf call) call.phase call.task.lent n (length work) work after shown

      both : (after : List ℕ) (shown : Transfer) → reading.work_after call n work ≡ after → reading.next_of call n (length work) ≡ shown → At after shown
          → At (reading.work_after call n work) (reading.next_of call n (length work))
      both after shown p q x = subst (λ (l : List ℕ). At l (reading.next_of call n (length work))) (sym p) (subst (At after) (sym q) x)

      frame : Option ℕ
      frame = laid_of call.task.plan.head_pec (parts.head_bytes call.task.plan.head call.received) (length work)

      sent : List ℕ
      sent = sealed call.task.plan.head_pec (parts.head_bytes call.task.plan.head call.received)

      due : call.phase ≡ phase.Waiting → fits_of call.task.lent n (length work) ≡ true → call.heading ≡ true → reading.next_of call n (length work) ≡ write_of frame
      due e f g = rw (g, f, e)

      has_room : ltb (length (parts.head_bytes call.task.plan.head call.received)) (length work) ≡ true
          → frame ≡ Some (length (sealed call.task.plan.head_pec (parts.head_bytes call.task.plan.head call.received)))
      has_room h = rw h

      no_room : ltb (length (parts.head_bytes call.task.plan.head call.received)) (length work) ≡ false → frame ≡ None
      no_room h = rw h

      by : (p : Phase) → call.phase ≡ p → (t : Bool) → fits_of call.task.lent n (length work) ≡ t → (s : Bool) → call.heading ≡ s
          → (k : Bool) → ltb (length (parts.head_bytes call.task.plan.head call.received)) (length work) ≡ k
          → At (reading.work_after call n work) (reading.next_of call n (length work))
      by (phase.Ended a) e t f s g k h = both work (transfer.Ended a) (rw e) (rw e) (e, refl)
      by phase.Waiting e false f s g k h = both work (transfer.Refused answer.WrongBuffer) (rw (f, e)) (rw (f, e)) (e, refl, refl)
      by phase.Waiting e true f false g k h = both work (transfer.Read (reading.due_ask call).command (reply.bytes_asked (reading.due_ask call))) (rw (g, f, e)) (rw (g, f, e)) (e, fits_same _ _ _ f, (g, refl, rw g), refl)
      by phase.Waiting e true f true g true h =
          both (over sent work) (transfer.Write (length sent)) (rw (h, g, f, e)) (due e f g ∙ ap write_of (has_room h)) (e, fits_same _ _ _ f, g, drop_over (length sent) sent work (omega arith))
      by phase.Waiting e true f true g false h = both work (transfer.Refused answer.WrongBuffer) (rw (h, g, f, e)) (due e f g ∙ ap write_of (no_room h)) (e, refl, refl)
