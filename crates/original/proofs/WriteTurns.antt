-- A writing call, fed, is the sequence of its frames' own retry loops.
-- Assumes nothing.
use Prim.Native.Nat.{ℕ, zero, suc, ◌+◌, ◌-◌, ◌*◌, ◌≤◌, ◌<◌}
use mathlib.Core.Path.{◌≡◌, refl, ◌∙◌}
use mathlib.Core.List.{List, [], ◌∷◌, ◌++◌}
use mathlib.Core.Bool.{Bool, true, false}
use native.Mathlib.Omega.{arith}
use lib.ListN.{length}
use lib.Seq.{take-length}
use lib.Dec.{eqb}
use borrow.Author.Tests.{lt-ltb, eq-eqb, le-leb, lt-leb, eqb-false}
use Rattle.protocol.specs.Pick.{when◌then◌else◌}
use Rattle.protocol.specs.Answer.{number_of}
use Rattle.protocol.specs.Bytes.{send_of}
use Rattle.protocol.specs.Frame.{sealed, laid_of, work_laid}
use Rattle.protocol.proofs.Laws.{take_over, length_over, length_sealed}
use Rattle.protocol.specs.declared.error.Answer.{Answer}
use Rattle.protocol.specs.declared.error.Answer.TheVariants as answer
use Rattle.engine.specs.Pick.{case◌waiting◌ended◌, case◌acknowledged◌error◌timeout◌, case◌retry◌spent◌}
use Rattle.engine.specs.Budget.{failed, more_of, nothing, waited, tallied}
use Rattle.engine.specs.Bus.{write_of, phase_after, fits_of}
use Rattle.engine.specs.Limit.{admitted}
use Rattle.engine.specs.declared.budget.Tally.{Tally}
use Rattle.engine.specs.declared.bus.Phase.TheVariants as phase
use Rattle.writing.specs.Frames.{is_flash, first_address, bytes_at, frame_count}
use Rattle.writing.specs.Writing as writing
use Rattle.writing.specs.declared.frames.Frames.{Frames}
use Rattle.writing.specs.declared.call.WritePlan.{WritePlan}
use Rattle.writing.specs.declared.call.WriteCall.{WriteCall}
use Rattle.original.specs.Bus.{BusOutcome, Acknowledged, BusError, Timeout, Made, brings, write, Log, begun, delayed, Came, Ok, Err, bus_op◌err◌ok◌, settle}
use Rattle.original.specs.Fed.{Lending, Lends, told, reply, answered, shows◌sending◌transfer◌answer◌, wrote◌taken◌refused◌, fed_write}
use Rattle.original.specs.OriginalInterface.{write_with_retries_internal}
use Rattle.original.proofs.Laws.{missed, one_wait}

-- one that has ended says its answer
at_end : (call : WriteCall) (payload : List ℕ) (lent : ℕ → Lending) (done : List Made) (a : Answer) → call.phase ≡ phase.Ended a
    → (outcomes : List BusOutcome) → fed_write call payload lent done outcomes ≡ answered a (record { transfers = done; waits = call.tally.waits }) outcomes
unfolding fed_write writing.next_of case◌waiting◌ended◌ shows◌sending◌transfer◌answer◌
at_end call payload lent done a e [] = rw e
at_end call payload lent done a e (o ∷ outcomes) = rw e

-- a call that gives up says an error
gave_up_lem : (fs : Frames) (i : ℕ) (why : Answer) (log : Log) (outcomes : List BusOutcome) → eqb (number_of why) 0 ≡ false
    → answered (writing.gave_up fs i why) log outcomes ≡ Err (writing.gave_up fs i why) log outcomes
unfolding answered writing.gave_up when◌then◌else◌
gave_up_lem fs i why log outcomes e = by (is_flash fs) (eqb i 0)
  where
    by : (flash first : Bool) → answered (when flash then (when first then why else answer.PartialDataFlashWrite (i * 32)) else why) log outcomes ≡ Err (when flash then (when first then why else answer.PartialDataFlashWrite (i * 32)) else why) log outcomes
    by true true = rw e
    by true false = refl
    by false first = rw e

module _ (plan : WritePlan) (payload : List ℕ) (w : ℕ) where
  -- the call that has sent i frames and waits, with `left` retries for the frame that is due and what it has counted
  abbrev pub at : ℕ → ℕ → Tally → WriteCall
  at i left tally = record {
    task = record { plan = plan; lent = record { length = length payload; work = w } };
    phase = phase.Waiting;
    sent = i;
    budget = record { left = left };
    tally = tally;
  }

  -- whether the caller's own bytes go out
  abbrev pub own : Bool
  own = writing.own_bytes (at 0 0 nothing)

  -- frame i as it goes out
  unfoldable pub frame_at : ℕ → List ℕ
  frame_at i = when own then payload else sealed plan.pec (bytes_at plan.frames i payload)

  fits : fits_of (record { length = length payload; work = w }) (length payload) w ≡ true
  unfolding fits_of
  fits = rw (eq-eqb (length payload) (length payload) refl, eq-eqb w w refl)

  -- what it shows: frame i
  shown : {A : Type 0} (i left : ℕ) (tally : Tally) (work : List ℕ) (f : Made → A) (g : Answer → A) → length work ≡ w → (own ≡ false → length (bytes_at plan.frames i payload) < w)
      → (t : Bool) → own ≡ t
      → (shows writing.next_of (at i left tally) payload (length work) sending writing.part_of (at i left tally) payload (writing.work_after (at i left tally) payload work) transfer f answer g) ≡ f (write (frame_at i))
  unfolding writing.next_of writing.work_after writing.part_of writing.own_bytes writing.shown_of writing.work_shown writing.due_bytes case◌waiting◌ended◌ frame_at shows◌sending◌transfer◌answer◌ when◌then◌else◌ send_of laid_of work_laid write_of
  shown i left tally work f g e h true o = rw (e, fits, o, o, take-length)
  shown i left tally work f g e h false o = rw (e, fits, lt-ltb _ _ (h o), o, o, take_over)

  -- showing leaves the work buffer as long as it was
  kept : (i left : ℕ) (tally : Tally) (work : List ℕ) → length work ≡ w → (own ≡ false → length (bytes_at plan.frames i payload) < w)
      → (t : Bool) → own ≡ t → length (writing.work_after (at i left tally) payload work) ≡ w
  unfolding writing.work_after writing.own_bytes writing.work_shown writing.due_bytes case◌waiting◌ended◌ when◌then◌else◌ work_laid
  kept i left tally work e h true o = rw (e, fits, o) e
  kept i left tally work e h false o =
      let short : length (sealed plan.pec (bytes_at plan.frames i payload)) ≤ length work = omega (arith, h o, length_sealed plan.pec (bytes_at plan.frames i payload)) in
      rw (e, fits, lt-ltb _ _ (h o), o, length_over) e

  -- a report is taken
  reported : {A : Type 0} (i left : ℕ) (tally : Tally) (frame beside : List ℕ) (o : BusOutcome) (f : WriteCall → A) (g : Answer → A) (n : ℕ) → n ≡ w
      → (wrote writing.report_of (at i left tally) (told o) (length (reply (write frame) beside o)) (length payload) n taken f refused g) ≡ f (writing.settle_of (at i left (tallied tally)) (told o))
  unfolding writing.report_of writing.counted_of writing.replied_of told reply brings case◌waiting◌ended◌ case◌acknowledged◌error◌timeout◌ wrote◌taken◌refused◌ when◌then◌else◌
  reported i left tally frame beside (Acknowledged bytes) f g n e = rw (e, fits)
  reported i left tally frame beside (BusError code) f g n e = rw (e, fits)
  reported i left tally frame beside Timeout f g n e = rw (e, fits)

  -- what it has done, once frame i is out
  abbrev out : ℕ → Tally → List Made → Log
  out i tally done = record { transfers = done ++ (write (frame_at i) ∷ []); waits = tally.waits }

  -- frames from i on, each with a budget of its own
  unfoldable pub each : ℕ → ℕ → Log → List BusOutcome → Came
  each zero i log outcomes = Ok log outcomes
  each (suc todo) i log outcomes =
      settle (λ log outcomes. each todo (suc i) log outcomes) (writing.gave_up plan.frames i) (write_with_retries_internal plan.retries (frame_at i) log outcomes)

  module _ (lent : ℕ → Lending) (steady : Lends w lent) where
    -- a failed attempt
    after_failure : (i left : ℕ) (tally : Tally) (why : Answer) (done : List Made) (outcomes : List BusOutcome) (t : Bool) → eqb left 0 ≡ t
        → fed_write (writing.fail_of (at i left tally) why) payload lent done outcomes
        ≡ (when eqb left 0 then answered (writing.gave_up plan.frames i why) (record { transfers = done; waits = tally.waits }) outcomes
        else fed_write (at i (left - 1) (missed plan.growing plan.retries left tally)) payload lent done outcomes)
    unfolding writing.fail_of writing.end_of writing.retry_of failed waited case◌retry◌spent◌ when◌then◌else◌
    after_failure i left tally why done outcomes true e =
        let f : writing.fail_of (at i left tally) why ≡ writing.end_of (at i left tally) why = rw e in
        rw (f, e) (at_end (writing.end_of (at i left tally) why) payload lent done _ refl outcomes)
    after_failure i left tally why done outcomes false e = rw e

    -- a turn: frame i goes out, and what the bus did with it is reported
    turn : (i left : ℕ) (tally : Tally) (done : List Made) (o : BusOutcome) (outcomes : List BusOutcome) → (own ≡ false → length (bytes_at plan.frames i payload) < w)
        → fed_write (at i left tally) payload lent done (o ∷ outcomes)
        ≡ fed_write (writing.settle_of (at i left (tallied tally)) (told o)) payload lent (done ++ (write (frame_at i) ∷ [])) outcomes
    unfolding fed_write
    turn i left tally done o outcomes h =
        shown i left tally (lent (length done)).work _ _ (steady (length done)) h own refl
        ∙ reported i left tally (frame_at i) (lent (length done)).beside o _ _ _ (kept i left tally (lent (length done)).work (steady (length done)) h own refl)

    module _ (room : (i : ℕ) → i < frame_count plan.frames (length payload) → own ≡ false → length (bytes_at plan.frames i payload) < w)
        (few : frame_count plan.frames (length payload) ≤ 256) (small : plan.retries ≤ 65535) where
      -- what a call does that waits
      abbrev Same : List BusOutcome → Type 0
      Same outcomes = (todo i left : ℕ) (tally : Tally) (done : List Made) → suc (i + todo) ≡ frame_count plan.frames (length payload) → left ≤ 65535 → tally.waits + left ≤ suc i * 65535
          → fed_write (at i left tally) payload lent done outcomes
          ≡ settle (each todo (suc i)) (writing.gave_up plan.frames i) (write_with_retries_internal left (frame_at i) (record { transfers = done; waits = tally.waits }) outcomes)

      after_frame : (outcomes : List BusOutcome) → Same outcomes → (todo i left : ℕ) (tally : Tally) (done : List Made) → suc (i + todo) ≡ frame_count plan.frames (length payload) → tally.waits ≤ suc i * 65535
          → fed_write (writing.advance_of (at i left tally)) payload lent done outcomes ≡ each todo (suc i) (record { transfers = done; waits = tally.waits }) outcomes
      unfolding each writing.advance_of phase_after answered when◌then◌else◌
      after_frame outcomes ih zero i left tally done c b =
          let m : more_of i ≡ suc i = omega arith in
          let p : (writing.advance_of (at i left tally)).phase ≡ phase.Ended answer.Done = rw (m, le-leb (frame_count plan.frames (length payload)) (suc i) (omega arith)) in
          at_end (writing.advance_of (at i left tally)) payload lent done answer.Done p outcomes
      after_frame outcomes ih (suc todo) i left tally done c b =
          let m : more_of i ≡ suc i = omega arith in
          let q : writing.advance_of (at i left tally) ≡ at (suc i) plan.retries tally = rw (m, lt-leb (frame_count plan.frames (length payload)) (suc i) (omega arith)) in
          rw q (ih todo (suc i) plan.retries tally done (omega arith) small (omega arith))

      after_fault : (outcomes : List BusOutcome) → Same outcomes → (todo i left : ℕ) (tally : Tally) (why : Answer) (done : List Made) → eqb (number_of why) 0 ≡ false
          → suc (i + todo) ≡ frame_count plan.frames (length payload) → left ≤ 65535 → tally.waits + left ≤ suc i * 65535 → (t : Bool) → eqb left 0 ≡ t
          → fed_write (writing.fail_of (at i left tally) why) payload lent (done ++ (write (frame_at i) ∷ [])) outcomes
          ≡ settle (each todo (suc i)) (writing.gave_up plan.frames i)
          (when eqb left 0 then Err why (out i tally done) outcomes else write_with_retries_internal (left - 1) (frame_at i) (delayed (out i tally done)) outcomes)
      unfolding when◌then◌else◌ settle
      after_fault outcomes ih todo i left tally why done bad c l b true t =
          after_failure i left tally why (done ++ (write (frame_at i) ∷ [])) outcomes true t ∙ rw t (gave_up_lem plan.frames i why (out i tally done) outcomes bad)
      after_fault outcomes ih todo i left tally why done bad c l b false t =
          let m : (missed plan.growing plan.retries left tally).waits ≡ tally.waits + 1 = one_wait plan.growing plan.retries left tally (omega (arith, eqb-false left 0 t)) in
          let some : 1 ≤ left = omega (arith, eqb-false left 0 t) in
          after_failure i left tally why (done ++ (write (frame_at i) ∷ [])) outcomes false t
          ∙ rw (t, ← m) (ih todo i (left - 1) (missed plan.growing plan.retries left tally) (done ++ (write (frame_at i) ∷ [])) c (omega arith) (omega arith))

      same : (outcomes : List BusOutcome) → Same outcomes
      unfolding fed_write write_with_retries_internal settle bus_op◌err◌ok◌ told writing.settle_of case◌acknowledged◌error◌timeout◌ tallied
      same [] todo i left tally done c l b = shown i left tally (lent (length done)).work _ _ (steady (length done)) (room i (omega arith)) own refl
      same (Acknowledged bytes ∷ outcomes) todo i left tally done c l b =
          let h : own ≡ false → length (bytes_at plan.frames i payload) < w = room i (omega arith) in
          turn i left tally done (Acknowledged bytes) outcomes h
          ∙ after_frame outcomes (same outcomes) todo i left (tallied tally) _ c (omega arith)
      same (BusError code ∷ outcomes) todo i left tally done c l b =
          let h : own ≡ false → length (bytes_at plan.frames i payload) < w = room i (omega arith) in
          turn i left tally done (BusError code) outcomes h
          ∙ after_fault outcomes (same outcomes) todo i left (tallied tally) (answer.I2c code) done refl c l b (eqb left 0) refl
      same (Timeout ∷ outcomes) todo i left tally done c l b =
          let h : own ≡ false → length (bytes_at plan.frames i payload) < w = room i (omega arith) in
          turn i left tally done Timeout outcomes h
          ∙ after_fault outcomes (same outcomes) todo i left (tallied tally) answer.Timeout done refl c l b (eqb left 0) refl

      -- a call that is admitted, fed, is its frames one after the other
      pub frames_in_turn : (todo : ℕ) (outcomes : List BusOutcome) → frame_count plan.frames (length payload) ≡ suc todo
          → admitted plan.limit (first_address plan.frames) (length payload) w ≡ phase.Waiting
          → fed_write (writing.start_of plan (length payload) w) payload lent [] outcomes ≡ each (suc todo) 0 begun outcomes
      unfolding each writing.start_of nothing
      frames_in_turn todo outcomes c a = rw a (same outcomes todo 0 plan.retries nothing [] (omega arith) small (omega arith))

-- a call that is refused, or done at once, makes no transfer
pub no_frame : (plan : WritePlan) (payload : List ℕ) (w : ℕ) (lent : ℕ → Lending) (a : Answer) (outcomes : List BusOutcome) → admitted plan.limit (first_address plan.frames) (length payload) w ≡ phase.Ended a
    → fed_write (writing.start_of plan (length payload) w) payload lent [] outcomes ≡ answered a begun outcomes
unfolding writing.start_of nothing
no_frame plan payload w lent a outcomes e = at_end (writing.start_of plan (length payload) w) payload lent [] a e outcomes
