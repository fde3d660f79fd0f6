-- The model's courses are an instance of demand 3: the gauge takes every block's frame, so a transfer of the course is one of the events.
-- Assumes nothing.
use Prim.Native.Nat.{ℕ, zero, suc, ◌+◌, ◌*◌, ◌-◌, ◌≤◌, ◌<◌, min}
use mathlib.Core.Path.{◌≡◌, refl, sym, ap, subst, ◌∙◌}
use mathlib.Core.Bool.{Bool, true, false}
use mathlib.Core.List.{List, [], ◌∷◌, ◌++◌}
use native.Mathlib.Omega.{arith}
use lib.Dec.{eqb}
use lib.ListN.{length, drop, length-take, length-drop, replicate}
use borrow.Author.Tests.{eq-eqb, ne_eqb, eqb-true, eqb-false}
use Rattle.protocol.specs.Pick.{when◌then◌else◌}
use Rattle.protocol.specs.Window.{in_window}
use Rattle.protocol.specs.declared.common.Config.{Config}
use Rattle.protocol.specs.declared.error.Answer.{Answer}
use Rattle.protocol.specs.declared.error.Answer.TheVariants as answer
use Rattle.protocol.proofs.WindowLaws.{within}
use Rattle.engine.specs.Pick.{case◌waiting◌ended◌}
use Rattle.engine.specs.Bus as bus
use Rattle.engine.specs.Made.{Made, write}
use Rattle.engine.specs.declared.budget.Budget.{Budget}
use Rattle.engine.specs.declared.budget.Tally.{Tally}
use Rattle.engine.specs.declared.bus.Phase.{Phase}
use Rattle.engine.specs.declared.bus.Phase.TheVariants as phase
use Rattle.engine.specs.declared.bus.Transfer.{Transfer}
use Rattle.engine.specs.declared.bus.Transfer.TheVariants as transfer
use Rattle.writing.specs.Frames.{block_bytes}
use Rattle.writing.specs.Writing as writing
use Rattle.calls.specs.Call.{start_with, start_of, next_of, work_after, part_of, wrote_of, report_of, buffer_after, phase_of, fits_of}
use Rattle.calls.specs.Kind.{plan_of}
use Rattle.calls.specs.declared.kind.Kind.TheVariants as kind
use Rattle.model_gauge.specs.Gauge.{taken, acts, stored, effect_of}
use Rattle.model_gauge.specs.declared.gauge.Fate.{Fate}
use Rattle.model_gauge.specs.declared.gauge.Fate.TheVariants as fate
use Rattle.model_gauge.specs.declared.gauge.Gauge.{Gauge}
use Rattle.courses.specs.Pick.{case◌sending◌to◌none◌}
use Rattle.courses.specs.Course.{fate_of, fates_of, sound_of, end_of}
use Rattle.courses.specs.Run.{Left, left, taken_of, heard_in, step_of, drive_of, ended_of, leaves_of, run_of, left_over}
use Rattle.courses.specs.declared.course.End.{End}
use Rattle.courses.proofs.Cases.{at_write}
use Rattle.promises.specs.Flash.{place_of, block_of, Overlaid}
use Rattle.promises.specs.Events as written
use Rattle.promises.specs.Events.{each}
use Rattle.promises.specs.Writes.{WriteWorld, began, shows, step, run}
use Rattle.promises.specs.Demand3.{clean, Told, end_in, Tells, EndedWell, ended_well, Accepted}
use Rattle.promises.specs.Courses.{event_at, events_at, beside, ran, ran_in, stopped_at, Leaves, Runs, started, ran_on, GoOnCourses, OnCourses}
use Rattle.promises.specs.Traffic.{begins}
use Rattle.promises.proofs.RunLaws.{sound_both, runs_both}
use Rattle.promises.proofs.Frames.{block_acts}
use Rattle.promises.proofs.Machine.{world_at, frame_of, shows_block, shows_ended, lays, hands_out, laid_long, is_taken, nothing_lent, made_sent, made_ended}
use Rattle.promises.proofs.Stopped.{ToldAt, Going, going_step, going, run_empty, stopped}
use Rattle.promises.proofs.CourseRows.{is_admitted}
use Rattle.promises.proofs.Resumed.{LeftBy, goes, unbroken as whole-write}

-- a transfer that is heard is acknowledged; one that is lost is a timeout, with nothing done or with the full work done
abbrev pub event_in : Fate → written.Event
event_in fate.Heard = written.acknowledged
event_in fate.LostBefore = written.failed written.timed_out
event_in fate.LostAfter = written.unheard written.timed_out

abbrev pub events_in : List Fate → List written.Event
events_in [] = []
events_in (f ∷ fs) = event_in f ∷ events_in fs

-- which is what the bytes of a course say
event_at_lem : (byte : ℕ) → event_in (fate_of byte) ≡ event_at byte
unfolding fate_of when◌then◌else◌
event_at_lem zero = refl
event_at_lem (suc zero) = refl
event_at_lem (suc (suc n)) = rw (ne_eqb (suc (suc n)) 0 (λ e. omega arith), ne_eqb (suc (suc n)) 1 (λ e. omega arith))

pub events_at_lem : (course : List ℕ) → events_in (fates_of course) ≡ events_at course
unfolding fates_of
events_at_lem [] = refl
events_at_lem (byte ∷ course) = rw (event_at_lem byte, events_at_lem course)

-- a transfer that the gauge takes comes to what the demand supposes of its event
pub effect_in : (f : Fate) (made : Made) (reply : List ℕ) (gauge pointed : Gauge) (flash now : List ℕ) → acts made gauge flash ≡ taken reply pointed now
    → effect_of f made gauge flash
    ≡ record { outcome = written.heard_as (event_in f); reply = written.lent_of (event_in f) reply []; flash = written.after (event_in f) flash now; gauge = written.after (event_in f) gauge pointed }
unfolding effect_of
effect_in fate.Heard made reply gauge pointed flash now t = t
effect_in fate.LostBefore made reply gauge pointed flash now t = refl
effect_in fate.LostAfter made reply gauge pointed flash now t = rw t

-- what its full work leaves as it was is as it was whatever the event
pub same_after : {A : Type 0} (e : written.Event) (x : A) → written.after e x x ≡ x
same_after written.acknowledged x = refl
same_after (written.failed c) x = refl
same_after (written.unheard c) x = refl

-- a write brings no bytes
none_lent : (e : written.Event) → written.lent_of e [] [] ≡ []
none_lent written.acknowledged = refl
none_lent (written.failed c) = refl
none_lent (written.unheard c) = refl

module _ (config : Config) (address : ℕ) (payload : List ℕ) (n : ℕ) (gauge : Gauge) (buffer : List ℕ) where
  -- an ended call stays as it is
  drive_ended : (es : List Fate) (a : Answer) (i : ℕ) (b : Budget) (t : Tally) (work flash : List ℕ)
      → drive_of payload es (beside gauge buffer (world_at config address payload n (phase.Ended a) i b t work flash))
      ≡ beside gauge buffer (world_at config address payload n (phase.Ended a) i b t work flash)
  unfolding drive_of step_of next_of work_after writing.next_of writing.work_after case◌waiting◌ended◌ case◌sending◌to◌none◌
  drive_ended [] a i b t work flash = refl
  drive_ended (e ∷ es) a i b t work flash = drive_ended es a i b t work flash

  -- how a run says that it ended
  ended_at : (room : 39 ≤ n) (i : ℕ) (b : Budget) (t : Tally) (work flash : List ℕ) (p : Phase) → length work ≡ n
      → (leaves_of (length payload) (beside gauge buffer (world_at config address payload n p i b t work flash))).run.end
      ≡ end_in (shows payload (world_at config address payload n p i b t work flash))
  unfolding leaves_of ended_of end_of phase_of fits_of case◌waiting◌ended◌ bus.fits_of when◌then◌else◌
  ended_at room i b t work flash phase.Waiting long =
      rw (shows_block config address payload n i b t work long room, eq-eqb (length payload) (length payload) refl, eq-eqb (length work) n long)
  ended_at room i b t work flash (phase.Ended a) long = rw (shows_ended config address payload n a i b t (length work))

  module _ (room : 39 ≤ n) (low : 0x4000 ≤ address) (high : address + length payload ≤ 0x6000) where
    -- a transfer of a call that waits
    model_waiting : (f : Fate) (i : ℕ) (b : Budget) (t : Tally) (work flash : List ℕ) → length work ≡ n → i * 32 < length payload
        → step_of payload f (beside gauge buffer (world_at config address payload n phase.Waiting i b t work flash))
        ≡ beside gauge buffer (step payload (event_in f) (world_at config address payload n phase.Waiting i b t work flash))
    unfolding step_of heard_in next_of work_after part_of taken_of report_of wrote_of buffer_after block_bytes
    model_waiting f i b t work flash long h =
        let frame : List ℕ = frame_of config address payload n i in
        let m : length (block_of 32 i payload) ≡ min 32 (length payload - i * 32) = length-take 32 (drop (i * 32) payload) ∙ ap (min 32) (length-drop (i * 32) payload) in
        let acted : acts (write frame) gauge flash ≡ taken [] gauge (stored frame flash) =
        block_acts config.pec_write (address + i * 32) (block_of 32 i payload) (omega arith) (omega arith) (omega arith) (omega arith) gauge flash in
        sym (at_write _ _ _ _ _ _ _ refl (shows_block config address payload n i b t work long room)
        (rw (lays config address payload n i b t work long room, hands_out config address payload n i b t work long room, laid_long config address payload n i b t work long room, effect_in f (write frame) [] gauge gauge flash (stored frame flash) acted, none_lent, same_after, is_taken config address payload n i b t work long room (written.heard_as (event_in f)) 0 (nothing_lent (written.heard_as (event_in f))))
        (ap (beside gauge buffer) (made_sent config address payload n i b t work long room (event_in f) [] flash))))

-- a transfer of the model is a transfer of the demand
module _ (config : Config) (address : ℕ) (payload old : List ℕ) (n : ℕ) (room : 39 ≤ n) (whole : length old ≡ 8192)
    (low : 0x4000 ≤ address) (high : address + length payload ≤ 0x6000) (gauge : Gauge) (buffer : List ℕ) where
  model_at : (e : Fate) (p : Phase) (i : ℕ) (b : Budget) (t : Tally) (work flash : List ℕ) → length work ≡ n → ToldAt 32 (length payload) i p
      → step_of payload e (beside gauge buffer (world_at config address payload n p i b t work flash))
      ≡ beside gauge buffer (step payload (event_in e) (world_at config address payload n p i b t work flash))
  unfolding drive_of
  model_at e phase.Waiting i b t work flash long s = model_waiting config address payload n gauge buffer room low high e i b t work flash long s
  model_at e (phase.Ended a) i b t work flash long s =
      drive_ended config address payload n gauge buffer (e ∷ []) a i b t work flash
      ∙ ap (beside gauge buffer) (sym (made_ended config address payload n (event_in e) [] a i b t work flash))

  model_step : (e : Fate) (w : WriteWorld) → Going config address payload old n room whole low high w
      → step_of payload e (beside gauge buffer w) ≡ beside gauge buffer (step payload (event_in e) w)
  model_step e w g = rw g.is (model_at e g.at g.i g.b g.t g.work g.flash g.long g.told)

  model_run : (es : List Fate) (w : WriteWorld) → Going config address payload old n room whole low high w
      → drive_of payload es (beside gauge buffer w) ≡ beside gauge buffer (run payload (events_in es) w)
  unfolding drive_of each
  model_run [] w g = refl
  model_run (e ∷ es) w g =
      ap (drive_of payload es) (model_step e w g)
      ∙ model_run es (step payload (event_in e) w) (going_step config address payload old n room whole low high (event_in e) w g)

  -- what a run that ends here says
  ended_going : (w : WriteWorld) → Going config address payload old n room whole low high w
      → (leaves_of (length payload) (beside gauge buffer w)).run.end ≡ end_in (shows payload w)
  ended_going w g = rw g.is (ended_at config address payload n gauge buffer room g.i g.b g.t g.work g.flash g.at g.long)

-- a write starts over the whole flash
began_whole : (config : Config) (address : ℕ) (payload work flash : List ℕ) → Accepted address payload work flash → length (began config address payload work flash).flash ≡ 8192
unfolding began
began_whole config address payload work flash a = a.whole

-- what is shown says what the end says
end_told : (k n i : ℕ) (t : Transfer) → Told k n i t → Tells k n i (end_in t)
end_told k n i (transfer.Write count) s = s
end_told k n i (transfer.Read command count) s = absurd s
end_told k n i (transfer.Refused a) s = absurd s
end_told k n i (transfer.Ended a) s = s

module _ (config : Config) (address : ℕ) (payload work flash : List ℕ) (a : Accepted address payload work flash) (gauge : Gauge) (buffer : List ℕ) where
  -- driving the call over events of the model
  pub drive_same : (es : List Fate)
      → drive_of payload es (beside gauge buffer (began config address payload work flash)) ≡ beside gauge buffer (run payload (events_in es) (began config address payload work flash))
  unfolding each
  drive_same es = by (eqb (length payload) 0) refl
    where
      by : (t : Bool) → eqb (length payload) 0 ≡ t
          → drive_of payload es (beside gauge buffer (began config address payload work flash)) ≡ beside gauge buffer (run payload (events_in es) (began config address payload work flash))
      by true t =
          let empty : length payload ≡ 0 = eqb-true _ _ t in
          ap (λ (w : WriteWorld). drive_of payload es (beside gauge buffer w)) (run_empty config address payload work flash a empty [])
          ∙ drive_ended config address payload (length work) gauge buffer es answer.Done 0 _ _ work flash
          ∙ ap (beside gauge buffer) (sym (run_empty config address payload work flash a empty (events_in es)))
      by false t =
          let some : length payload ≡ 0 → ⊥ = eqb-false _ _ t in
          let some' : 0 < length payload = omega arith in
          let w = within address (length payload) a.window some' in
          model_run config address payload flash (length work) a.room a.whole w.0 w.1 gauge buffer es (began config address payload work flash)
          (going config address payload work flash a some' w.0 w.1 [])

  -- a write starts as the demand has it
  pub ran_is : (course : List ℕ) → ran config address payload buffer work flash gauge course ≡ run_of payload course (beside gauge buffer (began config address payload work flash))
  unfolding start_of start_with plan_of began
  ran_is course = refl

  pub run_same : (course : List ℕ) → sound_of course ≡ true
      → ran config address payload buffer work flash gauge course ≡ stopped_at payload gauge buffer (ran_in config address payload work flash course)
  unfolding leaves_of ended_of
  run_same course sound =
      ran_is course
      ∙ is_admitted payload (beside gauge buffer (began config address payload work flash)) course (began_whole config address payload work flash a) sound
      ∙ ap (leaves_of (length payload)) (drive_same (fates_of course) ∙ ap (λ (es : List written.Event). beside gauge buffer (run payload es (began config address payload work flash))) (events_at_lem course))
      ∙ ap (λ (e : End). left (record { link = (beside gauge buffer (ran_in config address payload work flash course)).link; end = e }) buffer (ran_in config address payload work flash course).work (ran_in config address payload work flash course).flash) (by (eqb (length payload) 0) refl)
    where
      by : (t : Bool) → eqb (length payload) 0 ≡ t
          → (leaves_of (length payload) (beside gauge buffer (ran_in config address payload work flash course))).run.end
          ≡ end_in (shows payload (ran_in config address payload work flash course))
      by true t =
          rw (run_empty config address payload work flash a (eqb-true _ _ t) (events_at course))
          (ended_at config address payload (length work) gauge buffer a.room 0 _ _ work flash (phase.Ended answer.Done) refl)
      by false t =
          let some : length payload ≡ 0 → ⊥ = eqb-false _ _ t in
          let some' : 0 < length payload = omega arith in
          let w = within address (length payload) a.window some' in
          ended_going config address payload flash (length work) a.room a.whole w.0 w.1 gauge buffer _
          (going config address payload work flash a some' w.0 w.1 (events_at course))

  pub run_ends : (course : List ℕ) → sound_of course ≡ true
      → (ran config address payload buffer work flash gauge course).run.end ≡ end_in (shows payload (ran_in config address payload work flash course))
  run_ends course sound = ap (λ (l : Left). l.run.end) (run_same course sound)

  -- what the run leaves
  pub run_leaves : (course : List ℕ) → sound_of course ≡ true
      → Leaves address payload flash (ran_in config address payload work flash course).acked (ran config address payload buffer work flash gauge course)
  run_leaves course sound =
      let s = stopped config address payload work flash a (events_at course) in
      let f : (ran config address payload buffer work flash gauge course).flash ≡ (ran_in config address payload work flash course).flash =
      ap (λ (l : Left). l.flash) (run_same course sound) in
      record {
        overlay = rw f s.overlay;
        bytes = rw f s.bytes;
        told = rw (run_ends course sound) (end_told 32 (length payload) _ (shows payload (ran_in config address payload work flash course)) s.told);
      }

-- ---- running on

module _ (config : Config) (address : ℕ) (payload work flash : List ℕ) (a : Accepted address payload work flash) (gauge : Gauge) (buffer : List ℕ) where
  pub runs_on : (course further : List ℕ) → sound_of course ≡ true → sound_of further ≡ true
      → ran config address payload buffer work flash gauge (course ++ further) ≡ run_of payload further (left_over (ran config address payload buffer work flash gauge course))
  runs_on course further p q = sym (runs_both payload course further (begins (kind.WriteDataflash address) config payload buffer work flash gauge) p q)

  -- ---- going on

  -- a go is a run over one course
  one_course : {left : Left} → Runs config address payload buffer work flash gauge left
      → (course : List ℕ) × (sound_of course ≡ true) × (left ≡ ran config address payload buffer work flash gauge course)
  one_course (started course p) = (course, p, refl)
  one_course (ran_on course p g) =
      let o = one_course g in
      (o.0 ++ course, sound_both o.0 course o.1 p, ap (λ (l : Left). run_of payload course (left_over l)) o.2 ∙ sym (runs_on o.0 course o.1 p))

  go_leaves : (left : Left) → Runs config address payload buffer work flash gauge left → (i : ℕ) × Leaves address payload flash i left
  go_leaves left g =
      let o = one_course g in
      ((ran_in config address payload work flash o.0).acked, subst (Leaves address payload flash _) (sym o.2) (run_leaves config address payload work flash a gauge buffer o.0 o.1))

on_courses_leaves : (address : ℕ) (payload flash : List ℕ) (e : End) (now : List ℕ) → in_window address (length payload) ≡ true → length flash ≡ 8192
    → GoOnCourses address payload flash e now → LeftBy address payload flash e now
on_courses_leaves address payload flash e now win whole g =
    let l = go_leaves g.config address payload g.work flash (record { window = win; room = g.room; whole = whole }) g.gauge g.buffer g.left g.go in (
      l.0,
      subst (Overlaid 32 (place_of address) payload flash l.0) (sym g.leaves) l.1.overlay,
      ap length g.leaves ∙ l.1.bytes.size,
      subst (Tells 32 (length payload) l.0) (sym g.ends) l.1.told,
    )

-- ---- every transfer is heard

pub heard_sound : (n : ℕ) → sound_of (replicate n 0) ≡ true
unfolding sound_of when◌then◌else◌
heard_sound zero = refl
heard_sound (suc n) = heard_sound n

-- it is acknowledged
pub heard_in_lem : (n : ℕ) → events_at (replicate n 0) ≡ replicate n written.acknowledged
heard_in_lem zero = refl
heard_in_lem (suc n) = ap (λ (es : List written.Event). written.acknowledged ∷ es) (heard_in_lem n)

pub unbroken : (config : Config) (address : ℕ) (payload buffer work flash : List ℕ) → Accepted address payload work flash
    → (gauge : Gauge) (n : ℕ) → length payload ≤ n * 32
    → EndedWell (ran config address payload buffer work flash gauge (replicate n 0)).run.end
    × ((ran config address payload buffer work flash gauge (replicate n 0)).flash ≡ clean address payload flash)
unbroken config address payload buffer work flash a gauge n l =
    let u = whole-write config address payload work flash a n l in
    let left : Left = ran config address payload buffer work flash gauge (replicate n 0) in
    let well : EndedWell (end_in (shows payload (ran_in config address payload work flash (replicate n 0)))) = rw (heard_in_lem n) u.0 in
    let ran-well : EndedWell left.run.end = rw (run_ends config address payload work flash a gauge buffer (replicate n 0) (heard_sound n)) well in
    let go : GoOnCourses address payload flash left.run.end left.flash =
    record { config = config; buffer = buffer; work = work; gauge = gauge; left = left; room = a.room; go = started (replicate n 0) (heard_sound n); ends = refl; leaves = refl } in
    (ran-well, goes GoOnCourses on_courses_leaves a.window a.whole (ended_well left.run.end ran-well go))

-- every run over every course keeps demand 3
pub on_courses : OnCourses
on_courses =
    record {
      same = λ config address payload buffer work flash a gauge course sound. run_same config address payload work flash a gauge buffer course sound;
      promised = λ config address payload buffer work flash a gauge course sound. run_leaves config address payload work flash a gauge buffer course sound;
      runs_on = λ config address payload buffer work flash a gauge course further p q. runs_on config address payload work flash a gauge buffer course further p q;
      goes_on = λ address payload flash after win whole g. goes GoOnCourses on_courses_leaves win whole g;
      unbroken = unbroken;
    }
