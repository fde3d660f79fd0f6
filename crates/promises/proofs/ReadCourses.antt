-- Reads over the model's courses are reads over events: the gauge takes every head and replies to every read, so a transfer of the course is one of the events.
-- Assumes nothing.
use Rattle.engine.specs.Bus.{Reported}
use Rattle.std.specs.Prelude.{Err, Ok}
use Rattle.reading.specs.declared.call.ReadCall.{ReadCall}
use Prim.Native.Nat.{ℕ, ◌+◌, ◌*◌, ◌-◌, ◌≤◌, ◌<◌}
use mathlib.Core.Path.{◌≡◌, refl, sym, ap, ◌∙◌}
use mathlib.Core.Bool.{Bool, true, false}
use mathlib.Core.List.{List, [], ◌∷◌, ◌++◌}
use native.Mathlib.Omega.{arith}
use lib.Dec.{eqb}
use lib.ListN.{length}
use borrow.Author.Tests.{eq-eqb, eqb-true, eqb-false}
use Rattle.protocol.specs.Pick.{when◌then◌else◌}
use Rattle.protocol.specs.declared.common.Config.{Config}
use Rattle.protocol.specs.declared.error.Answer.{Answer}
use Rattle.protocol.specs.declared.error.Answer.TheVariants as answer
use Rattle.protocol.proofs.Laws.{take_over}
use Rattle.protocol.proofs.WindowLaws.{within}
use Rattle.engine.specs.Pick.{case◌waiting◌ended◌}
use Rattle.engine.specs.Bus as bus
use Rattle.engine.specs.Made.{write, read}
use Rattle.engine.specs.Budget.{nothing}
use Rattle.engine.specs.declared.budget.Budget.{Budget}
use Rattle.engine.specs.declared.budget.Tally.{Tally}
use Rattle.engine.specs.declared.bus.Phase.{Phase}
use Rattle.engine.specs.declared.bus.Phase.TheVariants as phase
use Rattle.reading.specs.Reading as reading
use Rattle.calls.specs.Call.{start_with, start_of, next_of, work_after, part_of, got_of, report_of, buffer_after, phase_of, fits_of}
use Rattle.calls.specs.Kind.{plan_of}
use Rattle.calls.specs.declared.call.Call.TheVariants as call
use Rattle.calls.specs.declared.kind.Kind.TheVariants as kind
use Rattle.model_gauge.specs.Gauge.{moved_of, acts, taken}
use Rattle.model_gauge.specs.declared.gauge.Fate.{Fate}
use Rattle.model_gauge.specs.declared.gauge.Gauge.{Gauge}
use Rattle.courses.specs.Pick.{case◌sending◌to◌none◌}
use Rattle.courses.specs.Course.{fates_of, sound_of, end_of}
use Rattle.courses.specs.Run.{Left, left, taken_of, heard_in, step_of, drive_of, ended_of, leaves_of, run_of, left_over}
use Rattle.courses.specs.declared.course.End.{End}
use Rattle.courses.proofs.Cases.{at_write, at_read}
use Rattle.answers.specs.Runs.{call_r}
use Rattle.promises.specs.Events.{Event, each}
use Rattle.promises.specs.Demand3.{end_in, Accepted}
use Rattle.promises.specs.Courses.{events_at}
use Rattle.promises.specs.Traffic.{begins}
use Rattle.promises.proofs.RunLaws.{runs_both}
use Rattle.promises.specs.Reads.{ReadWorld, read_began, heard, read_shows, read_step, read_run}
use Rattle.promises.specs.Reading.{in_model, read_ran, read_ran_in, read_stopped_at}
use Rattle.promises.proofs.Courses.{event_in, events_in, events_at_lem, effect_in, same_after}
use Rattle.promises.proofs.CourseRows.{is_admitted}
use Rattle.promises.proofs.Frames.{address_acts, address_points, address_stores}
use Rattle.promises.proofs.ReadSteps.{ask_small, read_acts, read_world, head_of, shows_head, lays_head, made_head, shows_read, lays_none, count_at, brought_at, made_read, made_over}
use Rattle.promises.proofs.Reading.{Kept, Reading, buffer_long, reading_step}
use Rattle.promises.proofs.ReadStopped.{start, read_empty, reading}

-- the call after a report, by either name
got_taken : (r : Reported ReadCall) → taken_of (got_of r) ≡ call.Read (call_r r)
unfolding taken_of got_of
got_taken (Err (a, same)) = refl
got_taken (Ok next) = refl

-- a read does not look at the payload
module _ (payload : List ℕ) (config : Config) (address size n : ℕ) where
  module _ (i : ℕ) (b : Budget) (t : Tally) (g : Gauge) (buffer work flash : List ℕ) (fits : length buffer ≡ size) (long : length work ≡ n) (room : 39 ≤ n) where
    -- the call where its head is due, and where a read is
    abbrev here : Bool → ReadWorld
    here h = read_world config address size n phase.Waiting h i b t g buffer work flash

    abbrev head : List ℕ
    head = head_of config address size n i

    -- a head, as the model has it
    model_head : 0x4000 ≤ address + i * 32 → address + i * 32 < 0x6000 → (f : Fate) → step_of payload f (in_model (here true)) ≡ in_model (read_step (event_in f) (here true))
    unfolding step_of heard_in next_of work_after part_of report_of buffer_after heard
    model_head low high f =
        let acted : acts (write head) g flash ≡ taken [] (record { pointer = address + i * 32 }) flash = address_acts config.pec_read (address + i * 32) low high g flash in
        sym (at_write _ _ _ _ _ _ _ refl (shows_head config address size n i b t g buffer work flash fits long room)
        (rw (lays_head config address size n i b t g buffer work flash fits long room, take_over, effect_in f (write head) [] g (record { pointer = address + i * 32 }) flash flash acted, got_taken)
        (rw (address_stores config.pec_read (address + i * 32) low high flash, address_points config.pec_read (address + i * 32) low high g flash) at (ap in_model (made_head config address size n i b t g buffer work flash fits long room (event_in f) [])))))

    -- a read, as the model has it
    model_read : (f : Fate) → step_of payload f (in_model (here false)) ≡ in_model (read_step (event_in f) (here false))
    unfolding step_of heard_in next_of work_after report_of buffer_after heard
    model_read f =
        let count : ℕ = count_at config address size n i b t g buffer work flash fits long room in
        let brought : List ℕ = brought_at config address size n i b t g buffer work flash fits long room in
        sym (at_read _ _ _ _ _ _ _ _ refl (shows_read config address size n i b t g buffer work flash fits long room)
        (rw (lays_none config address size n i b t g buffer work flash fits long room, effect_in f (read 0x44 count) brought g (moved_of g) flash flash (read_acts count g flash (ask_small config.pec_read (size - i * 32))), same_after, got_taken)
        (ap in_model (made_read config address size n i b t g buffer work flash fits long room (event_in f) []))))

  -- an ended call stays as it is
  model_ended : (fs : List Fate) (a : Answer) (h : Bool) (i : ℕ) (b : Budget) (t : Tally) (g : Gauge) (buffer work flash : List ℕ)
      → drive_of payload fs (in_model (read_world config address size n (phase.Ended a) h i b t g buffer work flash)) ≡ in_model (read_world config address size n (phase.Ended a) h i b t g buffer work flash)
  unfolding drive_of step_of next_of work_after reading.next_of reading.work_after case◌waiting◌ended◌ case◌sending◌to◌none◌
  model_ended [] a h i b t g buffer work flash = refl
  model_ended (f ∷ fs) a h i b t g buffer work flash = model_ended fs a h i b t g buffer work flash

-- a transfer of the model is a transfer over its event
module _ (payload : List ℕ) (config : Config) (address n : ℕ) (old flash : List ℕ) (room : 39 ≤ n) (whole : length flash ≡ 8192)
    (low : 0x4000 ≤ address) (high : address + length old ≤ 0x6000) where
  model_at : (f : Fate) (p : Phase) (h : Bool) (i : ℕ) (b : Budget) (t : Tally) (g : Gauge) (buffer work : List ℕ) → length buffer ≡ length old → length work ≡ n
      → Kept false config address n old flash room whole low high p h i g
      → step_of payload f (in_model (read_world config address (length old) n p h i b t g buffer work flash))
      ≡ in_model (read_step (event_in f) (read_world config address (length old) n p h i b t g buffer work flash))
  unfolding drive_of
  model_at f phase.Waiting true i b t g buffer work fits long k =
      let l : i * 32 < length old = k.0 in
      model_head payload config address (length old) n i b t g buffer work flash fits long room (omega arith) (omega arith) f
  model_at f phase.Waiting false i b t g buffer work fits long k = model_read payload config address (length old) n i b t g buffer work flash fits long room f
  model_at f (phase.Ended a) h i b t g buffer work fits long k =
      model_ended payload config address (length old) n (f ∷ []) a h i b t g buffer work flash
      ∙ ap in_model (sym (made_over config address (length old) n (event_in f) [] a h i b t g buffer work flash))

  model_step : (f : Fate) (w : ReadWorld) → Reading false config address n old flash room whole low high w → step_of payload f (in_model w) ≡ in_model (read_step (event_in f) w)
  model_step f w r =
      rw r.is
      (model_at f r.at r.head r.i r.b r.t r.gauge r.buffer r.work (buffer_long false config address n old flash room whole low high r.i r.buffer r.front) r.long r.kept)

  model_run : (fs : List Fate) (w : ReadWorld) → Reading false config address n old flash room whole low high w → drive_of payload fs (in_model w) ≡ in_model (read_run (events_in fs) w)
  unfolding drive_of each
  model_run [] w r = refl
  model_run (f ∷ fs) w r =
      ap (drive_of payload fs) (model_step f w r) ∙ model_run fs (read_step (event_in f) w) (reading_step false config address n old flash room whole low high (event_in f) w r)

module _ (payload : List ℕ) (config : Config) (address : ℕ) (buffer work flash : List ℕ) (a : Accepted address buffer work flash) (gauge : Gauge) where
  abbrev first : ReadWorld
  first = start config address buffer work flash a gauge

  drive_same : (fs : List Fate) → drive_of payload fs (in_model first) ≡ in_model (read_run (events_in fs) first)
  unfolding each
  drive_same fs = by (eqb (length buffer) 0) refl
    where
      by : (t : Bool) → eqb (length buffer) 0 ≡ t → drive_of payload fs (in_model first) ≡ in_model (read_run (events_in fs) first)
      by true t =
          let empty : length buffer ≡ 0 = eqb-true _ _ t in
          ap (λ (w : ReadWorld). drive_of payload fs (in_model w)) (read_empty config address buffer work flash a gauge empty [])
          ∙ model_ended payload config address (length buffer) (length work) fs answer.Done true 0 _ nothing gauge buffer work flash
          ∙ ap in_model (sym (read_empty config address buffer work flash a gauge empty (events_in fs)))
      by false t =
          let empty : length buffer ≡ 0 → ⊥ = eqb-false _ _ t in
          let some : 0 < length buffer = omega arith in
          let w = within address (length buffer) a.window some in
          model_run payload config address (length work) buffer flash a.room a.whole w.0 w.1 fs first (reading config address buffer work flash a gauge some w.0 w.1 [])

  first_whole : length first.flash ≡ 8192
  unfolding read_began
  first_whole = a.whole

  -- ---- how a run ends

  ended_at : (p : Phase) (h : Bool) (i : ℕ) (b : Budget) (t : Tally) (g : Gauge) (now work' : List ℕ) → length now ≡ length buffer → length work' ≡ length work
      → (leaves_of (length payload) (in_model (read_world config address (length buffer) (length work) p h i b t g now work' flash))).run.end
      ≡ end_in (read_shows (read_world config address (length buffer) (length work) p h i b t g now work' flash))
  unfolding leaves_of ended_of end_of phase_of fits_of reading.next_of case◌waiting◌ended◌ bus.fits_of when◌then◌else◌
  ended_at phase.Waiting true i b t g now work' fits long =
      rw (shows_head config address (length buffer) (length work) i b t g now work' flash fits long a.room, eq-eqb (length now) (length buffer) fits, eq-eqb (length work') (length work) long)
  ended_at phase.Waiting false i b t g now work' fits long =
      rw (shows_read config address (length buffer) (length work) i b t g now work' flash fits long a.room, eq-eqb (length now) (length buffer) fits, eq-eqb (length work') (length work) long)
  ended_at (phase.Ended answer) h i b t g now work' fits long = refl

  -- a run that left this ended as it shows
  abbrev EndsSo : ReadWorld → Type 0
  EndsSo w = (leaves_of (length payload) (in_model w)).run.end ≡ end_in (read_shows w)

  -- a read starts as the events have it
  ran_is : (course : List ℕ) → read_ran config address payload buffer work flash gauge course ≡ run_of payload course (in_model first)
  unfolding start_of start_with plan_of read_began
  ran_is course = refl

  -- A RUN OVER A COURSE IS THE RUN OVER ITS EVENTS
  pub same : (course : List ℕ) → sound_of course ≡ true
      → read_ran config address payload buffer work flash gauge course ≡ read_stopped_at (read_ran_in config address buffer work flash gauge course)
  unfolding leaves_of ended_of
  same course sound =
      ran_is course ∙ is_admitted payload (in_model first) course first_whole sound
      ∙ ap (leaves_of (length payload)) (drive_same (fates_of course) ∙ ap (λ (es : List Event). in_model (read_run es first)) (events_at_lem course))
      ∙ ap (λ (e : End). left (record { link = (in_model (read_ran_in config address buffer work flash gauge course)).link; end = e }) (read_ran_in config address buffer work flash gauge course).buffer (read_ran_in config address buffer work flash gauge course).work (read_ran_in config address buffer work flash gauge course).flash) (by (eqb (length buffer) 0) refl)
    where
      by : (t : Bool) → eqb (length buffer) 0 ≡ t → EndsSo (read_ran_in config address buffer work flash gauge course)
      by true t =
          rw (read_empty config address buffer work flash a gauge (eqb-true _ _ t) (events_at course))
          (ended_at (phase.Ended answer.Done) true 0 _ nothing gauge buffer work refl refl)
      by false t =
          let empty : length buffer ≡ 0 → ⊥ = eqb-false _ _ t in
          let some : 0 < length buffer = omega arith in
          let w = within address (length buffer) a.window some in
          let r = reading config address buffer work flash a gauge some w.0 w.1 (events_at course) in
          rw r.is
          (ended_at r.at r.head r.i r.b r.t r.gauge r.buffer r.work
          (buffer_long false config address (length work) buffer flash a.room a.whole w.0 w.1 r.i r.buffer r.front) r.long)

  pub ends : (course : List ℕ) → sound_of course ≡ true
      → (read_ran config address payload buffer work flash gauge course).run.end ≡ end_in (read_shows (read_ran_in config address buffer work flash gauge course))
  ends course sound = ap (λ (l : Left). l.run.end) (same course sound)

  -- ---- running on

  pub runs_on : (course further : List ℕ) → sound_of course ≡ true → sound_of further ≡ true
      → read_ran config address payload buffer work flash gauge (course ++ further) ≡ run_of payload further (left_over (read_ran config address payload buffer work flash gauge course))
  runs_on course further p q = sym (runs_both payload course further (begins (kind.ReadDataflash address) config payload buffer work flash gauge) p q)
