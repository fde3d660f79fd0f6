-- A run is refused for its flash, its course or the lengths lent to it; a run that is not can only give what a report to its call gives.
-- Assumes nothing.
use Rattle.engine.specs.Bus.{Reported}
use Rattle.std.specs.Prelude.{Err, Ok}
use Prim.Native.Nat.{ℕ}
use mathlib.Core.Path.{◌≡◌, refl, sym, ap, subst, ◌∙◌}
use mathlib.Core.Bool.{true}
use mathlib.Core.List.{List, [], ◌∷◌}
use lib.ListN.{length}
use borrow.Author.Tests.{eq-eqb}
use Rattle.protocol.specs.Pick.{when◌then◌else◌}
use Rattle.engine.specs.declared.bus.Outcome.{Outcome}
use Rattle.engine.specs.declared.bus.Phase.TheVariants as phase
use Rattle.engine.specs.declared.bus.Transfer.{Transfer}
use Rattle.engine.specs.declared.bus.Transfer.TheVariants as transfer
use Rattle.writing.specs.Writing as writing
use Rattle.engine.specs.declared.bus.Task.{Task}
use Rattle.writing.specs.declared.call.WritePlan.{WritePlan}
use Rattle.writing.specs.declared.call.WriteCall.{WriteCall}
use Rattle.reading.specs.Reading as reading
use Rattle.engine.specs.declared.bus.Task.{Task}
use Rattle.reading.specs.declared.call.ReadPlan.{ReadPlan}
use Rattle.reading.specs.declared.call.ReadCall.{ReadCall}
use Rattle.calls.specs.Call.{next_of, work_after, wrote_of, got_of, report_of, buffer_after, phase_of, fits_of}
use Rattle.calls.specs.declared.call.Call.{Call}
use Rattle.calls.specs.declared.call.Call.TheVariants as call
use Rattle.model_gauge.specs.Gauge.{Effect}
use Rattle.model_gauge.specs.declared.gauge.Fate.{Fate}
use Rattle.courses.specs.Pick.{case◌sending◌to◌none◌, case◌refused◌admitted◌}
use Rattle.courses.specs.Course.{fates_of, sound_of, admit_of, end_of}
use Rattle.courses.specs.Figures.{LentAgain}
use Rattle.courses.specs.Run.{World, world, taken_of, heard_in, showing, step_of, drive_of, ended_of, leaves_of, run_of}
use Rattle.courses.specs.declared.run.Link.{Link}
use Rattle.courses.proofs.Figures.{figures}
use Rattle.writing.proofs.Shown.{write_work}
use Rattle.reading.proofs.Shown.{read_work}
use Rattle.answers.specs.Rows.{Among, SortW, SortR}
use Rattle.answers.specs.Runs.{call_w, feed_w, call_r, feed_r}
use Rattle.answers.proofs.Runs.{same_task as same-task-w}
use Rattle.answers.proofs.Kept.{same_task as same-task-r}
use Rattle.answers.proofs.Costs.{delivers}
use Rattle.answers.proofs.Sorts.{sort_w, sort_r}
use Rattle.promises.specs.CourseRows.{GivesOneOf, own_of, Rows, CourseRows}
use Rattle.promises.proofs.RunRows.{again_fits, Came, came, rows_of, kept_of, end_own}

-- ---- a run that is not refused drives its call

pub is_admitted : (payload : List ℕ) (w : World) (course : List ℕ) → length w.flash ≡ 8192 → sound_of course ≡ true
    → run_of payload course w ≡ leaves_of (length payload) (drive_of payload (fates_of course) w)
unfolding run_of admit_of case◌refused◌admitted◌ when◌then◌else◌
is_admitted payload w course whole sound = rw (eq-eqb (length w.flash) 8192 whole, sound)

-- ---- what a run keeps of its call

-- a call that came of another: by the same engine, started with the same lengths, and waiting or ended with an answer of its own
abbrev Follows : Call → Call → Type 0
Follows (call.Write c) (call.Write d) = Among (own_of (call.Write c)) d.phase × (d.task.lent ≡ c.task.lent)
Follows (call.Write c) (call.Read d) = ⊥
Follows (call.Read c) (call.Write d) = ⊥
Follows (call.Read c) (call.Read d) = Among (own_of (call.Read c)) d.phase × (d.task.lent ≡ c.task.lent)

begins : (c : Call) → phase_of c ≡ phase.Waiting → Follows c c
unfolding phase_of
begins (call.Write c) waits = (rw waits tt, refl)
begins (call.Read c) waits = (rw waits tt, refl)

-- a report leaves the call as it was, or waiting, or ended with an answer of its own
wrote_follows : (c d : WriteCall) (r : Reported WriteCall) → SortW d r → (call_w r).task ≡ d.task → Follows (call.Write c) (call.Write d) → Follows (call.Write c) (taken_of (wrote_of r))
unfolding taken_of wrote_of
wrote_follows c d (Err (a, same)) s task k = subst (λ (e : WriteCall). Follows (call.Write c) (call.Write e)) (sym s.1) k
wrote_follows c d (Ok next) s task k = (s.1, ap (λ (t : Task WritePlan). t.lent) task ∙ k.1)

got_follows : (c d : ReadCall) (before after : List ℕ) (r : Reported ReadCall) → SortR d before after r → (call_r r).task ≡ d.task → Follows (call.Read c) (call.Read d)
    → Follows (call.Read c) (taken_of (got_of r))
unfolding taken_of got_of
got_follows c d before after (Err (a, same)) s task k = subst (λ (e : ReadCall). Follows (call.Read c) (call.Read e)) (sym s.1) k
got_follows c d before after (Ok next) s task k = (s.1, ap (λ (t : Task ReadPlan). t.lent) task ∙ k.1)

module _ (o : Outcome) (reply : List ℕ) (p : ℕ) (buffer : List ℕ) (w : ℕ) where
  report_follows : (c d : Call) → Follows c d → Follows c (taken_of (report_of d o reply p (length buffer) w))
  unfolding report_of feed_w feed_r
  report_follows (call.Write c) (call.Write d) k =
      wrote_follows c d (writing.report_of d o (length reply) p w) (sort_w d o (length reply) p w)
      (same-task-w (record { outcome = o; reply = length reply; payload = p; work = w } ∷ []) d) k
  report_follows (call.Write c) (call.Read d) k = absurd k
  report_follows (call.Read c) (call.Write d) k = absurd k
  report_follows (call.Read c) (call.Read d) k =
      got_follows c d buffer (reading.buffer_after d o reply buffer w) (reading.report_of d o reply (length buffer) w) (sort_r d o reply buffer w)
      (same-task-r (record { outcome = o; reply = reply; work = w } ∷ []) (record { call = d; buffer = buffer })) k

  pub buffer_size : (c : Call) → length (buffer_after c o reply buffer w) ≡ length buffer
  unfolding buffer_after
  buffer_size (call.Write c) = refl
  buffer_size (call.Read c) = (delivers c buffer o reply w).size

shown_size : (c : Call) (payload : List ℕ) (n : ℕ) (work : List ℕ) → length (work_after c payload n work) ≡ length work
unfolding work_after
shown_size (call.Write c) payload n work = write_work c payload work
shown_size (call.Read c) payload n work = read_work c n work

module _ (payload : List ℕ) (c : Call) (n w : ℕ) where
  record Keeps (now : World) : Type 0 where
    follows : Follows c now.link.call
    size : length now.buffer ≡ n
    long : length now.work ≡ w

  shown_keeps : (now : World) → Keeps now → Keeps (showing payload now)
  shown_keeps now k = record { follows = k.follows; size = k.size; long = shown_size now.link.call payload (length now.buffer) now.work ∙ k.long }

  heard_keeps : (e : Effect) (now : World) → Keeps now → Keeps (heard_in (length payload) e now)
  unfolding heard_in
  heard_keeps e now k = record {
    follows = report_follows e.outcome e.reply (length payload) now.buffer (length now.work) c now.link.call k.follows;
    size = buffer_size e.outcome e.reply (length payload) now.buffer (length now.work) now.link.call ∙ k.size;
    long = k.long;
  }

  step_keeps : (f : Fate) (now : World) → Keeps now → Keeps (step_of payload f now)
  unfolding step_of case◌sending◌to◌none◌
  step_keeps f now k = by (next_of now.link.call payload (length now.buffer) (length now.work)) refl
    where
      by : (t : Transfer) → next_of now.link.call payload (length now.buffer) (length now.work) ≡ t → Keeps (step_of payload f now)
      by (transfer.Write m) q = rw q (heard_keeps _ (showing payload now) (shown_keeps now k))
      by (transfer.Read command count) q = rw q (heard_keeps _ (showing payload now) (shown_keeps now k))
      by (transfer.Refused a) q = rw q (shown_keeps now k)
      by (transfer.Ended a) q = rw q (shown_keeps now k)

  drive_keeps : (fs : List Fate) (now : World) → Keeps now → Keeps (drive_of payload fs now)
  unfolding drive_of
  drive_keeps [] now k = k
  drive_keeps (f ∷ fs) now k = drive_keeps fs (step_of payload f now) (step_keeps f now k)

  -- a call that came of one with these lengths ends as its own
  ends_own : (d : Call) → Follows c d → LentAgain c (length payload) n w → GivesOneOf (own_of c) (end_of (phase_of d) (fits_of d (length payload) n w))
  unfolding phase_of
  ends_own d k again = rw (fits c d k again) (end_own (own_of c) (phase_of d) (among c d k))
    where
      among : (c d : Call) → Follows c d → Among (own_of c) (phase_of d)
      among (call.Write c) (call.Write d) k = k.0
      among (call.Write c) (call.Read d) k = absurd k
      among (call.Read c) (call.Write d) k = absurd k
      among (call.Read c) (call.Read d) k = k.0

      fits : (c d : Call) → Follows c d → LentAgain c (length payload) n w → fits_of d (length payload) n w ≡ true
      fits (call.Write c) (call.Write d) k again = again_fits (call.Write d) (length payload) n w (rw k.1 again)
      fits (call.Write c) (call.Read d) k again = absurd k
      fits (call.Read c) (call.Write d) k again = absurd k
      fits (call.Read c) (call.Read d) k again = again_fits (call.Read d) (length payload) n w (rw k.1 again)

module _ (payload course buffer work flash : List ℕ) (link : Link) (waits : phase_of link.call ≡ phase.Waiting) where
  driven : length flash ≡ 8192 → sound_of course ≡ true → LentAgain link.call (length payload) (length buffer) (length work)
      → GivesOneOf (own_of link.call) (run_of payload course (world link buffer work flash)).run.end
  unfolding leaves_of ended_of
  driven whole sound again =
      let k = drive_keeps payload link.call (length buffer) (length work) (fates_of course) (world link buffer work flash) (record { follows = begins link.call waits; size = refl; long = refl }) in
      rw (is_admitted payload (world link buffer work flash) course whole sound, k.size, k.long) (ends_own payload link.call (length buffer) (length work) _ k.follows again)

  run_came : Came (length flash) course link.call (length payload) (length buffer) (length work) link buffer work flash (run_of payload course (world link buffer work flash))
  run_came =
      came _ _ _ _ _ _ link buffer work flash _ (figures.other_flash payload course buffer work flash link) (figures.bad_course payload course buffer work flash link)
      (λ whole sound. figures.other_lent payload course buffer work flash link whole sound waits) driven

  rows : Rows payload course buffer work flash link (run_of payload course (world link buffer work flash))
  rows = record { rows = rows_of _ _ _ _ _ _ link buffer work flash _ run_came; kept = kept_of _ _ _ _ _ _ link buffer work flash _ run_came }

pub course_rows : CourseRows
course_rows = record { figures = figures; runs = rows }
