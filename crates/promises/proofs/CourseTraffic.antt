-- A call that is run over a course: each byte is a transfer whose outcome is taken, or the call shows none and stays as it is.
-- Assumes nothing.
use Rattle.engine.specs.Bus.{Reported}
use Rattle.std.specs.Prelude.{Ok}
use Prim.Native.Nat.{ℕ, zero, suc, ◌+◌, ◌≤◌, ◌<◌}
use mathlib.Core.Path.{◌≡◌, refl, sym, ap, subst, ◌∙◌}
use mathlib.Core.Bool.{Bool, true, false, false≢true}
use mathlib.Core.List.{List, [], ◌∷◌}
use native.Mathlib.Omega.{arith}
use lib.Dec.{eqb, ltb}
use lib.ListN.{length, take}
use borrow.Author.Tests.{eqb-true, eqb-false}
use Rattle.protocol.specs.Common.{TwoByteBudgets}
use Rattle.protocol.specs.Pick.{when◌then◌else◌}
use Rattle.protocol.specs.declared.common.Config.{Config}
use Rattle.protocol.specs.declared.error.Answer.{Answer}
use Rattle.protocol.specs.declared.error.Answer.TheVariants as answer
use Rattle.engine.specs.Pick.{case◌waiting◌ended◌}
use Rattle.engine.specs.Made.{Made, write, read}
use Rattle.engine.specs.declared.bus.Outcome.TheVariants as outcome
use Rattle.engine.specs.declared.bus.Phase.{Phase}
use Rattle.engine.specs.declared.bus.Phase.TheVariants as phase
use Rattle.engine.specs.declared.bus.Transfer.{Transfer}
use Rattle.engine.specs.declared.bus.Transfer.TheVariants as transfer
use Rattle.writing.specs.Writing as writing
use Rattle.reading.specs.Reading as reading
use Rattle.calls.specs.Sides.{budget_of}
use Rattle.calls.specs.Call.{next_of, work_after, buffer_after, phase_of, tally_of, fits_of}
use Rattle.calls.specs.declared.call.Call.{Call}
use Rattle.calls.specs.declared.call.Call.TheVariants as call
use Rattle.calls.specs.declared.kind.Kind.{Kind}
use Rattle.ceilings.specs.Reports.{call_after}
use Rattle.ceilings.specs.Ceilings.{CeilingOf}
use Rattle.ceilings.proofs.Good.{Good, Follows, waits_some, rests, follows, counts, good_named}
use Rattle.model_gauge.specs.Gauge.{replies_to, effect_of}
use Rattle.model_gauge.specs.declared.gauge.Effect as handed
use Rattle.model_gauge.specs.declared.gauge.Fate.{Fate}
use Rattle.model_gauge.specs.declared.gauge.Fate.TheVariants as fate
use Rattle.model_gauge.specs.declared.gauge.Gauge.{Gauge}
use Rattle.model_gauge.proofs.Laws.{write_brings, read_told, read_untaken}
use Rattle.courses.specs.Pick.{case◌sending◌to◌none◌}
use Rattle.courses.specs.Course.{fate_of, fates_of, sound_of, end_of}
use Rattle.courses.specs.Figures.{unchanged}
use Rattle.courses.specs.Run.{World, world, step_of, drive_of, ended_of, leaves_of, run_of}
use Rattle.courses.specs.declared.course.End.TheVariants as end
use Rattle.courses.proofs.Figures.{bad_of, figures}
use Rattle.original.specs.Bus.{brings}
use Rattle.answers.specs.Steps.{Shown, AsksNothing, AsksOf}
use Rattle.answers.proofs.Sorts.{shows_w, shows_r}
use Rattle.promises.specs.RunLaws.{Shows, shows_write, shows_read}
use Rattle.promises.specs.Traffic.{begins, tally_left, RunWithin, CourseTraffic}
use Rattle.promises.proofs.CourseRows.{is_admitted}
use Rattle.promises.proofs.RunLaws.{steps}
use Rattle.promises.proofs.FedTraffic.{none_counted}
use Rattle.promises.proofs.Taken.{takes, Idle, not_idle}
use Rattle.promises.proofs.Live.{Live, live, lives, shows_one}

-- ---- the gauge brings as many bytes as were asked

read_long : (command count : ℕ) (gauge : Gauge) (flash : List ℕ) (t : Bool) → replies_to command count ≡ t
    → (effect_of fate.Heard (read command count) gauge flash).outcome ≡ outcome.Acknowledged → length (effect_of fate.Heard (read command count) gauge flash).reply ≡ count
unfolding effect_of
read_long command count gauge flash true t e = sym (ap (λ (h : handed.Effect). h.replied) (read_told command count gauge flash t))
read_long command count gauge flash false t e =
    let u : outcome.BusError 0 ≡ outcome.Acknowledged = rw (read_untaken command count gauge flash t) at e in
    let z : ◌≡◌ {A = ℕ} 0 1 = cc in
    absurd (omega arith)

lost_told : outcome.Timeout ≡ outcome.Acknowledged → ⊥
lost_told e = let z : ◌≡◌ {A = ℕ} 0 1 = cc in absurd (omega arith)

all_brought : (f : Fate) (made : Made) (gauge : Gauge) (flash : List ℕ) → (effect_of f made gauge flash).outcome ≡ outcome.Acknowledged → length (effect_of f made gauge flash).reply ≡ brings made
unfolding brings effect_of
all_brought f (write frame) gauge flash e = rw (write_brings f frame gauge flash)
all_brought fate.Heard (read command count) gauge flash e = read_long command count gauge flash (replies_to command count) refl e
all_brought fate.LostBefore (read command count) gauge flash e = absurd (lost_told e)
all_brought fate.LostAfter (read command count) gauge flash e = absurd (lost_told e)

-- ---- a call that shows no transfer

-- its work buffer is spared
spared : (c : Call) (payload buffer work : List ℕ) (t : Transfer) → next_of c payload (length buffer) (length work) ≡ t → Idle t → work_after c payload (length buffer) work ≡ work
unfolding next_of work_after
spared (call.Write c) payload buffer work (transfer.Write n) e idle = absurd idle
spared (call.Write c) payload buffer work (transfer.Read command count) e idle = absurd idle
spared (call.Write c) payload buffer work (transfer.Refused a) e idle =
    (subst (Shown (Unit {0}) AsksNothing c.phase c.task.lent (length payload) (length work) work (writing.work_after c payload work)) e (shows_w c payload work)).2
spared (call.Write c) payload buffer work (transfer.Ended a) e idle =
    (subst (Shown (Unit {0}) AsksNothing c.phase c.task.lent (length payload) (length work) work (writing.work_after c payload work)) e (shows_w c payload work)).1
spared (call.Read c) payload buffer work (transfer.Write n) e idle = absurd idle
spared (call.Read c) payload buffer work (transfer.Read command count) e idle = absurd idle
spared (call.Read c) payload buffer work (transfer.Refused a) e idle =
    (subst (Shown (c.heading ≡ true) (AsksOf c) c.phase c.task.lent (length buffer) (length work) work (reading.work_after c (length buffer) work)) e (shows_r c (length buffer) work)).2
spared (call.Read c) payload buffer work (transfer.Ended a) e idle =
    (subst (Shown (c.heading ≡ true) (AsksOf c) c.phase c.task.lent (length buffer) (length work) work (reading.work_after c (length buffer) work)) e (shows_r c (length buffer) work)).1

idle_step : (payload : List ℕ) (f : Fate) (w : World) → Idle (next_of w.link.call payload (length w.buffer) (length w.work)) → step_of payload f w ≡ w
unfolding step_of case◌sending◌to◌none◌
idle_step payload f w idle = by (next_of w.link.call payload (length w.buffer) (length w.work)) refl
  where
    by : (t : Transfer) → next_of w.link.call payload (length w.buffer) (length w.work) ≡ t → step_of payload f w ≡ w
    by (transfer.Write n) e = absurd (rw e at idle)
    by (transfer.Read command count) e = absurd (rw e at idle)
    by (transfer.Refused a) e = rw (e, spared w.link.call payload w.buffer w.work (transfer.Refused a) e tt)
    by (transfer.Ended a) e = rw (e, spared w.link.call payload w.buffer w.work (transfer.Ended a) e tt)

idle_drive : (payload : List ℕ) (fs : List Fate) (w : World) → Idle (next_of w.link.call payload (length w.buffer) (length w.work)) → drive_of payload fs w ≡ w
unfolding drive_of
idle_drive payload [] w idle = refl
idle_drive payload (f ∷ fs) w idle = ap (drive_of payload fs) (idle_step payload f w idle) ∙ idle_drive payload fs w idle

-- ---- a drive

-- where a drive over these fates leads a call that can accept m more outcomes: so many transfers are made, a fate for each
record Drives (payload : List ℕ) (m v : ℕ) (fs : List Fate) (w : World) : Type 0 where
  made : ℕ
  counted : (tally_of (drive_of payload fs w).link.call).transfers ≡ (tally_of w.link.call).transfers + made
  highest : made ≤ m
  rested : (tally_of (drive_of payload fs w).link.call).waits ≤ v
  uses : drive_of payload fs w ≡ drive_of payload (take made fs) w
  each : phase_of (drive_of payload fs w).link.call ≡ phase.Waiting
      → fits_of (drive_of payload fs w).link.call (length payload) (length (drive_of payload fs w).buffer) (length (drive_of payload fs w).work) ≡ true
      → (made ≡ length fs) × (length fs < m)

module _ (config : Config) (few : TwoByteBudgets config) (payload old : List ℕ) (n : ℕ) where
  abbrev Goes : List Fate → Type 0
  Goes fs = (m v : ℕ) (w : World) → Good m v w.link.call → Live config payload old n w.link.call w.buffer → Drives payload m v fs w

  -- it shows none, and stays as it is
  still : (fs : List Fate) (m v : ℕ) (w : World) → Good m v w.link.call → Live config payload old n w.link.call w.buffer
      → Idle (next_of w.link.call payload (length w.buffer) (length w.work)) → Drives payload m v fs w
  unfolding drive_of
  still fs m v w good lively idle =
      let stays = idle_drive payload fs w idle in
      record {
        made = 0;
        counted = rw stays (omega arith);
        highest = omega arith;
        rested = rw stays (rests m v w.link.call good);
        uses = stays;
        each = λ waits fits.
            let s = shows_one config payload old n few w.link.call w.buffer w.work lively (rw stays at waits) (rw stays at fits) in
            absurd (not_idle w.link.call payload w.buffer w.work s.0 s.1 idle);
      }

  -- a byte of the course is a transfer
  onward : (f : Fate) (fs : List Fate) → Goes fs → (m v : ℕ) (w : World) → Good m v w.link.call → Live config payload old n w.link.call w.buffer
      → (made : Made) → Shows w.link.call payload w.buffer w.work made → Drives payload m v (f ∷ fs) w
  unfolding drive_of
  onward f fs rest m v w good lively made shown =
      let c : Call = w.link.call in
      let e = effect_of f made w.link.gauge w.flash in
      let laid = work_after w.link.call payload (length w.buffer) w.work in
      let t = takes c payload w.buffer w.work made shown e.outcome e.reply (all_brought f made w.link.gauge w.flash) in
      let l : Follows m v (Ok t.0) = subst (Follows m v) t.1 (follows m v c good e.outcome e.reply (length payload) (length w.buffer) (length laid)) in
      let one = counts m v c t.0 good e.outcome e.reply (length payload) (length w.buffer) (length laid) t.1 in
      let later : World = world (record { call = t.0; gauge = e.gauge }) (buffer_after c e.outcome e.reply w.buffer (length laid)) laid e.flash in
      let goes : step_of payload f w ≡ later = steps payload w.buffer w.work w.flash c w.link.gauge f made shown ∙ rw t.1 in
      let lives-on : Live config payload old n t.0 later.buffer = subst (λ (r : Reported Call). Live config payload old n (call_after r) later.buffer) t.1 (lives config payload old n c w.buffer lively e.outcome e.reply (length laid)) in
      let next = rest l.0 v later l.2 lives-on in
      let ahead : drive_of payload (f ∷ fs) w ≡ drive_of payload fs later = ap (drive_of payload fs) goes in
      record {
        made = suc next.made;
        counted = subst (λ (x : World). (tally_of x.link.call).transfers ≡ (tally_of c).transfers + suc next.made) (sym ahead) (omega (arith, next.counted, one));
        highest = omega (arith, next.highest, l.1);
        rested = subst (λ (x : World). (tally_of x.link.call).waits ≤ v) (sym ahead) next.rested;
        uses = ahead ∙ next.uses ∙ sym (ap (drive_of payload (take next.made fs)) goes);
        each =
            subst
            (λ (x : World). phase_of x.link.call ≡ phase.Waiting → fits_of x.link.call (length payload) (length x.buffer) (length x.work) ≡ true
            → (suc next.made ≡ suc (length fs)) × (suc (length fs) < m))
            (sym ahead) (λ waits fits. let last = next.each waits fits in (omega (arith, last.0), omega (arith, last.1, l.1)));
      }

  drives : (fs : List Fate) → Goes fs
  unfolding drive_of
  drives [] m v w good lively = record {
    made = 0;
    counted = omega arith;
    highest = omega arith;
    rested = rests m v w.link.call good;
    uses = refl;
    each = λ waits fits. let some = waits_some m v w.link.call good waits in (refl, omega (arith, some));
  }
  drives (f ∷ fs) m v w good lively = by (drives fs) (next_of w.link.call payload (length w.buffer) (length w.work)) refl
    where
      by : Goes fs → (t : Transfer) → next_of w.link.call payload (length w.buffer) (length w.work) ≡ t → Drives payload m v (f ∷ fs) w
      by rest (transfer.Write k) e = onward f fs rest m v w good lively _ (shows_write k e)
      by rest (transfer.Read command count) e = onward f fs rest m v w good lively _ (shows_read command count e)
      by rest (transfer.Refused a) e = still (f ∷ fs) m v w good lively (rw e tt)
      by rest (transfer.Ended a) e = still (f ∷ fs) m v w good lively (rw e tt)

-- ---- a run

fates_long : (course : List ℕ) → length (fates_of course) ≡ length course
unfolding fates_of
fates_long [] = refl
fates_long (byte ∷ course) = ap suc (fates_long course)

-- the first k bytes of a course
fates_front : (k : ℕ) (course : List ℕ) → fates_of (take k course) ≡ take k (fates_of course)
unfolding fates_of
fates_front zero course = refl
fates_front (suc k) [] = refl
fates_front (suc k) (byte ∷ course) = ap (λ (fs : List Fate). fate_of byte ∷ fs) (fates_front k course)

sound_front : (k : ℕ) (course : List ℕ) → sound_of course ≡ true → sound_of (take k course) ≡ true
unfolding sound_of when◌then◌else◌
sound_front zero course sound = refl
sound_front (suc k) [] sound = refl
sound_front (suc k) (byte ∷ course) sound = by (sound_front k course) (ltb 2 byte) refl
  where
    by : (sound_of course ≡ true → sound_of (take k course) ≡ true) → (t : Bool) → ltb 2 byte ≡ t → sound_of (take (suc k) (byte ∷ course)) ≡ true
    by front true t = absurd (false≢true (rw t at sound))
    by front false t = rw t (front (rw t at sound))

-- a run is cut exactly where its call waits and is lent the lengths of its start
cut_only : (p : Phase) (fits : Bool) → end_of p fits ≡ end.Cut → (p ≡ phase.Waiting) × (fits ≡ true)
unfolding end_of case◌waiting◌ended◌ when◌then◌else◌
cut_only phase.Waiting true e = (refl, refl)
cut_only phase.Waiting false e = let z : ◌≡◌ {A = ℕ} 0 1 = cc in absurd (omega arith)
cut_only (phase.Ended a) fits e = let z : ◌≡◌ {A = ℕ} 0 1 = cc in absurd (omega arith)

not_cut : (a : Answer) → end.Answered a ≡ end.Cut → ⊥
not_cut a e = let z : ◌≡◌ {A = ℕ} 0 1 = cc in absurd (omega arith)

module _ (config : Config) (few : TwoByteBudgets config) (kind : Kind) (payload buffer work flash : List ℕ) (gauge : Gauge) (course : List ℕ) (most waits : ℕ)
    (name : CeilingOf (budget_of kind config (length buffer)) (length payload) (length buffer) kind most waits) where
  abbrev begun : World
  begun = begins kind config payload buffer work flash gauge

  good : Good most waits begun.link.call
  good = good_named config few kind (length payload) (length buffer) (length work) most waits name

  driven : Drives payload most waits (fates_of course) begun
  driven = drives config few payload buffer (length work) (fates_of course) most waits begun good (live config payload buffer (length work) kind)

  uncounted : (tally_of begun.link.call).transfers ≡ 0
  uncounted = none_counted config few kind (length payload) (length buffer) (length work)

  run_within : RunWithin payload course most waits begun
  unfolding leaves_of ended_of
  run_within = by (eqb (length flash) 8192) refl (sound_of course) refl
    where
      -- one that starts is driven over its course
      starts : eqb (length flash) 8192 ≡ true → (over : List ℕ) → sound_of over ≡ true → run_of payload over begun ≡ leaves_of (length payload) (drive_of payload (fates_of over) begun)
      starts whole over sound = is_admitted payload begun over (eqb-true (length flash) 8192 whole) sound

      -- one that does not start leaves the call as it was
      refuses : (a : Answer) → run_of payload course begun ≡ unchanged a begun.link buffer work flash → (sound_of course ≡ true → run_of payload [] begun ≡ unchanged a begun.link buffer work flash)
          → RunWithin payload course most waits begun
      refuses a r same =
          let zero-made : (tally_left (run_of payload course begun)).transfers ≡ 0 = rw r uncounted in
          record {
            makes = (omega (arith, zero-made), rw r (rests most waits begun.link.call good));
            uses = λ sound. r ∙ sym (same sound) ∙ ap (λ (k : ℕ). run_of payload (take k course) begun) (sym zero-made);
            cut = λ stopped. absurd (not_cut a (rw r at stopped));
          }

      by : (t : Bool) → eqb (length flash) 8192 ≡ t → (s : Bool) → sound_of course ≡ s → RunWithin payload course most waits begun
      by false t s x =
          let other = eqb-false (length flash) 8192 t in
          refuses answer.WrongBuffer (figures.other_flash payload course buffer work flash begun.link other) (λ sound. figures.other_flash payload [] buffer work flash begun.link other)
      by true t false x =
          refuses answer.BadLine (figures.bad_course payload course buffer work flash begun.link (eqb-true (length flash) 8192 t) (bad_of course x)) (λ sound. absurd (false≢true (sym x ∙ sound)))
      by true t true x =
          let r = starts t course x in
          let many : (tally_left (run_of payload course begun)).transfers ≡ driven.made = rw r (omega (arith, driven.counted, uncounted)) in
          let front = starts t (take driven.made course) (sound_front driven.made course x) in
          record {
            makes = (omega (arith, many, driven.highest), rw r driven.rested);
            uses = λ sound.
                r ∙ ap (leaves_of (length payload)) (driven.uses ∙ ap (λ (fs : List Fate). drive_of payload fs begun) (sym (fates_front driven.made course))) ∙ sym front
                ∙ ap (λ (k : ℕ). run_of payload (take k course) begun) (sym many);
            cut = λ stopped.
                let c = cut_only _ _ (rw r at stopped) in
                let all = driven.each c.0 c.1 in
                let long = fates_long course in
                (omega (arith, many, all.0, long), omega (arith, all.1, long));
          }

-- EVERY RUN OVER A COURSE
pub course_traffic : CourseTraffic
course_traffic = record { runs = λ config few kind payload buffer work flash gauge course most waits name. run_within config few kind payload buffer work flash gauge course most waits name }
