-- A run over a course is a step for its first byte and a run over the rest: a step is one transfer, and keeps the flash's length.
-- Assumes nothing.
use Rattle.engine.specs.Bus.{Reported}
use Rattle.std.specs.Prelude.{Err, Ok}
use Prim.Native.Nat.{ℕ}
use mathlib.Core.Path.{◌≡◌, refl, sym, ap, ◌∙◌}
use mathlib.Core.Bool.{Bool, true, false}
use mathlib.Core.List.{List, [], ◌∷◌, ◌++◌}
use lib.ListN.{length, take, drop}
use lib.Dec.{ltb, eqb}
use borrow.Author.Tests.{eqb-true, eqb-false}
use Rattle.protocol.specs.Pick.{when◌then◌else◌}
use Rattle.protocol.specs.Window.{in_window}
use Rattle.protocol.specs.declared.error.Answer.{Answer}
use Rattle.engine.specs.Pick.{case◌waiting◌ended◌}
use Rattle.engine.specs.Made.{Made, write, read}
use Rattle.engine.specs.declared.bus.Phase.TheVariants as phase
use Rattle.engine.specs.declared.bus.Transfer.{Transfer}
use Rattle.engine.specs.declared.bus.Transfer.TheVariants as transfer
use Rattle.calls.specs.Call.{next_of, work_after, part_of, phase_of}
use Rattle.calls.specs.declared.call.Call.{Call}
use Rattle.model_gauge.specs.Frame.{read_frame}
use Rattle.model_gauge.specs.Gauge.{offset_of, Effect, heard_frame, acts, effect_of}
use Rattle.model_gauge.specs.declared.frame.Form.{Form}
use Rattle.model_gauge.specs.declared.frame.Form.TheVariants as form
use Rattle.model_gauge.specs.declared.gauge.Fate.{Fate}
use Rattle.model_gauge.specs.declared.gauge.Fate.TheVariants as fate
use Rattle.model_gauge.specs.declared.gauge.Gauge.{Gauge}
use Rattle.model_gauge.proofs.Laws.{whichever, read_stores}
use Rattle.courses.specs.Pick.{case◌sending◌to◌none◌}
use Rattle.courses.specs.Course.{fate_of, fates_of, sound_of, end_of}
use Rattle.courses.specs.Figures.{LentAgain}
use Rattle.courses.specs.Run.{World, Left, world, left, taken_of, heard_in, step_of, drive_of, ended_of, leaves_of, run_of, left_over}
use Rattle.courses.specs.declared.course.End.TheVariants as end
use Rattle.courses.specs.declared.run.Link.{Link}
use Rattle.courses.proofs.Figures.{figures}
use Rattle.answers.proofs.Kept.{stored_length}
use Rattle.ceilings.specs.Reports.{call_after}
use Rattle.promises.specs.RunLaws.{Means, heard, lost_before, lost_after, reported_to, Shows, shows_write, shows_read, RunLaws}
use Rattle.promises.proofs.RunRows.{again_fits}
use Rattle.promises.proofs.CourseRows.{is_admitted}

-- ---- a transfer keeps the flash's length

form_kept : (f : Form) (frame : List ℕ) (gauge : Gauge) (flash : List ℕ) → length (heard_frame f frame gauge flash).flash ≡ length flash
unfolding heard_frame
form_kept (form.BlockWrite address count) frame gauge flash =
    whichever (λ (e : Effect). length e.flash ≡ length flash) (in_window address count) _ _ (stored_length (offset_of address) count (take count (drop 4 frame)) flash) refl
form_kept (form.Address address) frame gauge flash = whichever (λ (e : Effect). length e.flash ≡ length flash) (in_window address 1) _ _ refl refl
form_kept form.Other frame gauge flash = refl

acts_kept : (made : Made) (gauge : Gauge) (flash : List ℕ) → length (acts made gauge flash).flash ≡ length flash
unfolding acts
acts_kept (write frame) gauge flash = form_kept (read_frame frame) frame gauge flash
acts_kept (read command count) gauge flash = ap length (read_stores command count gauge flash)

flash_kept : (f : Fate) (made : Made) (gauge : Gauge) (flash : List ℕ) → length (effect_of f made gauge flash).flash ≡ length flash
unfolding effect_of
flash_kept fate.Heard made gauge flash = acts_kept made gauge flash
flash_kept fate.LostBefore made gauge flash = refl
flash_kept fate.LostAfter made gauge flash = acts_kept made gauge flash

-- ---- a byte of a course

first_fate : (byte : ℕ) (f : Fate) → Means byte f → (rest : List ℕ) → fates_of (byte ∷ rest) ≡ f ∷ fates_of rest
unfolding fates_of fate_of when◌then◌else◌
first_fate byte f heard rest = refl
first_fate byte f lost_before rest = refl
first_fate byte f lost_after rest = refl

first_sound : (byte : ℕ) (f : Fate) → Means byte f → (rest : List ℕ) → sound_of rest ≡ true → sound_of (byte ∷ rest) ≡ true
unfolding sound_of when◌then◌else◌
first_sound byte f heard rest sound = sound
first_sound byte f lost_before rest sound = sound
first_sound byte f lost_after rest sound = sound

none_sound : sound_of [] ≡ true
unfolding sound_of
none_sound = refl

-- ---- a step

pub is_taken_so : (r : Reported Call) → taken_of r ≡ call_after r
unfolding taken_of
is_taken_so (Err (a, call)) = refl
is_taken_so (Ok call) = refl

is_cut : (payload buffer work flash : List ℕ) (link : Link) → length flash ≡ 8192 → phase_of link.call ≡ phase.Waiting
    → LentAgain link.call (length payload) (length buffer) (length work)
    → run_of payload [] (world link buffer work flash) ≡ left (record { link = link; end = end.Cut }) buffer work flash
unfolding leaves_of ended_of drive_of fates_of end_of case◌waiting◌ended◌ when◌then◌else◌
is_cut payload buffer work flash link whole waits again =
    is_admitted payload (world link buffer work flash) [] whole none_sound ∙ rw (waits, again_fits link.call (length payload) (length buffer) (length work) again)

module _ (payload buffer work flash : List ℕ) (call : Call) (gauge : Gauge) where
  pub steps : (f : Fate) (made : Made) → Shows call payload buffer work made
      → step_of payload f (world (record { call = call; gauge = gauge }) buffer work flash)
      ≡ reported_to payload (effect_of f made gauge flash) call buffer (work_after call payload (length buffer) work)
  unfolding step_of heard_in case◌sending◌to◌none◌
  steps f made (shows_write n shows) = rw (shows, is_taken_so)
  steps f made (shows_read command count shows) = rw (shows, is_taken_so)

steps_none : (payload buffer work flash : List ℕ) (link : Link) (f : Fate) (a : Answer) → next_of link.call payload (length buffer) (length work) ≡ transfer.Refused a
    → step_of payload f (world link buffer work flash) ≡ world link buffer (work_after link.call payload (length buffer) work) flash
unfolding step_of case◌sending◌to◌none◌
steps_none payload buffer work flash link f a shows = rw shows

-- a step of a run, wherever it leads
run_on : (payload rest : List ℕ) (w v : World) (byte : ℕ) (f : Fate) → Means byte f → length w.flash ≡ 8192 → length v.flash ≡ 8192 → sound_of rest ≡ true
    → step_of payload f w ≡ v → run_of payload (byte ∷ rest) w ≡ run_of payload rest v
unfolding drive_of
run_on payload rest w v byte f means whole whole' sound step =
    is_admitted payload w (byte ∷ rest) whole (first_sound byte f means rest sound)
    ∙ ap (λ (fs : List Fate). leaves_of (length payload) (drive_of payload fs w)) (first_fate byte f means rest)
    ∙ ap (λ (v : World). leaves_of (length payload) (drive_of payload (fates_of rest) v)) step
    ∙ sym (is_admitted payload v rest whole' sound)

-- ---- one course after another

step_flash : (payload : List ℕ) (f : Fate) (w : World) → length (step_of payload f w).flash ≡ length w.flash
unfolding step_of heard_in case◌sending◌to◌none◌
step_flash payload f w = by (next_of w.link.call payload (length w.buffer) (length w.work)) refl
  where
    by : (t : Transfer) → next_of w.link.call payload (length w.buffer) (length w.work) ≡ t → length (step_of payload f w).flash ≡ length w.flash
    by (transfer.Write n) e = rw e (flash_kept f (write (part_of w.link.call payload (work_after w.link.call payload (length w.buffer) w.work) n)) w.link.gauge w.flash)
    by (transfer.Read command count) e = rw e (flash_kept f (read command count) w.link.gauge w.flash)
    by (transfer.Refused a) e = rw e
    by (transfer.Ended a) e = rw e

drive_flash : (payload : List ℕ) (fs : List Fate) (w : World) → length (drive_of payload fs w).flash ≡ length w.flash
unfolding drive_of
drive_flash payload [] w = refl
drive_flash payload (f ∷ fs) w = drive_flash payload fs (step_of payload f w) ∙ step_flash payload f w

pub drive_both : (payload : List ℕ) (es further : List Fate) (w : World) → drive_of payload (es ++ further) w ≡ drive_of payload further (drive_of payload es w)
unfolding drive_of
drive_both payload [] further w = refl
drive_both payload (e ∷ es) further w = drive_both payload es further (step_of payload e w)

pub fates_both : (course further : List ℕ) → fates_of (course ++ further) ≡ fates_of course ++ fates_of further
unfolding fates_of
fates_both [] further = refl
fates_both (byte ∷ course) further = ap (λ (es : List Fate). fate_of byte ∷ es) (fates_both course further)

pub sound_both : (course further : List ℕ) → sound_of course ≡ true → sound_of further ≡ true → sound_of (course ++ further) ≡ true
unfolding sound_of when◌then◌else◌
sound_both [] further p q = q
sound_both (byte ∷ course) further p q = by (ltb 2 byte) p (λ r. sound_both course further r q)
  where
    by : (t : Bool) → (when t then false else sound_of course) ≡ true → (sound_of course ≡ true → sound_of (course ++ further) ≡ true)
        → (when t then false else sound_of (course ++ further)) ≡ true
    by true p on = p
    by false p on = on p

-- a run goes on where another has left off
pub runs_both : (payload course further : List ℕ) (from : World) → sound_of course ≡ true → sound_of further ≡ true
    → run_of payload further (left_over (run_of payload course from)) ≡ run_of payload (course ++ further) from
unfolding leaves_of ended_of
runs_both payload course further from sound sound' = by (eqb (length from.flash) 8192) refl
  where
    by : (t : Bool) → eqb (length from.flash) 8192 ≡ t → run_of payload further (left_over (run_of payload course from)) ≡ run_of payload (course ++ further) from
    by true t =
        let whole = eqb-true (length from.flash) 8192 t in
        let there : World = drive_of payload (fates_of course) from in
        let first = is_admitted payload from course whole sound in
        let second = is_admitted payload there further (drive_flash payload (fates_of course) from ∙ whole) sound' in
        let all = is_admitted payload from (course ++ further) whole (sound_both course further sound sound') in
        ap (λ (l : Left). run_of payload further (left_over l)) first ∙ second
        ∙ ap (leaves_of (length payload)) (sym (drive_both payload (fates_of course) (fates_of further) from) ∙ ap (λ (fs : List Fate). drive_of payload fs from) (sym (fates_both course further)))
        ∙ sym all
    by false t =
        let other = eqb-false (length from.flash) 8192 t in
        ap (λ (l : Left). run_of payload further (left_over l)) (figures.other_flash payload course from.buffer from.work from.flash from.link other)
        ∙ figures.other_flash payload further from.buffer from.work from.flash from.link other
        ∙ sym (figures.other_flash payload (course ++ further) from.buffer from.work from.flash from.link other)

-- THE LAWS OF A RUN
pub run_laws : RunLaws
run_laws = record {
  taken = λ link buffer work flash. refl;
  told = λ run buffer work flash. refl;
  cut = is_cut;
  goes_on = λ payload rest buffer work flash call gauge byte f made means whole sound shows.
      run_on payload rest _ _ byte f means whole (flash_kept f made gauge flash ∙ whole) sound (steps payload buffer work flash call gauge f made shows);
  none_on = λ payload rest buffer work flash link byte f a means whole sound shows.
      run_on payload rest (world link buffer work flash) _ byte f means whole whole sound (steps_none payload buffer work flash link f a shows);
  runs_on = runs_both;
}
