-- A run that is refused changes nothing, and a call that has ended or is lent other lengths shows no transfer.
-- Assumes nothing.
use Rattle.std.specs.Prelude.{Err, Ok}
use Prim.Native.Nat.{ℕ, ◌<◌}
use mathlib.Core.Path.{◌≡◌, refl, sym, ap, ◌∙◌}
use mathlib.Core.Bool.{Bool, true, false, ◌&&◌, false≢true}
use mathlib.Core.List.{List, [], ◌∷◌, ◌++◌}
use lib.ListN.{length}
use lib.Dec.{ltb, eqb}
use borrow.Author.Tests.{eq-eqb, ne_eqb, lt-ltb, ltb-true, eqb-true}
use Rattle.protocol.specs.Pick.{when◌then◌else◌}
use Rattle.protocol.specs.declared.error.Answer.{Answer}
use Rattle.protocol.specs.declared.error.Answer.TheVariants as answer
use Rattle.engine.specs.Pick.{case◌waiting◌ended◌}
use Rattle.engine.specs.Bus as bus
use Rattle.engine.specs.declared.bus.Lent.{Lent}
use Rattle.engine.specs.declared.bus.Phase.TheVariants as phase
use Rattle.engine.specs.declared.bus.Transfer.TheVariants as transfer
use Rattle.writing.specs.Writing as writing
use Rattle.reading.specs.Reading as reading
use Rattle.calls.specs.Call.{next_of, work_after, phase_of, fits_of}
use Rattle.calls.specs.declared.call.Call.{Call}
use Rattle.calls.specs.declared.call.Call.TheVariants as call
use Rattle.model_gauge.specs.declared.gauge.Fate.{Fate}
use Rattle.courses.specs.Pick.{case◌sending◌to◌none◌, case◌refused◌admitted◌}
use Rattle.courses.specs.Course.{fate_of, fates_of, sound_of, admit_of, end_of}
use Rattle.courses.specs.Figures.{BadByte, LentAgain, unchanged, Figures}
use Rattle.courses.specs.Run.{world, step_of, drive_of, ended_of, refused_of, leaves_of, run_of}
use Rattle.courses.specs.declared.course.End.TheVariants as end
use Rattle.courses.specs.declared.run.Link.{Link}

-- ---- whether a run starts

either : (t s : Bool) → s ≡ false → (when t then false else s) ≡ false
unfolding when◌then◌else◌
either true s e = refl
either false s e = e

not_sound : (front back : List ℕ) (byte : ℕ) → 2 < byte → sound_of (front ++ byte ∷ back) ≡ false
unfolding sound_of when◌then◌else◌
not_sound [] back byte h = rw (lt-ltb 2 byte h)
not_sound (x ∷ front) back byte h = either (ltb 2 x) (sound_of (front ++ byte ∷ back)) (not_sound front back byte h)

unsound : (course : List ℕ) → BadByte course → sound_of course ≡ false
unsound course (front, byte, back, is, h) = ap sound_of is ∙ not_sound front back byte h

pub bad_of : (course : List ℕ) → sound_of course ≡ false → BadByte course
unfolding sound_of when◌then◌else◌
bad_of [] e = absurd (false≢true (sym e))
bad_of (byte ∷ course) e = by (ltb 2 byte) refl (bad_of course)
  where
    by : (t : Bool) → ltb 2 byte ≡ t → (sound_of course ≡ false → BadByte course) → BadByte (byte ∷ course)
    by true t further = ([], byte, course, refl, ltb-true 2 byte t)
    by false t further = let b : BadByte course = further (rw t at e) in (byte ∷ b.0, b.1, b.2, ap (λ (l : List ℕ). byte ∷ l) b.3, b.4)

all_good : (course : List ℕ) → (BadByte course → ⊥) → sound_of course ≡ true
all_good course good = by (sound_of course) refl
  where
    by : (t : Bool) → sound_of course ≡ t → sound_of course ≡ true
    by true t = t
    by false t = absurd (good (bad_of course t))

admit_flash : (n : ℕ) (course : List ℕ) → (n ≡ 8192 → ⊥) → admit_of n course ≡ Err answer.WrongBuffer
unfolding admit_of when◌then◌else◌
admit_flash n course h = rw (ne_eqb n 8192 h)

admit_course : (n : ℕ) (course : List ℕ) → n ≡ 8192 → BadByte course → admit_of n course ≡ Err answer.BadLine
unfolding admit_of when◌then◌else◌
admit_course n course h b = rw (eq-eqb n 8192 h, unsound course b)

admit_all : (n : ℕ) (course : List ℕ) → n ≡ 8192 → sound_of course ≡ true → admit_of n course ≡ Ok tt
unfolding admit_of when◌then◌else◌
admit_all n course h s = rw (eq-eqb n 8192 h, s)

-- ---- what is lent

other_lengths : (lent : Lent) (n w : ℕ) → ((n ≡ lent.length) × (w ≡ lent.work) → ⊥) → bus.fits_of lent n w ≡ false
unfolding bus.fits_of
other_lengths lent n w other = by (eqb n lent.length) refl (eqb w lent.work) refl
  where
    by : (a : Bool) → eqb n lent.length ≡ a → (b : Bool) → eqb w lent.work ≡ b → (eqb n lent.length && eqb w lent.work) ≡ false
    by true a true b = absurd (other (eqb-true n lent.length a, eqb-true w lent.work b))
    by true a false b = rw (a, b)
    by false a t b = rw a

fits_not : (c : Call) (p n w : ℕ) → (LentAgain c p n w → ⊥) → fits_of c p n w ≡ false
unfolding fits_of
fits_not (call.Write c) p n w other = other_lengths c.task.lent p w other
fits_not (call.Read c) p n w other = other_lengths c.task.lent n w other

-- ---- what a call shows that has ended, or is lent other lengths

shows_over : (c : Call) (payload : List ℕ) (n : ℕ) (work : List ℕ) (a : Answer) → phase_of c ≡ phase.Ended a
    → (next_of c payload n (length work) ≡ transfer.Ended a) × (work_after c payload n work ≡ work)
unfolding phase_of next_of work_after writing.next_of writing.work_after reading.next_of reading.work_after case◌waiting◌ended◌
shows_over (call.Write c) payload n work a over = (rw over, rw over)
shows_over (call.Read c) payload n work a over = (rw over, rw over)

shows_other : (c : Call) (payload : List ℕ) (n : ℕ) (work : List ℕ) → phase_of c ≡ phase.Waiting → fits_of c (length payload) n (length work) ≡ false
    → (next_of c payload n (length work) ≡ transfer.Refused answer.WrongBuffer) × (work_after c payload n work ≡ work)
unfolding phase_of fits_of next_of work_after writing.next_of writing.work_after reading.next_of reading.work_after case◌waiting◌ended◌ when◌then◌else◌
shows_other (call.Write c) payload n work waits other = (rw (waits, other), rw (waits, other))
shows_other (call.Read c) payload n work waits other = (rw (waits, other), rw (waits, other))

-- ---- runs

module _ (payload buffer work flash : List ℕ) (link : Link) where
  refuses : (course : List ℕ) (a : Answer) → admit_of (length flash) course ≡ Err a
      → run_of payload course (world link buffer work flash) ≡ unchanged a link buffer work flash
  unfolding run_of refused_of case◌refused◌admitted◌
  refuses course a e = rw e

  -- a call that shows no transfer is left as it was
  module _ (laid : work_after link.call payload (length buffer) work ≡ work)
      (stays : (f : Fate) → step_of payload f (world link buffer work flash) ≡ world link buffer (work_after link.call payload (length buffer) work) flash) where
    drives_none : (fs : List Fate) → drive_of payload fs (world link buffer work flash) ≡ world link buffer work flash
    unfolding drive_of
    drives_none [] = refl
    drives_none (f ∷ fs) = rw (stays f, laid) (drives_none fs)

    idle : (course : List ℕ) (a : Answer) → length flash ≡ 8192 → sound_of course ≡ true
        → end_of (phase_of link.call) (fits_of link.call (length payload) (length buffer) (length work)) ≡ end.Answered a
        → run_of payload course (world link buffer work flash) ≡ unchanged a link buffer work flash
    unfolding run_of leaves_of ended_of case◌refused◌admitted◌
    idle course a h s e = rw (admit_all (length flash) course h s, drives_none (fates_of course), e)

  is_over : (course : List ℕ) (a : Answer) → length flash ≡ 8192 → sound_of course ≡ true → phase_of link.call ≡ phase.Ended a
      → run_of payload course (world link buffer work flash) ≡ unchanged a link buffer work flash
  unfolding step_of end_of case◌waiting◌ended◌ case◌sending◌to◌none◌
  is_over course a h s over =
      let shown = shows_over link.call payload (length buffer) work a over in
      idle shown.1 (λ f. rw shown.0) course a h s (rw over)

  is_other : (course : List ℕ) → length flash ≡ 8192 → sound_of course ≡ true → phase_of link.call ≡ phase.Waiting
      → fits_of link.call (length payload) (length buffer) (length work) ≡ false
      → run_of payload course (world link buffer work flash) ≡ unchanged answer.WrongBuffer link buffer work flash
  unfolding step_of end_of case◌waiting◌ended◌ case◌sending◌to◌none◌ when◌then◌else◌
  is_other course h s waits other =
      let shown = shows_other link.call payload (length buffer) work waits other in
      idle shown.1 (λ f. rw shown.0) course answer.WrongBuffer h s (rw (waits, other))

pub figures : Figures
unfolding fate_of fates_of when◌then◌else◌
figures = record {
  fates_none = refl;
  fates = λ course. (refl, refl, refl);
  sound = λ course. (λ s b. false≢true (sym (unsound course b) ∙ s), all_good course);
  other_flash = λ payload course buffer work flash link h. refuses payload buffer work flash link course answer.WrongBuffer (admit_flash (length flash) course h);
  bad_course = λ payload course buffer work flash link h b. refuses payload buffer work flash link course answer.BadLine (admit_course (length flash) course h b);
  over = λ payload course buffer work flash link a h s p. is_over payload buffer work flash link course a h s p;
  other_lent = λ payload course buffer work flash link h s p q.
      is_other payload buffer work flash link course h s p (fits_not link.call (length payload) (length buffer) (length work) q);
}
