-- The rows of a run, from why it was refused or that it was driven.
-- Assumes nothing.
use Prim.Native.Nat.{ℕ}
use mathlib.Core.Path.{◌≡◌, refl, sym, ap, subst, ◌∙◌}
use mathlib.Core.Bool.{Bool, true, false, ◌||◌, false≢true}
use mathlib.Core.List.{List, [], ◌∷◌, ◌++◌}
use mathlib.Core.Logic.{◌⊎◌, inl, inr}
use native.Mathlib.Omega.{arith}
use lib.Dec.{eqb}
use borrow.Author.Tests.{eq-eqb, eqb-true, eqb-false}
use Rattle.protocol.specs.Pick.{when◌then◌else◌}
use Rattle.protocol.specs.Answer.{number_of}
use Rattle.protocol.specs.declared.error.Answer.{Answer}
use Rattle.protocol.specs.declared.error.Answer.TheVariants as answer
use Rattle.engine.specs.Pick.{case◌waiting◌ended◌}
use Rattle.engine.specs.declared.bus.Phase.{Phase}
use Rattle.engine.specs.declared.bus.Phase.TheVariants as phase
use Rattle.calls.specs.Call.{fits_of}
use Rattle.calls.specs.declared.call.Call.{Call}
use Rattle.calls.specs.declared.call.Call.TheVariants as call
use Rattle.courses.specs.Course.{sound_of, end_of}
use Rattle.courses.specs.Figures.{BadByte, LentAgain}
use Rattle.courses.specs.Run.{Left, left}
use Rattle.courses.specs.declared.course.End.{End}
use Rattle.courses.specs.declared.course.End.TheVariants as end
use Rattle.courses.specs.declared.run.Link.{Link}
use Rattle.courses.proofs.Figures.{bad_of, figures}
use Rattle.answers.specs.Rows.{OneOf, Among}
use Rattle.answers.proofs.Laws.{fits_same, same_fits}
use Rattle.promises.specs.CourseRows.{Gives, GivesOneOf, own_of, RunRows}

-- ---- numbers in lists

module _ (k : ℕ) where
  -- a test that finds k
  abbrev pub has : List ℕ → Bool
  has [] = false
  has (j ∷ js) = eqb k j || has js

  none_of : (ks : List ℕ) → has ks ≡ false → OneOf ks k → ⊥
  none_of [] e h = h
  none_of (j ∷ js) e (inl h) = false≢true (sym e ∙ rw (eq-eqb k j h))
  none_of (j ∷ js) e (inr h) = by (eqb k j) refl (λ rest. none_of js rest h)
    where
      by : (t : Bool) → eqb k j ≡ t → (has js ≡ false → ⊥) → ⊥
      by true t further = false≢true (sym e ∙ rw t)
      by false t further = further (rw t at e)

  in_front : (ks js : List ℕ) → OneOf ks k → OneOf (ks ++ js) k
  in_front [] js h = absurd h
  in_front (j ∷ ks) js (inl h) = inl h
  in_front (j ∷ ks) js (inr h) = inr (in_front ks js h)

  in_back : (ks js : List ℕ) → OneOf js k → OneOf (ks ++ js) k
  in_back [] js h = h
  in_back (j ∷ ks) js h = inr (in_back ks js h)

-- ---- the lengths of the start

pub fits_again : (c : Call) (p n w : ℕ) → fits_of c p n w ≡ true → LentAgain c p n w
unfolding fits_of
fits_again (call.Write c) p n w e = fits_same c.task.lent p w e
fits_again (call.Read c) p n w e = fits_same c.task.lent n w e

pub again_fits : (c : Call) (p n w : ℕ) → LentAgain c p n w → fits_of c p n w ≡ true
unfolding fits_of
again_fits (call.Write c) p n w s = same_fits c.task.lent p w s
again_fits (call.Read c) p n w s = same_fits c.task.lent n w s

-- ---- the two rows, from why a run was refused or that it was not

lacks_8 : (c : Call) → has 8 (own_of c) ≡ false
lacks_8 (call.Write c) = refl
lacks_8 (call.Read c) = refl

lacks_11 : (c : Call) → has 11 (own_of c) ≡ false
lacks_11 (call.Write c) = refl
lacks_11 (call.Read c) = refl

module _ (f : ℕ) (course : List ℕ) (c : Call) (p n w : ℕ) where
  pub data Refused : Answer → Type 0 where
    by_flash : (f ≡ 8192 → ⊥) → Refused answer.WrongBuffer
    by_course : f ≡ 8192 → BadByte course → Refused answer.BadLine
    by_lengths : f ≡ 8192 → (BadByte course → ⊥) → (LentAgain c p n w → ⊥) → Refused answer.WrongBuffer

  pub record Driven (e : End) : Type 0 where
    pub whole : f ≡ 8192
    pub good : BadByte course → ⊥
    pub again : LentAgain c p n w
    pub own_answer : GivesOneOf (own_of c) e

  refused_rows : (a : Answer) → Refused a → RunRows f course c p n w (end.Answered a)
  refused_rows a (by_flash other) = record {
    wrong_buffer = (λ g. inl other, λ r. refl);
    bad_course = (λ g. absurd (omega arith), λ r. absurd (other r.0));
    own_answer = in_back 8 (own_of c) _ (inl refl);
  }
  refused_rows a (by_course whole bad) = record {
    wrong_buffer = (λ g. absurd (omega arith), no_buffer);
    bad_course = (λ g. (whole, bad), λ r. refl);
    own_answer = in_back 11 (own_of c) _ (inr (inl refl));
  }
    where
      no_buffer : (f ≡ 8192 → ⊥) ⊎ ((BadByte course → ⊥) × (LentAgain c p n w → ⊥)) → Gives 8 (end.Answered answer.BadLine)
      no_buffer (inl other) = absurd (other whole)
      no_buffer (inr r) = absurd (r.0 bad)
  refused_rows a (by_lengths whole good other) = record {
    wrong_buffer = (λ g. inr (good, other), λ r. refl);
    bad_course = (λ g. absurd (omega arith), λ r. absurd (good r.1));
    own_answer = in_back 8 (own_of c) _ (inl refl);
  }

  -- a call's own answer is neither
  neither : (k : ℕ) → has k (own_of c) ≡ false → (e : End) → GivesOneOf (own_of c) e → Gives k e → ⊥
  neither k lacks (end.Answered a) h g = none_of k (own_of c) lacks (subst (OneOf (own_of c)) g h)
  neither k lacks end.Cut h g = g

  own_back : (e : End) → GivesOneOf (own_of c) e → GivesOneOf (own_of c ++ (8 ∷ 11 ∷ [])) e
  own_back (end.Answered a) h = in_front (number_of a) (own_of c) _ h
  own_back end.Cut h = tt

  driven_rows : (e : End) → Driven e → RunRows f course c p n w e
  driven_rows e d = record {
    wrong_buffer = (λ g. absurd (neither 8 (lacks_8 c) e d.own_answer g), no_buffer);
    bad_course = (λ g. absurd (neither 11 (lacks_11 c) e d.own_answer g), λ r. absurd (d.good r.1));
    own_answer = own_back e d.own_answer;
  }
    where
      no_buffer : (f ≡ 8192 → ⊥) ⊎ ((BadByte course → ⊥) × (LentAgain c p n w → ⊥)) → Gives 8 e
      no_buffer (inl other) = absurd (other d.whole)
      no_buffer (inr r) = absurd (r.1 d.again)

  -- what a run leaves, where a run that is refused leaves all as it was
  module _ (link : Link) (buffer work flash : List ℕ) (ran : Left) where
    abbrev nothing : End → Left
    nothing e = left (record { link = link; end = e }) buffer work flash

    pub data Came : Type 0 where
      refuses : (a : Answer) → Refused a → ran ≡ nothing (end.Answered a) → Came
      drives : Driven ran.run.end → Came

    -- by the flash's length, the course and the lent lengths
    pub came : ((f ≡ 8192 → ⊥) → ran ≡ nothing (end.Answered answer.WrongBuffer))
        → (f ≡ 8192 → BadByte course → ran ≡ nothing (end.Answered answer.BadLine))
        → (f ≡ 8192 → sound_of course ≡ true → (LentAgain c p n w → ⊥) → ran ≡ nothing (end.Answered answer.WrongBuffer))
        → (f ≡ 8192 → sound_of course ≡ true → LentAgain c p n w → GivesOneOf (own_of c) ran.run.end) → Came
    came short bad other driven = by (eqb f 8192) refl (sound_of course) refl (fits_of c p n w) refl
      where
        by : (t : Bool) → eqb f 8192 ≡ t → (s : Bool) → sound_of course ≡ s → (u : Bool) → fits_of c p n w ≡ u → Came
        by false t s q u r = let no = eqb-false f 8192 t in refuses answer.WrongBuffer (by_flash no) (short no)
        by true t false q u r =
            let whole = eqb-true f 8192 t in
            let b = bad_of course q in
            refuses answer.BadLine (by_course whole b) (bad whole b)
        by true t true q false r =
            let whole = eqb-true f 8192 t in
            let differ : LentAgain c p n w → ⊥ = λ s. false≢true (sym r ∙ again_fits c p n w s) in
            refuses answer.WrongBuffer (by_lengths whole ((figures.sound course).0 q) differ) (other whole q differ)
        by true t true q true r =
            let whole = eqb-true f 8192 t in
            let again = fits_again c p n w r in
            drives (record { whole = whole; good = (figures.sound course).0 q; again = again; own_answer = driven whole q again })

    pub rows_of : Came → RunRows f course c p n w ran.run.end
    rows_of (refuses a why is) = subst (RunRows f course c p n w) (sym (ap (λ (l : Left). l.run.end) is)) (refused_rows a why)
    rows_of (drives d) = driven_rows ran.run.end d

    pub kept_of : Came → Gives 8 ran.run.end ⊎ Gives 11 ran.run.end → ran ≡ nothing ran.run.end
    kept_of (refuses a why is) g = is ∙ ap nothing (sym (ap (λ (l : Left). l.run.end) is))
    kept_of (drives d) (inl g) = absurd (neither 8 (lacks_8 c) ran.run.end d.own_answer g)
    kept_of (drives d) (inr g) = absurd (neither 11 (lacks_11 c) ran.run.end d.own_answer g)

-- a call that is driven with the lengths of its start is cut or gives its own answer
pub end_own : (own : List ℕ) (p : Phase) → Among own p → GivesOneOf own (end_of p true)
unfolding end_of case◌waiting◌ended◌ when◌then◌else◌
end_own own phase.Waiting among = tt
end_own own (phase.Ended a) among = among
