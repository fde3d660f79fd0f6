-- What the tables use of an answer's number, of the tests, and of a failed attempt.
-- Assumes nothing.
use Prim.Native.Nat.{ℕ, ◌+◌, ◌-◌, ◌<◌}
use mathlib.Core.Path.{◌≡◌, refl, sym, subst, ◌∙◌}
use mathlib.Core.Bool.{Bool, true, false, ◌&&◌, false≢true}
use mathlib.Core.Logic.{◌↔◌}
use native.Mathlib.Omega.{arith}
use lib.Dec.{leb, eqb}
use borrow.Author.Tests.{leb-false, eqb-true, eqb-false, eq-eqb}
use Rattle.protocol.specs.Pick.{when◌then◌else◌}
use Rattle.protocol.specs.Answer.{number_of, detail_of}
use Rattle.protocol.specs.declared.error.Answer.{Answer}
use Rattle.engine.specs.Pick.{case◌retry◌spent◌}
use Rattle.engine.specs.Budget.{wait_of, failed}
use Rattle.engine.specs.Bus.{phase_after, fits_of}
use Rattle.engine.specs.declared.budget.Budget.{Budget}
use Rattle.engine.specs.declared.bus.Lent.{Lent}
use Rattle.engine.specs.declared.bus.Phase.{Phase}
use Rattle.engine.specs.declared.bus.Phase.TheVariants as phase
use Rattle.reading.specs.Parts as parts
use Rattle.reading.specs.declared.parts.Head.{Head}
use Rattle.reading.specs.declared.parts.Head.TheVariants as head
use Rattle.answers.specs.Rows.{Says, Same}

-- ---- a table, as when an answer of a number and a detail is given

-- the answer that a phase says, if it says one, stands in the table
abbrev pub InTable : (ℕ → ℕ → Type 0) → Phase → Type 0
InTable T phase.Waiting = Unit {0}
InTable T (phase.Ended a) = T (number_of a) (detail_of a)

pub row_of : (T : ℕ → ℕ → Type 0) (p : Phase) → InTable T p → (k d : ℕ) → Says k d p → T k d
row_of T phase.Waiting row k d s = absurd s
row_of T (phase.Ended a) row k d (number, detail) = subst (λ (x : ℕ). T x d) number (subst (T (number_of a)) detail row)

-- a phase is said by what it is
pub says_of : (a : Answer) (p : Phase) → p ≡ phase.Ended a → Says (number_of a) (detail_of a) p
says_of a p e = rw e (refl, refl)

-- a call that has ended does not wait
pub over_waits : (a : Answer) (p : Phase) → p ≡ phase.Ended a → p ≡ phase.Waiting → ⊥
over_waits a p over waits = let z : ◌≡◌ {A = ℕ} 0 1 = cc in absurd (omega arith)

-- ---- the tests

pub and_split : (a b : Bool) → (a && b) ≡ true → (a ≡ true) × (b ≡ true)
and_split true b e = (refl, e)
and_split false b e = absurd (false≢true e)

pub fits_same : (lent : Lent) (n w : ℕ) → fits_of lent n w ≡ true → Same lent n w
unfolding fits_of
fits_same lent n w e =
    let s = and_split (eqb n lent.length) (eqb w lent.work) e in
    (eqb-true _ _ s.0, eqb-true _ _ s.1)

pub same_fits : (lent : Lent) (n w : ℕ) → Same lent n w → fits_of lent n w ≡ true
unfolding fits_of
same_fits lent n w (p, q) = rw (eq-eqb n lent.length p, eq-eqb w lent.work q)

pub other_fits : (lent : Lent) (n w : ℕ) → fits_of lent n w ≡ false → Same lent n w → ⊥
other_fits lent n w e s = false≢true (sym e ∙ same_fits lent n w s)

pub fits_other : (lent : Lent) (n w : ℕ) → (Same lent n w → ⊥) → fits_of lent n w ≡ false
fits_other lent n w h = by (fits_of lent n w) refl
  where
    by : (t : Bool) → fits_of lent n w ≡ t → fits_of lent n w ≡ false
    by true e = absurd (h (fits_same lent n w e))
    by false e = e

-- a head is due where there is one
pub bare_head : (h : Head) → (parts.has_head h ≡ false) ↔ (h ≡ head.Bare)
unfolding parts.has_head
bare_head head.Bare = (λ e. refl, λ e. refl)
bare_head (head.Command address) = (λ e. absurd (false≢true (sym e)), λ e. let z : ◌≡◌ {A = ℕ} 0 1 = cc in absurd (omega arith))
bare_head (head.Mac command) = (λ e. absurd (false≢true (sym e)), λ e. let z : ◌≡◌ {A = ℕ} 0 1 = cc in absurd (omega arith))
bare_head (head.DataFlash start) = (λ e. absurd (false≢true (sym e)), λ e. let z : ◌≡◌ {A = ℕ} 0 1 = cc in absurd (omega arith))

-- ---- steps and attempts

-- a call that waits has steps to make
pub not_done : (count m : ℕ) → phase_after count m ≡ phase.Waiting → m < count
unfolding phase_after when◌then◌else◌
not_done count m e = by (leb count m) refl
  where
    by : (t : Bool) → leb count m ≡ t → m < count
    by true t = let z : ◌≡◌ {A = ℕ} 0 1 = cc (rw t at e) in absurd (omega arith)
    by false t = leb-false count m t

-- a failed attempt: a retry is taken from the budget, after a wait, or none is left
pub either : {A : Type 0} (P : A → Type 0) (r : ℕ) (growing : Bool) (left : Budget) (again : Budget → ℕ → A) (over : A)
    → ((b : Budget) → b.left + 1 ≡ left.left → P (again b (wait_of growing (r - left.left)))) → (left.left ≡ 0 → P over)
    → P (case◌retry◌spent◌ (failed r growing left) again over)
unfolding failed case◌retry◌spent◌ when◌then◌else◌
either {A} P r growing left again over some none = by (eqb left.left 0) refl
  where
    by : (t : Bool) → eqb left.left 0 ≡ t → P (case◌retry◌spent◌ (failed r growing left) again over)
    by true t =
        let q : case◌retry◌spent◌ (failed r growing left) again over ≡ over = rw t in
        subst P (sym q) (none (eqb-true _ _ t))
    by false t =
        let more = eqb-false left.left 0 t in
        let q : case◌retry◌spent◌ (failed r growing left) again over ≡ again (record { left = left.left - 1 }) (wait_of growing (r - left.left)) = rw t in
        subst P (sym q) (some (record { left = left.left - 1 }) (omega arith))
