-- The case of a contract from the test that the code made: for each test, its two arms. `search cases` closes a return with them.
-- Assumes nothing.
use Prim.Native.Nat.{ℕ, ◌≤◌, ◌<◌}
use mathlib.Core.Path.{◌≡◌, refl, sym, ◌∙◌}
use mathlib.Core.Bool.{Bool, true, false, not}
use lib.Dec.{ltb, leb, eqb}
use borrow.Author.Tests.{lt-ltb, le-ltb, le-leb, lt-leb, eq-eqb, ne_eqb}
use Rattle.protocol.specs.Pick.{when◌then◌else◌}

module _ {A : Type 0} where
  pub is_true : (t : Bool) (x a b : A) → t ≡ true → x ≡ a → x ≡ when◌then◌else◌ t a b
  unfolding when◌then◌else◌
  is_true t x a b e q = rw e q

  pub is_false : (t : Bool) (x a b : A) → t ≡ false → x ≡ b → x ≡ when◌then◌else◌ t a b
  unfolding when◌then◌else◌
  is_false t x a b e q = rw e q

  pub yes_lt : (m n : ℕ) (x a b : A) → m < n → x ≡ a → x ≡ when◌then◌else◌ (ltb m n) a b
  yes_lt m n x a b h q = is_true _ x a b (lt-ltb m n h) q

  pub not_lt : (m n : ℕ) (x a b : A) → n ≤ m → x ≡ b → x ≡ when◌then◌else◌ (ltb m n) a b
  not_lt m n x a b h q = is_false _ x a b (le-ltb m n h) q

  pub yes_le : (m n : ℕ) (x a b : A) → m ≤ n → x ≡ a → x ≡ when◌then◌else◌ (leb m n) a b
  yes_le m n x a b h q = is_true _ x a b (le-leb m n h) q

  pub not_le : (m n : ℕ) (x a b : A) → n < m → x ≡ b → x ≡ when◌then◌else◌ (leb m n) a b
  not_le m n x a b h q = is_false _ x a b (lt-leb m n h) q

  pub yes_eq : (m n : ℕ) (x a b : A) → m ≡ n → x ≡ a → x ≡ when◌then◌else◌ (eqb m n) a b
  yes_eq m n x a b h q = is_true _ x a b (eq-eqb m n h) q

  pub not_eq : (m n : ℕ) (x a b : A) → (m ≡ n → ⊥) → x ≡ b → x ≡ when◌then◌else◌ (eqb m n) a b
  not_eq m n x a b h q = is_false _ x a b (ne_eqb m n h) q

  -- of a number that a call gave
  pub yes_eq_of : (r m n : ℕ) (x a b : A) → r ≡ m → r ≡ n → x ≡ a → x ≡ when◌then◌else◌ (eqb m n) a b
  yes_eq_of r m n x a b p h q = yes_eq m n x a b (sym p ∙ h) q

  pub not_eq_of : (r m n : ℕ) (x a b : A) → r ≡ m → (r ≡ n → ⊥) → x ≡ b → x ≡ when◌then◌else◌ (eqb m n) a b
  not_eq_of r m n x a b p h q = not_eq m n x a b (λ e. h (p ∙ e)) q

  -- of a flag that a call gave
  pub flag_true : (f t : Bool) (x a b : A) → f ≡ t → f ≡ true → x ≡ a → x ≡ when◌then◌else◌ t a b
  flag_true f t x a b p e q = is_true t x a b (sym p ∙ e) q

  pub flag_false : (f t : Bool) (x a b : A) → f ≡ t → f ≡ false → x ≡ b → x ≡ when◌then◌else◌ t a b
  flag_false f t x a b p e q = is_false t x a b (sym p ∙ e) q

-- a test turned round
pub negated : (t : Bool) → not t ≡ when◌then◌else◌ t false true
unfolding when◌then◌else◌
negated true = refl
negated false = refl

-- a test by itself
pub ruleset tests = (lt-ltb, le-ltb, le-leb, lt-leb, eq-eqb, ne_eqb)

-- a choice by a test
pub ruleset cases = (yes_lt, not_lt, yes_le, not_le, yes_eq, not_eq, yes_eq_of, not_eq_of, is_true, is_false, flag_true, flag_false, negated)
