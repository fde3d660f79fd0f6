-- The case of a contract from the test that the code made, also of a number that a call gave. `search cases` closes a return with them.
-- Assumes nothing.
use Prim.Native.Nat.{ℕ, ◌≤◌, ◌<◌}
use mathlib.Core.Path.{◌≡◌, subst}
use lib.Dec.{leb}
use Rattle.protocol.specs.Pick.{when◌then◌else◌}
use Rattle.protocol.proofs.Cases.{is_true, is_false, yes_lt, not_lt, yes_le, not_le, yes_eq, not_eq, yes_eq_of, not_eq_of, flag_true, flag_false, negated}
use Rattle.hexadecimal.proofs.Cases.{yes_lt_of, not_lt_of}

pub yes_le_of : {A : Type 0} (m r n : ℕ) (x a b : A) → r ≡ n → m ≤ r → x ≡ a → x ≡ when◌then◌else◌ (leb m n) a b
yes_le_of m r n x a b e h q = yes_le m n x a b (subst (λ (k : ℕ). m ≤ k) e h) q

pub not_le_of : {A : Type 0} (m r n : ℕ) (x a b : A) → r ≡ n → r < m → x ≡ b → x ≡ when◌then◌else◌ (leb m n) a b
not_le_of m r n x a b e h q = not_le m n x a b (subst (λ (k : ℕ). k < m) e h) q

pub ruleset cases = (yes_lt, not_lt, yes_le, not_le, yes_eq, not_eq, yes_eq_of, not_eq_of, yes_lt_of, not_lt_of, yes_le_of, not_le_of, is_true, is_false, flag_true, flag_false)
