-- The case of a contract from the test that the code made, also of a number that a call gave. `search cases` closes a return with them.
-- Assumes nothing.
use Prim.Native.Nat.{ℕ, ◌≤◌, ◌<◌}
use mathlib.Core.Path.{◌≡◌, subst}
use lib.Dec.{ltb}
use Rattle.protocol.specs.Pick.{when◌then◌else◌}
use Rattle.protocol.proofs.Cases.{yes_lt, not_lt, yes_eq, not_eq}

pub yes_lt_of : {A : Type 0} (m r n : ℕ) (x a b : A) → r ≡ n → m < r → x ≡ a → x ≡ when◌then◌else◌ (ltb m n) a b
yes_lt_of m r n x a b e h q = yes_lt m n x a b (subst (λ (k : ℕ). m < k) e h) q

pub not_lt_of : {A : Type 0} (m r n : ℕ) (x a b : A) → r ≡ n → r ≤ m → x ≡ b → x ≡ when◌then◌else◌ (ltb m n) a b
not_lt_of m r n x a b e h q = not_lt m n x a b (subst (λ (k : ℕ). k ≤ m) e h) q

pub ruleset cases = (yes_lt, not_lt, yes_eq, not_eq, yes_lt_of, not_lt_of)
