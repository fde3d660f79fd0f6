-- The flags of a request line, as they are tested and as a call gave them.
-- Assumes nothing.
use Prim.Native.Nat.{ℕ, zero, suc, ◌*◌, ◌/◌, ◌%◌, ◌^◌, ◌<◌}
use mathlib.Core.Path.{◌≡◌, ◌∙◌}
use mathlib.Core.Bool.{Bool, not}
use native.Mathlib.Omega.{arith}
use lib.Dec.{eqb}
use borrow.Author.Tests.{ne_eqb}
use Rattle.std.specs.Prelude.{bit_and}
use Rattle.std.proofs.lemmas.Nat.{and_mask}
use Rattle.std.proofs.lemmas.Nat.Bits.{and_pow}
use Rattle.requests.specs.Request.{two_budgets, unknown_flags}

-- a bit is set where the number is odd once the bits below it are gone
set_flag : (b r p : ℕ) → b ≡ r * p → r < 2 → 0 < p → not (eqb b 0) ≡ eqb r 1
set_flag b zero p e h k = let none : b ≡ 0 = omega arith in rw none
set_flag b (suc zero) p e h k = let some : b ≡ 0 → ⊥ = λ q. omega arith in rw (ne_eqb b 0 some)
set_flag b (suc (suc r)) p e h k = absurd (omega arith)

pub first_bit : (n : ℕ) → not (eqb (bit_and n 1) 0) ≡ eqb (n % 2) 1
first_bit n = set_flag (bit_and n 1) (n % 2) 1 (and_mask n 1 ∙ omega arith) (omega arith) (omega arith)

pub later_bit : (n k : ℕ) → 0 < 2 ^ k → not (eqb (bit_and n (2 ^ k)) 0) ≡ eqb (n / 2 ^ k % 2) 1
later_bit n k h = set_flag (bit_and n (2 ^ k)) (n / 2 ^ k % 2) (2 ^ k) (and_pow n k) (omega arith) h

pub same_flags : (x : Bool) (a b : ℕ) → x ≡ unknown_flags a → a ≡ b → x ≡ unknown_flags b
same_flags x a b p q = p ∙ rw q

pub same_budgets : (x : Bool) (a b : ℕ) → x ≡ two_budgets a → a ≡ b → x ≡ two_budgets b
same_budgets x a b p q = p ∙ rw q
