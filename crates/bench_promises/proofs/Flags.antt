-- The flags of a request line, by a test of every byte: the machine's tests of a byte are those of its bits.
-- Assumes nothing.
use Prim.Native.Nat.{ℕ, ◌+◌, ◌/◌, ◌%◌, ◌<◌}
use mathlib.Core.Path.{◌≡◌, refl}
use mathlib.Core.Bool.{Bool, true, false, not, ◌||◌}
use lib.Dec.{T, eqb}
use Rattle.smbus_pec.proofs.Every.{upto, below}
use Rattle.requests.specs.Request.{two_budgets, unknown_flags}
use Rattle.bench_promises.specs.Kinds.{bit, unknown_flag}

-- two tests come to the same
abbrev alike : Bool → Bool → Bool
alike true b = b
alike false b = not b

alike_same : (a b : Bool) → T (alike a b) → a ≡ b
alike_same true true t = refl
alike_same true false t = absurd t
alike_same false true t = absurd t
alike_same false false t = refl

-- of every byte
every_byte : (f g : ℕ → Bool) → T (upto (λ n. alike (f n) (g n)) 256) → (n : ℕ) → n < 256 → f n ≡ g n
every_byte f g all n h = alike_same (f n) (g n) (below (λ n. alike (f n) (g n)) 256 all n h)

pub unknown : (flags : ℕ) → flags < 256 → unknown_flags flags ≡ unknown_flag flags
unfolding unknown_flags bit
unknown = every_byte unknown_flags unknown_flag tt

pub two : (flags : ℕ) → flags < 256 → two_budgets flags ≡ bit 2 flags
unfolding two_budgets bit
two = every_byte two_budgets (bit 2) tt

pub pec_write : (flags : ℕ) → flags < 256 → eqb (flags % 2) 1 ≡ bit 0 flags
unfolding bit
pec_write = every_byte (λ n. eqb (n % 2) 1) (bit 0) tt

pub pec_read : (flags : ℕ) → flags < 256 → eqb (flags / 2 % 2) 1 ≡ bit 1 flags
unfolding bit
pec_read = every_byte (λ n. eqb (n / 2 % 2) 1) (bit 1) tt

pub growing : (flags : ℕ) → flags < 256 → eqb (flags / 8 % 2) 1 ≡ bit 3 flags
unfolding bit
growing = every_byte (λ n. eqb (n / 8 % 2) 1) (bit 3) tt

-- ---- the flags of a line with one number, and bit 2 set beside them

module _ (flags : ℕ) (known : flags < 16) (clear : bit 2 flags ≡ false) where
  beside : (f g : ℕ → Bool) → T (upto (λ n. bit 2 n || alike (f n) (g n)) 16) → f flags ≡ g flags
  beside f g all =
      let t : T (bit 2 flags || alike (f flags) (g flags)) = below (λ n. bit 2 n || alike (f n) (g n)) 16 all flags known in
      alike_same (f flags) (g flags) (rw clear at t)

  pub known_one : unknown_flag flags ≡ false
  unfolding bit
  known_one = beside unknown_flag (λ n. false) tt

  pub known_two : unknown_flag (flags + 4) ≡ false
  unfolding bit
  known_two = beside (λ n. unknown_flag (n + 4)) (λ n. false) tt

  pub set_two : bit 2 (flags + 4) ≡ true
  unfolding bit
  set_two = beside (λ n. bit 2 (n + 4)) (λ n. true) tt

  pub other_bits : (bit 0 (flags + 4) ≡ bit 0 flags) × (bit 1 (flags + 4) ≡ bit 1 flags) × (bit 3 (flags + 4) ≡ bit 3 flags)
  unfolding bit
  other_bits = (beside (λ n. bit 0 (n + 4)) (bit 0) tt, beside (λ n. bit 1 (n + 4)) (bit 1) tt, beside (λ n. bit 3 (n + 4)) (bit 3) tt)
