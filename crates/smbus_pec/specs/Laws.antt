-- What the code of a byte string comes to: the remainder of a division, byte after byte; one code by every form; a string with its code after it.
-- Assumes nothing.
use Rattle.std.specs.Prelude.{◌≡◌, List, [], ◌∷◌, ◌++◌, ℕ, ◌*◌, ◌<◌}
use Rattle.std.specs.Int.Bits.{bit_xor}
use Rattle.smbus_pec.specs.Pec.{byte_step, pec_of}

-- a multiple of x^8 + x^2 + x + 1: bit i of a number is the coefficient of x^i, and there are no carries
abbrev pub multiple : ℕ → ℕ
multiple q = bit_xor (q * 256) (bit_xor (q * 4) (bit_xor (q * 2) q))

pub record Laws : Type 0 where
  -- of state and byte added, times x^8, the code is what a multiple of the polynomial leaves: the one such number of 8 bits (SMBus specification)
  pub remainder : (c b : ℕ) → c < 256 → b < 256 → (q : ℕ) × (bit_xor c b * 256 ≡ bit_xor (multiple q) (pec_of c (b ∷ []))) × (pec_of c (b ∷ []) < 256)
  -- the code of nothing is the state, and that of two strings, one after the other, is that of the second from the code of the first
  pub pec_nothing : (c : ℕ) → pec_of c [] ≡ c
  pub pec_append : (c : ℕ) (a b : List ℕ) → pec_of c (a ++ b) ≡ pec_of (pec_of c a) b
  -- one byte more is a string of one byte
  pub one_byte : (c b : ℕ) → byte_step c b ≡ pec_of c (b ∷ [])
  -- the forms agree: from every state, on every string, the contract that they share leaves one answer
  pub forms_agree : (c : ℕ) (s : List ℕ) {a b : ℕ} → a ≡ pec_of c s → b ≡ pec_of c s → a ≡ b
  -- a string with its code after it has the code 0
  pub pec_checked : (c : ℕ) (s : List ℕ) → pec_of c (s ++ pec_of c s ∷ []) ≡ 0
