-- Numbers in a line: low byte first, by one rule for every width. (01, The bench program)
-- Assumes nothing.
use Rattle.std.specs.Prelude.{ℕ, zero, suc, ◌+◌, ◌*◌, ◌/◌, ◌%◌, ◌^◌, ◌<◌, ◌≡◌, List, [], ◌∷◌, length, take, drop}
use Rattle.hexadecimal.specs.BothWays.{AllBytes}

-- a number in so many bytes
unfoldable pub low_first : ℕ → ℕ → List ℕ
low_first zero n = []
low_first (suc width) n = n % 256 ∷ low_first width (n / 256)

-- the number that bytes are
unfoldable pub number : List ℕ → ℕ
number [] = 0
number (b ∷ s) = b + 256 * number s

-- the number of so many bytes, from a place on
abbrev pub field : ℕ → ℕ → List ℕ → ℕ
field at width s = number (take width (drop at s))

-- every figure that so many bytes can hold is read back as what it was
pub record ReadBack : Type 0 where
  pub back : (width n : ℕ) → n < 256 ^ width → number (low_first width n) ≡ n
  pub bytes : (width n : ℕ) → (length (low_first width n) ≡ width) × AllBytes (low_first width n)
