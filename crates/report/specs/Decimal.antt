-- A number in decimal, in ASCII. (02, W-212)
-- Assumes nothing.
use Rattle.std.specs.Prelude.{ℕ, zero, suc, ◌+◌, ◌-◌, ◌*◌, ◌/◌, ◌%◌, ◌≤◌, ◌<◌, ◌≡◌, List, [], ◌∷◌, ◌++◌, length, get_or, ltb}
use Rattle.protocol.specs.Pick.{when◌then◌else◌}

-- the digits of a number, in so many places at most: those of a tenth of it, where it is 10 or more, and the last one
unfoldable pub in_places : ℕ → ℕ → List ℕ
in_places zero n = []
in_places (suc k) n = (when ltb n 10 then [] else in_places k (n / 10)) ++ ((n % 10 + 48) ∷ [])

-- ten places have room for a number of 32 bits
unfoldable pub decimal_of : ℕ → List ℕ
decimal_of n = in_places 10 n

-- the number that digits make, after those of n
unfoldable pub number_in : ℕ → List ℕ → ℕ
number_in n [] = n
number_in n (d ∷ s) = number_in (n * 10 + (d - 48)) s

-- it is decimal: digits that are the number, with no 0 in front
pub record Decimals : Type 0 where
  pub reads : (n : ℕ) → n < 10000000000 → number_in 0 (decimal_of n) ≡ n
  pub digits : (n k : ℕ) → k < length (decimal_of n) → (48 ≤ get_or (decimal_of n) k 0) × (get_or (decimal_of n) k 0 ≤ 57)
  pub no_zero : (n : ℕ) → 0 < n → n < 10000000000 → get_or (decimal_of n) 0 0 ≡ 48 → ⊥
