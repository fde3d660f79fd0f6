-- The decimal text of a number of 32 bits is the fewest digits that hold it, and no text has more than ten.
-- Assumes nothing.
use Prim.Native.Nat.{ℕ, zero, suc, ◌+◌, ◌*◌, ◌/◌, ◌%◌, ◌^◌, ◌≤◌, ◌<◌}
use mathlib.Core.Path.{◌≡◌, subst}
use mathlib.Core.Bool.{Bool, true, false}
use mathlib.Core.List.{[], ◌∷◌, ◌++◌}
use native.Mathlib.Nat.{pow-suc, one-le-pow}
use native.Mathlib.Omega.{arith}
use lib.ListN.{length, length-append}
use lib.Dec.{ltb}
use borrow.Author.Tests.{lt-ltb, le-ltb}
use Rattle.protocol.specs.Pick.{when◌then◌else◌}
use Rattle.io.specs.Digits.{hex_digit_ascii, last_digits, IsDigitCount}
use Rattle.report.specs.Decimal.{in_places, decimal_of}

-- the text of a digit
glyph_small : (d : ℕ) → d < 10 → hex_digit_ascii d ≡ d + 48
glyph_small d h = rw (lt-ltb d 10 h) (omega arith)

-- a tenth of a number has one digit less
tenth : (k n : ℕ) → n < 10 ^ suc k → n / 10 < 10 ^ k
tenth k n h = let e : 10 ^ suc k ≡ 10 ^ k * 10 = pow-suc 10 k in omega arith

tenth_least : (k n : ℕ) → 10 ^ suc k ≤ n → 10 ^ k ≤ n / 10
tenth_least k n h = let e : 10 ^ suc k ≡ 10 ^ k * 10 = pow-suc 10 k in omega arith

-- two digits or more
ten_least : (k n : ℕ) → 10 ^ suc k ≤ n → 10 ≤ n
ten_least k n h =
    let one : 1 ≤ 10 ^ k = one-le-pow k 10 (omega arith) in
    omega (arith, pow-suc 10 k)

-- the fewest digits, where there are places for them
in_places_lem : (j k n : ℕ) → n < 10 ^ suc k → (0 < k → 10 ^ k ≤ n) → n < 10 ^ suc j → last_digits 10 (suc k) n ≡ in_places (suc j) n
unfolding in_places when◌then◌else◌
in_places_lem zero zero n fits fewest room = rw (lt-ltb n 10 (omega arith), glyph_small (n % 10) (omega arith))
in_places_lem zero (suc k) n fits fewest room = absurd (omega (arith, ten_least k n (fewest (omega arith))))
in_places_lem (suc j) zero n fits fewest room = rw (lt-ltb n 10 (omega arith), glyph_small (n % 10) (omega arith))
in_places_lem (suc j) (suc k) n fits fewest room =
    let least : 10 ^ suc k ≤ n = fewest (omega arith) in
    rw (le-ltb n 10 (ten_least k n least), glyph_small (n % 10) (omega arith), in_places_lem j k (n / 10) (tenth (suc k) n fits) (λ h. tenth_least k n least) (tenth (suc j) n room))

-- no more digits than places
length_in_places : (k n : ℕ) → length (in_places k n) ≤ k
unfolding in_places when◌then◌else◌
length_in_places zero n = omega arith
length_in_places (suc k) n = by (length_in_places k (n / 10)) (ltb n 10)
  where
    by : length (in_places k (n / 10)) ≤ k → (t : Bool) → length ((when t then [] else in_places k (n / 10)) ++ ((n % 10 + 48) ∷ [])) ≤ suc k
    by rest true = omega arith
    by rest false = rw length-append (omega arith)

pub length_decimal : (n : ℕ) → length (decimal_of n) ≤ 10
unfolding decimal_of
length_decimal n = length_in_places 10 n

-- what `io::decimal` gives
pub decimal_fewest : (n k : ℕ) → n < 4294967296 → IsDigitCount 10 1 n k → last_digits 10 k n ≡ decimal_of n
unfolding decimal_of
decimal_fewest n zero h f = absurd (omega (arith, f.0))
decimal_fewest n (suc k) h f = in_places_lem 9 k n f.1 (λ l. subst (λ (i : ℕ). 10 ^ i ≤ n) (omega arith) (f.2 (omega arith))) (omega arith)
