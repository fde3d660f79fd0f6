-- The digits of a number are that number: the last one is what a division by ten leaves, and the others are a tenth of it.
-- Assumes nothing.
use Prim.Native.Nat.{ℕ, zero, suc, ◌+◌, ◌-◌, ◌*◌, ◌/◌, ◌%◌, ◌≤◌, ◌<◌}
use mathlib.Core.Path.{◌≡◌, refl, sym, ◌∙◌}
use mathlib.Core.Bool.{Bool, true, false}
use mathlib.Core.List.{List, [], ◌∷◌, ◌++◌}
use native.Mathlib.Omega.{arith}
use lib.ListN.{length, get_or, length-append, get_or-append}
use lib.Dec.{ltb}
use borrow.Author.Tests.{ltb-true, ltb-false}
use Rattle.protocol.specs.Pick.{when◌then◌else◌}
use Rattle.report.specs.Decimal.{in_places, decimal_of, number_in, Decimals}

number_more : (n : ℕ) (s : List ℕ) (d : ℕ) → number_in n (s ++ (d ∷ [])) ≡ number_in n s * 10 + (d - 48)
unfolding number_in
number_more n [] d = refl
number_more n (c ∷ s) d = number_more (n * 10 + (c - 48)) s d

-- so many places are enough
abbrev Fits : ℕ → ℕ → Type 0
Fits zero n = n < 1
Fits (suc k) n = Fits k (n / 10)

places_read : (k n : ℕ) → Fits k n → number_in 0 (in_places k n) ≡ n
unfolding in_places number_in when◌then◌else◌
places_read zero n h = omega arith
places_read (suc k) n h = by (places_read k (n / 10) h) (ltb n 10) refl
  where
    by : number_in 0 (in_places k (n / 10)) ≡ n / 10 → (t : Bool) → ltb n 10 ≡ t → number_in 0 ((when t then [] else in_places k (n / 10)) ++ ((n % 10 + 48) ∷ [])) ≡ n
    by e true f = let l = ltb-true n 10 f in omega arith
    by e false f = rw (number_more 0 (in_places k (n / 10)) (n % 10 + 48), e) (omega arith)

-- each is a digit
abbrev pub AllDecimal : List ℕ → Type 0
AllDecimal [] = Unit {0}
AllDecimal (d ∷ s) = ((48 ≤ d) × (d ≤ 57)) × AllDecimal s

decimal_more : (s : List ℕ) (d : ℕ) → AllDecimal s → (48 ≤ d) × (d ≤ 57) → AllDecimal (s ++ (d ∷ []))
decimal_more [] d a h = (h, tt)
decimal_more (c ∷ s) d a h = (a.0, decimal_more s d a.1 h)

places_decimal : (k n : ℕ) → AllDecimal (in_places k n)
unfolding in_places when◌then◌else◌
places_decimal zero n = tt
places_decimal (suc k) n = by (places_decimal k (n / 10)) (ltb n 10)
  where
    by : AllDecimal (in_places k (n / 10)) → (t : Bool) → AllDecimal ((when t then [] else in_places k (n / 10)) ++ ((n % 10 + 48) ∷ []))
    by a true = ((omega arith, omega arith), tt)
    by a false = decimal_more (in_places k (n / 10)) (n % 10 + 48) a (omega arith, omega arith)

pub all_decimal : (n : ℕ) → AllDecimal (decimal_of n)
unfolding decimal_of
all_decimal n = places_decimal 10 n

decimal_at : (s : List ℕ) (k : ℕ) → AllDecimal s → k < length s → (48 ≤ get_or s k 0) × (get_or s k 0 ≤ 57)
decimal_at [] k a h = absurd (omega arith)
decimal_at (d ∷ s) zero a h = a.0
decimal_at (d ∷ s) (suc k) a h = decimal_at s k a.1 (omega arith)

places_some : (k n : ℕ) → 0 < length (in_places (suc k) n)
unfolding in_places
places_some k n = rw (length-append _ ((n % 10 + 48) ∷ [])) (omega arith)

-- the first is no 0
places_first : (k n : ℕ) → 0 < n → Fits k n → get_or (in_places k n) 0 0 ≡ 48 → ⊥
unfolding in_places when◌then◌else◌
places_first zero n some h = λ e. absurd (omega arith)
places_first (suc k) n some h = by (λ l. places_first k (n / 10) l h) (ltb n 10) refl
  where
    by : (0 < n / 10 → get_or (in_places k (n / 10)) 0 0 ≡ 48 → ⊥) → (t : Bool) → ltb n 10 ≡ t
        → get_or ((when t then [] else in_places k (n / 10)) ++ ((n % 10 + 48) ∷ [])) 0 0 ≡ 48 → ⊥
    by first true f e = let l = ltb-true n 10 f in absurd (omega arith)
    by first false f e =
        let l = ltb-false n 10 f in
        first (omega arith) (sym (get_or-append (in_places k (n / 10)) ((n % 10 + 48) ∷ []) 0 0 (filled k (n / 10) (omega arith) h)) ∙ e)
      where
        filled : (k n : ℕ) → 0 < n → Fits k n → 0 < length (in_places k n)
        filled zero n s h = absurd (omega arith)
        filled (suc k) n s h = places_some k n

ten_places : (n : ℕ) → n < 10000000000 → Fits 10 n
ten_places n h = omega arith

read_back : (n : ℕ) → n < 10000000000 → number_in 0 (decimal_of n) ≡ n
unfolding decimal_of
read_back n h = places_read 10 n (ten_places n h)

first_digit : (n : ℕ) → 0 < n → n < 10000000000 → get_or (decimal_of n) 0 0 ≡ 48 → ⊥
unfolding decimal_of
first_digit n some h = places_first 10 n some (ten_places n h)

pub decimals : Decimals
decimals = record { reads = read_back; digits = λ n k h. decimal_at (decimal_of n) k (all_decimal n) h; no_zero = first_digit }
