-- The figures over numbers: the lowest and the highest are among them and bound them all, and the mean lies between, since so many times the lowest is at most the sum.
-- Assumes nothing.
use Prim.Native.Nat.{ℕ, suc, ◌+◌, ◌*◌, ◌/◌, ◌%◌, ◌≤◌, ◌<◌, min, max}
use mathlib.Core.Path.{◌≡◌, refl, sym, subst}
use mathlib.Core.Bool.{Bool, true, false}
use mathlib.Core.List.{List, [], ◌∷◌}
use mathlib.Core.Logic.{◌⊎◌, inl, inr}
use mathlib.Core.Option.{none, some, some-injective, some-ne-none, none-ne-some}
use native.Mathlib.Nat.{mul-le-mul_right, le-div_iff_mul-le, div-le_of_le-mul, div-add-mod', mod-lt}
use native.Mathlib.Omega.{arith}
use lib.ListN.{length}
use lib.Dec.{eqb, ltb}
use borrow.Author.Tests.{eqb-true, ltb-true, ltb-false}
use Rattle.protocol.specs.Pick.{when◌then◌else◌}
use Rattle.report.specs.Report.{Figures}
use Rattle.count_promises.specs.Packs.{total, occurs, lowest_of, highest_of, figures_of}
use Rattle.count_promises.proofs.Lists.{occurs_append, occurs_own}

-- a number is at most as many of them as there are
sum_least : (m l c k t : ℕ) → m ≤ l → m ≤ c → l * k ≤ t → m * suc k ≤ c + t
sum_least m l c k t low first rest = omega (arith, mul-le-mul_right k low)

sum_most : (m l c k t : ℕ) → l ≤ m → c ≤ m → t ≤ l * k → c + t ≤ m * suc k
sum_most m l c k t high first rest = omega (arith, mul-le-mul_right k high)

lowest_times : (c : ℕ) (s : List ℕ) → lowest_of c s * suc (length s) ≤ c + total s
unfolding lowest_of total
lowest_times c [] = omega arith
lowest_times c (n ∷ s) = sum_least (min c (lowest_of n s)) (lowest_of n s) c (suc (length s)) (n + total s) (omega arith) (omega arith) (lowest_times n s)

highest_times : (c : ℕ) (s : List ℕ) → c + total s ≤ highest_of c s * suc (length s)
unfolding highest_of total
highest_times c [] = omega arith
highest_times c (n ∷ s) = sum_most (max c (highest_of n s)) (highest_of n s) c (suc (length s)) (n + total s) (omega arith) (omega arith) (highest_times n s)

-- so the mean lies between
lowest_mean : (c : ℕ) (s : List ℕ) → lowest_of c s ≤ (c + total s) / suc (length s)
lowest_mean c s = (le-div_iff_mul-le {k = suc (length s)} (omega arith)).1 (lowest_times c s)

mean_highest : (c : ℕ) (s : List ℕ) → (c + total s) / suc (length s) ≤ highest_of c s
mean_highest c s =
    let most : c + total s ≤ suc (length s) * highest_of c s = omega (arith, highest_times c s) in
    div-le_of_le-mul (suc (length s)) most

-- the first, and those after it
occurs_first : (c : ℕ) (s : List ℕ) → 0 < occurs c (c ∷ s)
occurs_first c s = omega (arith, occurs_own c s)

occurs_after : (k c : ℕ) (s : List ℕ) → 0 < occurs k s → 0 < occurs k (c ∷ s)
occurs_after k c s h = omega (arith, occurs_append k (c ∷ []) s)

-- one that occurs is the first or comes after it
pub occurs_cases : (k c : ℕ) (s : List ℕ) → 0 < occurs k (c ∷ s) → (c ≡ k) ⊎ (0 < occurs k s)
unfolding occurs when◌then◌else◌
occurs_cases k c s = by (eqb c k) refl
  where
    by : (t : Bool) → eqb c k ≡ t → 0 < (when t then suc (occurs k s) else occurs k s) → (c ≡ k) ⊎ (0 < occurs k s)
    by true e h = inl (eqb-true c k e)
    by false e h = inr h

-- what holds of both holds of the lower and of the higher
of_min : (P : ℕ → Type 0) (a b : ℕ) → P a → P b → P (min a b)
of_min P a b p q = by (ltb a b) refl
  where
    by : (t : Bool) → ltb a b ≡ t → P (min a b)
    by true l = let e : a ≡ min a b = omega (arith, ltb-true a b l) in subst P e p
    by false l = let e : b ≡ min a b = omega (arith, ltb-false a b l) in subst P e q

of_max : (P : ℕ → Type 0) (a b : ℕ) → P a → P b → P (max a b)
of_max P a b p q = by (ltb a b) refl
  where
    by : (t : Bool) → ltb a b ≡ t → P (max a b)
    by true l = let e : b ≡ max a b = omega (arith, ltb-true a b l) in subst P e q
    by false l = let e : a ≡ max a b = omega (arith, ltb-false a b l) in subst P e p

lowest_occurs : (c : ℕ) (s : List ℕ) → 0 < occurs (lowest_of c s) (c ∷ s)
unfolding lowest_of
lowest_occurs c [] = occurs_first c []
lowest_occurs c (n ∷ s) = of_min (λ k. 0 < occurs k (c ∷ n ∷ s)) c (lowest_of n s) (occurs_first c (n ∷ s)) (occurs_after (lowest_of n s) c (n ∷ s) (lowest_occurs n s))

highest_occurs : (c : ℕ) (s : List ℕ) → 0 < occurs (highest_of c s) (c ∷ s)
unfolding highest_of
highest_occurs c [] = occurs_first c []
highest_occurs c (n ∷ s) = of_max (λ k. 0 < occurs k (c ∷ n ∷ s)) c (highest_of n s) (occurs_first c (n ∷ s)) (occurs_after (highest_of n s) c (n ∷ s) (highest_occurs n s))

-- none is lower or higher
all_between : (k c : ℕ) (s : List ℕ) → 0 < occurs k (c ∷ s) → (lowest_of c s ≤ k) × (k ≤ highest_of c s)
unfolding lowest_of highest_of occurs
all_between k c [] h = by (occurs_cases k c [] h)
  where
    by : (c ≡ k) ⊎ (0 < 0) → (c ≤ k) × (k ≤ c)
    by (inl e) = omega arith
    by (inr l) = absurd (omega arith)
all_between k c (n ∷ s) h = by (λ l. all_between k n s l) (occurs_cases k c (n ∷ s) h)
  where
    by : (0 < occurs k (n ∷ s) → (lowest_of n s ≤ k) × (k ≤ highest_of n s)) → (c ≡ k) ⊎ (0 < occurs k (n ∷ s))
        → (min c (lowest_of n s) ≤ k) × (k ≤ max c (highest_of n s))
    by rest (inl e) = omega arith
    by rest (inr l) = let after = rest l in omega arith

-- of none there are no figures, and of some there are
pub none_read_lem : (s : List ℕ) → length s ≡ 0 → (total s ≡ 0) × (figures_of s ≡ none)
unfolding total figures_of
none_read_lem [] h = (refl, refl)
none_read_lem (c ∷ s) h = absurd (omega arith)

pub some_read : (s : List ℕ) → 0 < length s → figures_of s ≡ none → ⊥
unfolding figures_of
some_read [] h e = absurd (omega arith)
some_read (c ∷ s) h e = some-ne-none _ e

-- what holds of the figures over a number and others holds wherever there are some
abbrev pub figures_over : ℕ → List ℕ → Figures
figures_over c s =
    record { lowest = lowest_of c s; highest = highest_of c s; mean = (c + total s) / suc (length s); remainder = (c + total s) % suc (length s) }

pub over : (c : ℕ) (s : List ℕ) → figures_of (c ∷ s) ≡ some (figures_over c s)
unfolding figures_of total
over c s = refl

pub of_figures : (P : List ℕ → Figures → Type 0) → ((c : ℕ) (s : List ℕ) → P (c ∷ s) (figures_over c s)) → (s : List ℕ) (f : Figures) → figures_of s ≡ some f → P s f
unfolding figures_of total
of_figures P each [] f e = absurd (none-ne-some f e)
of_figures P each (c ∷ s) f e = subst (P (c ∷ s)) (some-injective (figures_over c s) f e) (each c s)

pub lowest_among : (s : List ℕ) (f : Figures) → figures_of s ≡ some f → 0 < occurs f.lowest s
lowest_among = of_figures (λ s f. 0 < occurs f.lowest s) lowest_occurs

pub highest_among : (s : List ℕ) (f : Figures) → figures_of s ≡ some f → 0 < occurs f.highest s
highest_among = of_figures (λ s f. 0 < occurs f.highest s) highest_occurs

pub among : (s : List ℕ) (f : Figures) → figures_of s ≡ some f → (k : ℕ) → 0 < occurs k s → (f.lowest ≤ k) × (k ≤ f.highest)
among = of_figures (λ s f. (k : ℕ) → 0 < occurs k s → (f.lowest ≤ k) × (k ≤ f.highest)) (λ c s k h. all_between k c s h)

pub mean_between : (s : List ℕ) (f : Figures) → figures_of s ≡ some f → (f.lowest ≤ f.mean) × (f.mean ≤ f.highest)
mean_between = of_figures (λ s f. (f.lowest ≤ f.mean) × (f.mean ≤ f.highest)) (λ c s. (lowest_mean c s, mean_highest c s))

pub mean_of : (s : List ℕ) (f : Figures) → figures_of s ≡ some f → (total s ≡ f.mean * length s + f.remainder) × (f.remainder < length s)
unfolding total
mean_of =
    of_figures (λ s f. (total s ≡ f.mean * length s + f.remainder) × (f.remainder < length s))
    (λ c s. (sym (div-add-mod' (c + total s) (suc (length s))), mod-lt (c + total s) {m = suc (length s)} (omega arith)))
