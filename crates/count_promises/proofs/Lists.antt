-- What is found in two lists, one after the other, is what is found in each: every definition goes along the list.
-- Assumes nothing.
use Prim.Native.Nat.{ℕ, zero, suc, ◌+◌, ◌≤◌, ◌<◌}
use mathlib.Core.Path.{◌≡◌, refl, ap}
use mathlib.Core.Bool.{Bool, true, false}
use mathlib.Core.List.{List, [], ◌∷◌, ◌++◌}
use native.Mathlib.Omega.{arith}
use lib.ListN.{length, get_or}
use lib.Dec.{eqb}
use borrow.Author.Tests.{eq-eqb, ne_eqb}
use Rattle.protocol.specs.Pick.{when◌then◌else◌}
use Rattle.std.specs.Prelude.{Some, None}
use Rattle.packs.specs.Said.{Said}
use Rattle.packs.specs.declared.Pack.TheVariants as pack
use Rattle.count_promises.specs.Packs.{cycles_in, answers_in, total, occurs, packs_before}
use Rattle.count_promises.specs.Lines.{IsPack, AllPacks}

pub empty : (s : List ℕ) → length s ≡ 0 → s ≡ []
empty [] h = refl
empty (b ∷ s) h = absurd (omega arith)

pub cycles_append : (a b : List Said) → cycles_in (a ++ b) ≡ cycles_in a ++ cycles_in b
unfolding cycles_in
cycles_append [] b = refl
cycles_append (Some (pack.Read cycles) ∷ a) b = ap (λ (s : List ℕ). cycles ∷ s) (cycles_append a b)
cycles_append (Some (pack.Unread answer) ∷ a) b = cycles_append a b
cycles_append (None ∷ a) b = cycles_append a b

pub answers_append : (a b : List Said) → answers_in (a ++ b) ≡ answers_in a ++ answers_in b
unfolding answers_in
answers_append [] b = refl
answers_append (Some (pack.Read cycles) ∷ a) b = answers_append a b
answers_append (Some (pack.Unread answer) ∷ a) b = ap (λ (s : List ℕ). answer ∷ s) (answers_append a b)
answers_append (None ∷ a) b = answers_append a b

pub total_append : (a b : List ℕ) → total (a ++ b) ≡ total a + total b
unfolding total
total_append [] b = omega arith
total_append (n ∷ a) b = let rest : total (a ++ b) ≡ total a + total b = total_append a b in omega arith

pub occurs_append : (k : ℕ) (a b : List ℕ) → occurs k (a ++ b) ≡ occurs k a + occurs k b
unfolding occurs when◌then◌else◌
occurs_append k [] b = omega arith
occurs_append k (n ∷ a) b = by (occurs_append k a b) (eqb n k)
  where
    by : occurs k (a ++ b) ≡ occurs k a + occurs k b
        → (t : Bool) → (when t then suc (occurs k (a ++ b)) else occurs k (a ++ b)) ≡ (when t then suc (occurs k a) else occurs k a) + occurs k b
    by rest true = omega arith
    by rest false = rest

-- one more is one more of its own number, and of no other
pub occurs_none : (k : ℕ) → occurs k [] ≡ 0
unfolding occurs
occurs_none k = refl

pub occurs_own : (k : ℕ) (s : List ℕ) → occurs k (k ∷ s) ≡ suc (occurs k s)
unfolding occurs when◌then◌else◌
occurs_own k s = rw (eq-eqb k k refl)

pub occurs_other : (k n : ℕ) (s : List ℕ) → (n ≡ k → ⊥) → occurs k (n ∷ s) ≡ occurs k s
unfolding occurs when◌then◌else◌
occurs_other k n s h = rw (ne_eqb n k h)

pub occurs_length : (k : ℕ) (s : List ℕ) → occurs k s ≤ length s
unfolding occurs when◌then◌else◌
occurs_length k [] = omega arith
occurs_length k (n ∷ s) = by (occurs_length k s) (eqb n k)
  where
    by : occurs k s ≤ length s → (t : Bool) → (when t then suc (occurs k s) else occurs k s) ≤ suc (length s)
    by h true = omega arith
    by h false = omega arith

-- the packs before the first line that is none
pub packs_within : (ps : List Said) → packs_before ps ≤ length ps
unfolding packs_before
packs_within [] = omega arith
packs_within (Some (pack.Read cycles) ∷ ps) = let rest : packs_before ps ≤ length ps = packs_within ps in omega arith
packs_within (Some (pack.Unread answer) ∷ ps) = let rest : packs_before ps ≤ length ps = packs_within ps in omega arith
packs_within (None ∷ ps) = omega arith

-- each line before it is a pack
pub pack_before : (ps : List Said) (k : ℕ) → k < packs_before ps → IsPack (get_or ps k None)
unfolding packs_before
pack_before [] k h = absurd (omega arith)
pack_before (Some (pack.Read cycles) ∷ ps) zero h = tt
pack_before (Some (pack.Read cycles) ∷ ps) (suc k) h = pack_before ps k (omega arith)
pack_before (Some (pack.Unread answer) ∷ ps) zero h = tt
pack_before (Some (pack.Unread answer) ∷ ps) (suc k) h = pack_before ps k (omega arith)
pack_before (None ∷ ps) k h = absurd (omega arith)

-- and it is none
pub none_there : (ps : List Said) → packs_before ps < length ps → get_or ps (packs_before ps) None ≡ None
unfolding packs_before
none_there [] h = refl
none_there (Some (pack.Read cycles) ∷ ps) h = none_there ps (omega arith)
none_there (Some (pack.Unread answer) ∷ ps) h = none_there ps (omega arith)
none_there (None ∷ ps) h = refl

-- as many packs as there are before a place, where each line before it is one
pub packs_least : (ps : List Said) (k : ℕ) → k ≤ length ps → ((i : ℕ) → i < k → IsPack (get_or ps i None)) → k ≤ packs_before ps
unfolding packs_before
packs_least ps zero le h = omega arith
packs_least [] (suc k) le h = absurd (omega arith)
packs_least (Some (pack.Read cycles) ∷ ps) (suc k) le h =
    let rest : k ≤ packs_before ps = packs_least ps k (omega arith) (λ i l. h (suc i) (omega arith)) in
    omega arith
packs_least (Some (pack.Unread answer) ∷ ps) (suc k) le h =
    let rest : k ≤ packs_before ps = packs_least ps k (omega arith) (λ i l. h (suc i) (omega arith)) in
    omega arith
packs_least (None ∷ ps) (suc k) le h = absurd (h zero (omega arith))

-- each line is a pack where none comes before the end, and the other way round
pub all_before : (ps : List Said) → AllPacks ps → packs_before ps ≡ length ps
all_before ps h = omega (arith, packs_within ps, packs_least ps (length ps) (omega arith) h)

pub before_all : (ps : List Said) → packs_before ps ≡ length ps → AllPacks ps
before_all ps e k h = pack_before ps k (omega arith)

-- with packs alone in front, the others are counted from there
pub before_append : (a b : List Said) → packs_before a ≡ length a → packs_before (a ++ b) ≡ length a + packs_before b
unfolding packs_before
before_append [] b h = omega arith
before_append (Some (pack.Read cycles) ∷ a) b h = omega (arith, before_append a b (omega arith))
before_append (Some (pack.Unread answer) ∷ a) b h = omega (arith, before_append a b (omega arith))
before_append (None ∷ a) b h = absurd (omega arith)

pub packs_append : (a b : List Said) → AllPacks a → packs_before (a ++ b) ≡ length a + packs_before b
packs_append a b h = before_append a b (all_before a h)
