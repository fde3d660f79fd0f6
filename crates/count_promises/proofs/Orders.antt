-- The order of good lines does not matter: every figure of a report stays the same where two neighbours change places.
-- Assumes nothing.
use Prim.Native.Nat.{ℕ, zero, suc, ◌+◌, min, max}
use mathlib.Core.Path.{◌≡◌, refl, sym, ap, ◌∙◌, fun_ext}
use mathlib.Core.List.{List, [], ◌∷◌, ◌++◌, map}
use native.Mathlib.Omega.{arith}
use lib.ListN.{length}
use Rattle.std.specs.Prelude.{Some, None}
use Rattle.packs.specs.Said.{Said}
use Rattle.packs.specs.declared.Pack.TheVariants as pack
use Rattle.report.specs.Report.{text_of}
use Rattle.count_promises.specs.Packs.{said_in, cycles_in, answers_in, total, occurs, lowest_of, highest_of, figures_of, report_of, packs_before, counted, outcome_of, printed_of}
use Rattle.count_promises.specs.Lines.{file_of, AllFit, line_of, IsPack, AllPacks}
use Rattle.count_promises.specs.Reports.{Reordered, same, keep, swap, and_then}
use Rattle.count_promises.proofs.Lists.{occurs_append, before_all, packs_append}
use Rattle.count_promises.proofs.Fits.{fit_before}
use Rattle.count_promises.proofs.Files.{said_file}

length_reordered : {A : Type 0} {a b : List A} → Reordered a b → length a ≡ length b
length_reordered same = refl
length_reordered (keep p r) = ap suc (length_reordered r)
length_reordered (swap p q) = refl
length_reordered (and_then r s) = length_reordered r ∙ length_reordered s

append_reordered : {A : Type 0} {a b : List A} (more : List A) → Reordered a b → Reordered (a ++ more) (b ++ more)
append_reordered more same = same
append_reordered more (keep p r) = keep p (append_reordered more r)
append_reordered more (swap p q) = swap p q
append_reordered more (and_then r s) = and_then (append_reordered more r) (append_reordered more s)

-- the cycles and the answers are in another order, too
cycles_keep : (p : Said) (a b : List Said) → Reordered (cycles_in a) (cycles_in b) → Reordered (cycles_in (p ∷ a)) (cycles_in (p ∷ b))
unfolding cycles_in
cycles_keep (Some (pack.Read cycles)) a b r = keep cycles r
cycles_keep (Some (pack.Unread answer)) a b r = r
cycles_keep None a b r = r

cycles_swap : (p q : Said) (a : List Said) → Reordered (cycles_in (p ∷ q ∷ a)) (cycles_in (q ∷ p ∷ a))
unfolding cycles_in
cycles_swap (Some (pack.Read cycles)) (Some (pack.Read others)) a = swap cycles others
cycles_swap (Some (pack.Read cycles)) (Some (pack.Unread answer)) a = same
cycles_swap (Some (pack.Read cycles)) None a = same
cycles_swap (Some (pack.Unread answer)) (Some (pack.Read cycles)) a = same
cycles_swap (Some (pack.Unread answer)) (Some (pack.Unread other)) a = same
cycles_swap (Some (pack.Unread answer)) None a = same
cycles_swap None (Some (pack.Read cycles)) a = same
cycles_swap None (Some (pack.Unread answer)) a = same
cycles_swap None None a = same

cycles_reordered : {a b : List Said} → Reordered a b → Reordered (cycles_in a) (cycles_in b)
cycles_reordered same = same
cycles_reordered (keep p {a} {b} r) = cycles_keep p a b (cycles_reordered r)
cycles_reordered (swap p q {a}) = cycles_swap p q a
cycles_reordered (and_then r s) = and_then (cycles_reordered r) (cycles_reordered s)

answers_keep : (p : Said) (a b : List Said) → Reordered (answers_in a) (answers_in b) → Reordered (answers_in (p ∷ a)) (answers_in (p ∷ b))
unfolding answers_in
answers_keep (Some (pack.Read cycles)) a b r = r
answers_keep (Some (pack.Unread answer)) a b r = keep answer r
answers_keep None a b r = r

answers_swap : (p q : Said) (a : List Said) → Reordered (answers_in (p ∷ q ∷ a)) (answers_in (q ∷ p ∷ a))
unfolding answers_in
answers_swap (Some (pack.Read cycles)) (Some (pack.Read others)) a = same
answers_swap (Some (pack.Read cycles)) (Some (pack.Unread answer)) a = same
answers_swap (Some (pack.Read cycles)) None a = same
answers_swap (Some (pack.Unread answer)) (Some (pack.Read cycles)) a = same
answers_swap (Some (pack.Unread answer)) (Some (pack.Unread other)) a = swap answer other
answers_swap (Some (pack.Unread answer)) None a = same
answers_swap None (Some (pack.Read cycles)) a = same
answers_swap None (Some (pack.Unread answer)) a = same
answers_swap None None a = same

answers_reordered : {a b : List Said} → Reordered a b → Reordered (answers_in a) (answers_in b)
answers_reordered same = same
answers_reordered (keep p {a} {b} r) = answers_keep p a b (answers_reordered r)
answers_reordered (swap p q {a}) = answers_swap p q a
answers_reordered (and_then r s) = and_then (answers_reordered r) (answers_reordered s)

-- the figures over numbers in another order
total_reordered : {s t : List ℕ} → Reordered s t → total s ≡ total t
unfolding total
total_reordered same = refl
total_reordered (keep n r) = ap (λ (k : ℕ). n + k) (total_reordered r)
total_reordered (swap n m) = omega arith
total_reordered (and_then r s) = total_reordered r ∙ total_reordered s

occurs_cons : (k n : ℕ) (s : List ℕ) → occurs k (n ∷ s) ≡ occurs k (n ∷ []) + occurs k s
occurs_cons k n s = occurs_append k (n ∷ []) s

occurs_reordered : (k : ℕ) {s t : List ℕ} → Reordered s t → occurs k s ≡ occurs k t
occurs_reordered k same = refl
occurs_reordered k (keep n {a = s} {b = t} r) = rw (occurs_cons k n s, occurs_cons k n t, occurs_reordered k r)
occurs_reordered k (swap n m {a = s}) = omega (arith, occurs_cons k n (m ∷ s), occurs_cons k m s, occurs_cons k m (n ∷ s), occurs_cons k n s)
occurs_reordered k (and_then r s) = occurs_reordered k r ∙ occurs_reordered k s

lowest_swap : (n m : ℕ) (s : List ℕ) → lowest_of n (m ∷ s) ≡ lowest_of m (n ∷ s)
unfolding lowest_of
lowest_swap n m [] = omega arith
lowest_swap n m (k ∷ s) = omega arith

highest_swap : (n m : ℕ) (s : List ℕ) → highest_of n (m ∷ s) ≡ highest_of m (n ∷ s)
unfolding highest_of
highest_swap n m [] = omega arith
highest_swap n m (k ∷ s) = omega arith

lowest_reordered : (c : ℕ) {s t : List ℕ} → Reordered s t → lowest_of c s ≡ lowest_of c t
unfolding lowest_of
lowest_reordered c same = refl
lowest_reordered c (keep n r) = ap (λ (k : ℕ). min c k) (lowest_reordered n r)
lowest_reordered c (swap n m {a = s}) = ap (λ (k : ℕ). min c k) (lowest_swap n m s)
lowest_reordered c (and_then r s) = lowest_reordered c r ∙ lowest_reordered c s

highest_reordered : (c : ℕ) {s t : List ℕ} → Reordered s t → highest_of c s ≡ highest_of c t
unfolding highest_of
highest_reordered c same = refl
highest_reordered c (keep n r) = ap (λ (k : ℕ). max c k) (highest_reordered n r)
highest_reordered c (swap n m {a = s}) = ap (λ (k : ℕ). max c k) (highest_swap n m s)
highest_reordered c (and_then r s) = highest_reordered c r ∙ highest_reordered c s

figures_same : (c d : ℕ) (s t : List ℕ) → lowest_of c s ≡ lowest_of d t → highest_of c s ≡ highest_of d t → total (c ∷ s) ≡ total (d ∷ t) → length s ≡ length t
    → figures_of (c ∷ s) ≡ figures_of (d ∷ t)
unfolding figures_of
figures_same c d s t low high sum many = rw (low, high, sum, many)

pub figures_reordered : {s t : List ℕ} → Reordered s t → figures_of s ≡ figures_of t
figures_reordered same = refl
figures_reordered (keep c {a = s} {b = t} r) =
    figures_same c c s t (lowest_reordered c r) (highest_reordered c r) (total_reordered (keep c r)) (length_reordered r)
figures_reordered (swap c d {a = s}) = figures_same c d (d ∷ s) (c ∷ s) (lowest_swap c d s) (highest_swap c d s) (total_reordered (swap c d)) refl
figures_reordered (and_then r s) = figures_reordered r ∙ figures_reordered s

report_reordered : (a b : List Said) → Reordered a b → report_of a ≡ report_of b
unfolding report_of
report_reordered a b r =
    let cycles = cycles_reordered r in
    let answers = answers_reordered r in
    let by : (report_of a).by ≡ (report_of b).by = fun_ext (λ k. occurs_reordered k answers) in
    rw (length_reordered r, length_reordered cycles, length_reordered answers, by, total_reordered cycles, figures_reordered cycles)

-- packs in another order are packs
packs_cons : (p : Said) (ps : List Said) → IsPack p → AllPacks ps → AllPacks (p ∷ ps)
packs_cons p ps first rest zero h = first
packs_cons p ps first rest (suc k) h = rest k (omega arith)

packs_reordered : {a b : List Said} → Reordered a b → AllPacks a → AllPacks b
packs_reordered same h = h
packs_reordered (keep p {a} {b} r) h = packs_cons p b (h 0 (omega arith)) (packs_reordered r (λ k l. h (suc k) (omega arith)))
packs_reordered (swap p q {a}) h =
    packs_cons q (p ∷ a) (h 1 (omega arith)) (packs_cons p a (h 0 (omega arith)) (λ k l. h (suc (suc k)) (omega arith)))
packs_reordered (and_then r s) h = packs_reordered s (packs_reordered r h)

-- with as many packs before the first that is none, the outcome is the same
outcome_same : (a b : List Said) → packs_before a ≡ packs_before b → Reordered a b → outcome_of a ≡ outcome_of b
unfolding outcome_of counted
outcome_same a b packs r = rw (packs, length_reordered r, report_reordered a b r)

pub reordered : (a b more : List Said) → AllPacks a → Reordered a b → outcome_of (a ++ more) ≡ outcome_of (b ++ more)
reordered a b more h r =
    let packs : packs_before (a ++ more) ≡ packs_before (b ++ more) = rw (packs_append a more h, packs_append b more (packs_reordered r h), length_reordered r) in
    outcome_same (a ++ more) (b ++ more) packs (append_reordered more r)

fit_reordered : {a b : List Said} → Reordered a b → AllFit a → AllFit b
fit_reordered same h = h
fit_reordered (keep p r) h = (h.0, fit_reordered r h.1)
fit_reordered (swap p q) h = (h.1.0, (h.0, h.1.1))
fit_reordered (and_then r s) h = fit_reordered s (fit_reordered r h)

pub reordered_files : (a b : List Said) (more : List ℕ) → AllFit a → Reordered a b → printed_of (file_of (map line_of a) ++ more) ≡ printed_of (file_of (map line_of b) ++ more)
unfolding printed_of
reordered_files a b more h r =
    ap (λ (ps : List Said). text_of (outcome_of ps)) (said_file a more h)
    ∙ ap text_of (reordered a b (said_in more) (before_all a (fit_before a h)) r)
    ∙ ap (λ (ps : List Said). text_of (outcome_of ps)) (sym (said_file b more (fit_reordered r h)))
