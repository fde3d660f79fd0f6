-- The figures of a report belong together: each pack is read or unread, an unread one has one of 255 answers, and none has more than 65,535 cycles.
-- Assumes nothing.
use Prim.Native.Nat.{ℕ, zero, suc, ◌+◌, ◌≤◌, ◌<◌}
use mathlib.Core.Path.{◌≡◌, refl, sym, ap, ◌∙◌}
use mathlib.Core.Bool.{Bool, true, false}
use mathlib.Core.List.{List, [], ◌∷◌, map}
use mathlib.Core.Logic.{◌⊎◌, inl, inr}
use mathlib.Core.Option.{some}
use native.Mathlib.Omega.{arith}
use lib.ListN.{length}
use lib.Dec.{eqb}
use borrow.Author.Tests.{eqb-true, eqb-false}
use Rattle.lines.specs.Input.{lines_from}
use Rattle.std.specs.Prelude.{Some, None}
use Rattle.packs.specs.Said.{Said}
use Rattle.packs.specs.declared.Pack.TheVariants as pack
use Rattle.report.specs.Report.{Figures, Report, report}
use Rattle.count_promises.specs.Packs.{line_says, said_in, cycles_in, answers_in, occurs, figures_of, report_of, outcome_of}
use Rattle.count_promises.specs.Lines.{IsPack, AllPacks, Lines, Fits, AllFit}
use Rattle.count_promises.specs.Reports.{up_to, OfRead, Balanced}
use Rattle.count_promises.proofs.Lists.{occurs_own, occurs_other, occurs_length}
use Rattle.count_promises.proofs.Fits.{seen_all, sum_most}
use Rattle.count_promises.proofs.Refusals.{refusals}
use Rattle.count_promises.proofs.Means.{occurs_cases, none_read_lem, some_read, highest_among, mean_between, mean_of}
use Rattle.count_promises.proofs.Ends.{ends_with_line, said_by_lines}

line_fits : Lines → (line : List ℕ) → IsPack (line_says line) → Fits (line_says line)
line_fits lines line = by (line_says line) refl
  where
    by : (p : Said) → line_says line ≡ p → IsPack p → Fits p
    by (Some (pack.Read cycles)) e h = omega (arith, (lines.only_read line cycles e).0)
    by (Some (pack.Unread answer)) e h = let range = lines.only_unread line answer e in (range.0, omega (arith, range.1))
    by None e h = h

lines_fit : Lines → (s : List (List ℕ)) → AllPacks (map line_says s) → AllFit (map line_says s)
lines_fit lines [] h = tt
lines_fit lines (line ∷ s) h = (line_fits lines line (h zero (omega arith)), lines_fit lines s (λ k l. h (suc k) (omega arith)))

said_fit : Lines → (input : List ℕ) → AllPacks (said_in input) → AllFit (said_in input)
said_fit lines input h =
    let e : said_in input ≡ map line_says (lines_from [] input) = said_by_lines input (ends_with_line input h) in
    rw e (lines_fit lines (lines_from [] input) (rw e at h))

-- no cycles are more than 65,535
cycles_most : (ps : List Said) → AllFit ps → (k : ℕ) → 0 < occurs k (cycles_in ps) → k ≤ 65535
unfolding cycles_in occurs
cycles_most [] h k l = absurd (omega arith)
cycles_most (Some (pack.Read cycles) ∷ ps) h k l = by (λ m. cycles_most ps h.1 k m) (occurs_cases k cycles (cycles_in ps) l)
  where
    by : (0 < occurs k (cycles_in ps) → k ≤ 65535) → (cycles ≡ k) ⊎ (0 < occurs k (cycles_in ps)) → k ≤ 65535
    by rest (inl e) = omega (arith, h.0)
    by rest (inr m) = rest m
cycles_most (Some (pack.Unread answer) ∷ ps) h k l = cycles_most ps h.1 k l
cycles_most (None ∷ ps) h k l = absurd h.0

-- one more answer is one more among the numbers that it is one of
up_below : (n x : ℕ) (s : List ℕ) → n < x → up_to n (λ k. occurs k (x ∷ s)) ≡ up_to n (λ k. occurs k s)
unfolding up_to
up_below zero x s h = refl
up_below (suc n) x s h =
    let other : occurs (suc n) (x ∷ s) ≡ occurs (suc n) s = occurs_other (suc n) x s (omega arith) in
    omega (arith, up_below n x s (omega arith))

up_within : (n x : ℕ) (s : List ℕ) → 0 < x → x ≤ n → up_to n (λ k. occurs k (x ∷ s)) ≡ suc (up_to n (λ k. occurs k s))
unfolding up_to
up_within zero x s one h = absurd (omega arith)
up_within (suc n) x s one h = by (λ l. up_within n x s one l) (eqb x (suc n)) refl
  where
    by : (x ≤ n → up_to n (λ k. occurs k (x ∷ s)) ≡ suc (up_to n (λ k. occurs k s))) → (t : Bool) → eqb x (suc n) ≡ t
        → up_to n (λ k. occurs k (x ∷ s)) + occurs (suc n) (x ∷ s) ≡ suc (up_to n (λ k. occurs k s) + occurs (suc n) s)
    by rest true e =
        let last : x ≡ suc n = eqb-true x (suc n) e in
        let own : occurs (suc n) (x ∷ s) ≡ suc (occurs (suc n) s) = rw last (occurs_own (suc n) s) in
        omega (arith, up_below n x s (omega arith))
    by rest false e =
        let not : x ≡ suc n → ⊥ = eqb-false x (suc n) e in
        let other : occurs (suc n) (x ∷ s) ≡ occurs (suc n) s = occurs_other (suc n) x s not in
        let up : up_to n (λ k. occurs k (x ∷ s)) ≡ suc (up_to n (λ k. occurs k s)) = rest (omega arith) in
        omega arith

up_none : (n : ℕ) → up_to n (λ k. occurs k []) ≡ 0
unfolding up_to occurs
up_none zero = refl
up_none (suc n) = omega (arith, up_none n)

-- the answers by number are all of them
by_number : (n : ℕ) → 255 ≤ n → (ps : List Said) → AllFit ps → length (answers_in ps) ≡ up_to n (λ k. occurs k (answers_in ps))
unfolding answers_in
by_number n m [] h = sym (up_none n)
by_number n m (Some (pack.Read cycles) ∷ ps) h = by_number n m ps h.1
by_number n m (Some (pack.Unread answer) ∷ ps) h =
    let range = h.0 in
    ap suc (by_number n m ps h.1) ∙ sym (up_within n answer (answers_in ps) range.0 (omega arith))
by_number n m (None ∷ ps) h = absurd h.0

of_read_lem : (ps : List Said) → AllFit ps → (f : Figures) → figures_of (cycles_in ps) ≡ some f → OfRead (report_of ps) f
unfolding report_of
of_read_lem ps h f e =
    let mean = mean_of (cycles_in ps) f e in
    let between = mean_between (cycles_in ps) f e in
    record {
      some_read = omega (arith, mean.1);
      mean = mean.0;
      remainder = mean.1;
      lowest_mean = between.0;
      mean_highest = between.1;
      highest = cycles_most ps h f.highest (highest_among (cycles_in ps) f e);
    }

pub balanced_packs : (ps : List Said) → AllFit ps → length ps ≤ 65535 → Balanced (report_of ps)
unfolding report_of
balanced_packs ps h most =
    record {
      seen = seen_all ps h;
      by_number = by_number 255 (omega arith) ps h;
      none_read_lem = none_read_lem (cycles_in ps);
      some_read = some_read (cycles_in ps);
      of_read_lem = of_read_lem ps h;
      within = most;
      by_most = λ k. occurs_length k (answers_in ps);
      sum = omega (arith, seen_all ps h, sum_most ps h);
    }

pub balanced : Lines → (input : List ℕ) (r : Report) → outcome_of (said_in input) ≡ report r → Balanced r
balanced lines input r e =
    let there = refusals.reported (said_in input) r e in
    rw there.2 (balanced_packs (said_in input) (said_fit lines input there.0) there.1)
