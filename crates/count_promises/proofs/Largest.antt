-- The largest figures: over n times one pack each is n times its own.
-- Assumes nothing.
use Prim.Native.Nat.{ℕ, zero, suc, ◌+◌, ◌*◌}
use mathlib.Core.Path.{◌≡◌, refl, sym, ap, ◌∙◌, fun_ext}
use mathlib.Core.List.{List, [], ◌∷◌}
use mathlib.Core.Option.{some}
use native.Mathlib.Omega.{arith}
use lib.ListN.{length, replicate, length-replicate, replicate-append-replicate}
use Rattle.protocol.specs.Pick.{when◌then◌else◌}
use Rattle.hexadecimal.specs.Text.{ascii}
use Rattle.std.specs.Prelude.{Some}
use Rattle.packs.specs.Said.{Said}
use Rattle.packs.specs.declared.Pack.TheVariants as pack
use Rattle.report.specs.Decimal.{in_places, decimal_of}
use Rattle.report.specs.Report.{Report, report, refused, line, by_number, of_read, text_of}
use Rattle.count_promises.specs.Packs.{cycles_in, answers_in, total, occurs, lowest_of, highest_of, figures_of, report_of, outcome_of}
use Rattle.count_promises.specs.Lines.{Fits, AllFit}
use Rattle.count_promises.specs.Reports.{Largest}
use Rattle.count_promises.proofs.Lists.{occurs_none}
use Rattle.count_promises.proofs.Outcomes.{all_outcome, full_outcome}

fit_all : (n : ℕ) (p : Said) → Fits p → AllFit (replicate n p)
fit_all zero p h = tt
fit_all (suc n) p h = (h, fit_all n p h)

total_all : (n c : ℕ) → c ≡ 65535 → total (cycles_in (replicate n (Some (pack.Read c)))) ≡ n * 65535
unfolding cycles_in total
total_all zero c e = omega arith
total_all (suc n) c e = omega (arith, e, total_all n c e)

sum_all : (n : ℕ) → n ≡ 65535 → (report_of (replicate n (Some (pack.Read 65535)))).sum ≡ 4294836225
unfolding report_of
sum_all n e = omega (arith, e, total_all n 65535 refl)

-- n packs, where that is 65,535
full_file : (n : ℕ) (p : Said) → n ≡ 65535 → Fits p → outcome_of (replicate n p) ≡ report (report_of (replicate n p))
full_file n p e h = all_outcome (replicate n p) (fit_all n p h) (omega (arith, e, length-replicate n p))

-- and one more
over_file : (n : ℕ) (p : Said) → n ≡ 65535 → Fits p → outcome_of (replicate (n + 1) p) ≡ refused 65536
over_file n p e h =
    ap outcome_of (sym (replicate-append-replicate n 1 p))
    ∙ full_outcome (replicate n p) (fit_all n p h) p [] (length-replicate n p ∙ e)
    ∙ ap (λ (k : ℕ). refused (suc k)) (length-replicate n p ∙ e)

-- the report over 65,535 packs of 65,535 cycles
read_all : (n c : ℕ) → cycles_in (replicate n (Some (pack.Read c))) ≡ replicate n c
unfolding cycles_in
read_all zero c = refl
read_all (suc n) c = ap (λ (s : List ℕ). c ∷ s) (read_all n c)

answers_all : (n c : ℕ) → answers_in (replicate n (Some (pack.Read c))) ≡ []
unfolding answers_in
answers_all zero c = refl
answers_all (suc n) c = answers_all n c

lowest_all : (n c : ℕ) → lowest_of c (replicate n c) ≡ c
unfolding lowest_of
lowest_all zero c = refl
lowest_all (suc n) c = omega (arith, lowest_all n c)

highest_all : (n c : ℕ) → highest_of c (replicate n c) ≡ c
unfolding highest_of
highest_all zero c = refl
highest_all (suc n) c = omega (arith, highest_all n c)

top : Report
top = record {
  seen = 65535;
  read = 65535;
  unread = 0;
  by = λ k. 0;
  sum = 4294836225;
  figures = some record { lowest = 65535; highest = 65535; mean = 65535; remainder = 0 };
}

figures_all : (n : ℕ) → suc n ≡ 65535 → figures_of (replicate (suc n) 65535) ≡ top.figures
unfolding figures_of top
figures_all n e =
    let sum : total (replicate (suc n) 65535) ≡ 4294836225 = ap total (sym (read_all (suc n) 65535)) ∙ omega (arith, e, total_all (suc n) 65535 refl) in
    let len : suc (length (replicate {A = ℕ} n 65535)) ≡ 65535 = ap suc (length-replicate {A = ℕ} n 65535) ∙ e in
    rw (lowest_all n 65535, highest_all n 65535, sum, len) refl

report_all : (n : ℕ) → suc n ≡ 65535 → report_of (replicate (suc n) (Some (pack.Read 65535))) ≡ top
unfolding report_of top
report_all n e =
    let count : length (cycles_in (replicate (suc n) (Some (pack.Read 65535)))) ≡ 65535 = ap length (read_all (suc n) 65535) ∙ length-replicate {A = ℕ} (suc n) 65535 ∙ e in
    let seen : length (replicate (suc n) (Some (pack.Read 65535))) ≡ 65535 = length-replicate (suc n) (Some (pack.Read 65535)) ∙ e in
    let sum : total (cycles_in (replicate (suc n) (Some (pack.Read 65535)))) ≡ 4294836225 = omega (arith, e, total_all (suc n) 65535 refl) in
    let figures = ap figures_of (read_all (suc n) 65535) ∙ figures_all n e in
    let none : ◌≡◌ {A = ℕ → ℕ} (λ k. occurs k (answers_in (replicate (suc n) (Some (pack.Read 65535))))) (λ k. 0) = fun_ext (λ k. ap (occurs k) (answers_all (suc n) 65535) ∙ occurs_none k) in
    λ i. record { seen = seen i; read = count i; unread = length (answers_all (suc n) 65535 i); by = none i; sum = sum i; figures = figures i }

top_text : text_of (report top) ≡ ascii "seen\t65535\nread\t65535\nunread\t0\nsum\t4294836225\nlowest\t65535\nhighest\t65535\nmean\t65535\nremainder\t0\n"
unfolding top text_of line by_number of_read decimal_of in_places ascii when◌then◌else◌
top_text = refl

over_text : text_of (refused 65536) ≡ ascii "refused\t11\t65536\n"
unfolding text_of line decimal_of in_places ascii when◌then◌else◌
over_text = refl

printed_all : (n : ℕ) → suc n ≡ 65535 → text_of (outcome_of (replicate (suc n) (Some (pack.Read 65535)))) ≡ text_of (report top)
printed_all n e = ap text_of (full_file (suc n) (Some (pack.Read 65535)) e (omega arith) ∙ ap report (report_all n e))

pub largest : Largest
largest = record {
  bits = omega arith;
  sum = sum_all 65535 refl;
  full = λ p h. full_file 65535 p refl h;
  over = λ p h. over_file 65535 p refl h;
  printed = printed_all 65534 refl ∙ top_text;
  printed_over = ap text_of (over_file 65535 (Some (pack.Unread 1)) refl (omega arith, omega arith)) ∙ over_text;
}
