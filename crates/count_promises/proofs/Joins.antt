-- The report over two files, one after the other: the counts and the sum add up, and the lowest and the highest are the lower and the higher of the two.
-- Assumes nothing.
use Prim.Native.Nat.{ℕ, ◌+◌, ◌≤◌, min, max}
use mathlib.Core.Path.{◌≡◌, refl, sym, ap, ◌∙◌}
use mathlib.Core.List.{List, [], ◌∷◌, ◌++◌, append-nil}
use mathlib.Core.Option.{some}
use native.Mathlib.Omega.{arith}
use lib.ListN.{length, length-append}
use Rattle.packs.specs.Said.{Said}
use Rattle.report.specs.Report.{Figures, Report, report}
use Rattle.count_promises.specs.Packs.{said_in, cycles_in, answers_in, lowest_of, highest_of, figures_of, report_of, outcome_of}
use Rattle.count_promises.specs.Lines.{AllPacks}
use Rattle.count_promises.specs.Reports.{JoinedFigures, Joined, JoinedFiles}
use Rattle.count_promises.proofs.Lists.{empty, cycles_append, answers_append, total_append, occurs_append, all_before, before_all, packs_append}
use Rattle.count_promises.proofs.Refusals.{refusals}
use Rattle.count_promises.proofs.Means.{figures_over, over, of_figures}
use Rattle.count_promises.proofs.Ends.{ends_with_line, said_append}

lowest_append : (c d : ℕ) (s t : List ℕ) → lowest_of c (s ++ d ∷ t) ≡ min (lowest_of c s) (lowest_of d t)
unfolding lowest_of
lowest_append c d [] t = refl
lowest_append c d (n ∷ s) t = omega (arith, lowest_append n d s t)

highest_append : (c d : ℕ) (s t : List ℕ) → highest_of c (s ++ d ∷ t) ≡ max (highest_of c s) (highest_of d t)
unfolding highest_of
highest_append c d [] t = refl
highest_append c d (n ∷ s) t = omega (arith, highest_append n d s t)

-- with none on one side, the figures of the other
figures_left : (s t : List ℕ) → length t ≡ 0 → figures_of (s ++ t) ≡ figures_of s
figures_left s t h = rw (empty t h, append-nil s)

figures_right : (s t : List ℕ) → length s ≡ 0 → figures_of (s ++ t) ≡ figures_of t
figures_right s t h = rw (empty s h)

figures_both : (s t : List ℕ) (f g : Figures) → figures_of s ≡ some f → figures_of t ≡ some g → JoinedFigures f g (figures_of (s ++ t))
figures_both s t f g p q =
    of_figures (λ s f. JoinedFigures f g (figures_of (s ++ t)))
    (λ c s. of_figures (λ t g. JoinedFigures (figures_over c s) g (figures_of (c ∷ s ++ t))) (λ d t. both c d s t) t g q)
    s f p
  where
    both : (c d : ℕ) (s t : List ℕ) → JoinedFigures (figures_over c s) (figures_over d t) (figures_of (c ∷ s ++ d ∷ t))
    both c d s t = record { figures = figures_over c (s ++ d ∷ t); there = over c (s ++ d ∷ t); lowest = lowest_append c d s t; highest = highest_append c d s t }

-- the reports over packs and others after them
joined_packs : (a b : List Said) → Joined (report_of a) (report_of b) (report_of (a ++ b))
unfolding report_of
joined_packs a b =
    rw (cycles_append a b, answers_append a b)
    record {
      seen = length-append a b;
      read = length-append (cycles_in a) (cycles_in b);
      unread = length-append (answers_in a) (answers_in b);
      by = λ k. occurs_append k (answers_in a) (answers_in b);
      sum = total_append (cycles_in a) (cycles_in b);
      left = figures_left (cycles_in a) (cycles_in b);
      right = figures_right (cycles_in a) (cycles_in b);
      both = figures_both (cycles_in a) (cycles_in b);
    }

-- packs, and packs after them
all_append : (a b : List Said) → AllPacks a → AllPacks b → AllPacks (a ++ b)
all_append a b h k = before_all (a ++ b) (packs_append a b h ∙ ap (λ (n : ℕ). length a + n) (all_before b k) ∙ sym (length-append a b))

pub joined : (s t : List ℕ) (r q : Report) → outcome_of (said_in s) ≡ report r → outcome_of (said_in t) ≡ report q → r.seen + q.seen ≤ 65535 → JoinedFiles s t r q
unfolding report_of
joined s t r q e₁ e₂ most =
    let first = refusals.reported (said_in s) r e₁ in
    let second = refusals.reported (said_in t) q e₂ in
    let says : said_in (s ++ t) ≡ said_in s ++ said_in t = said_append s t (ends_with_line s first.0) in
    let seen : length (said_in s) + length (said_in t) ≤ 65535 = rw (first.2, second.2) at most in
    record {
      report_of_lem = report_of (said_in s ++ said_in t);
      there =
          rw says
          (refusals.reports (said_in s ++ said_in t) (all_append (said_in s) (said_in t) first.0 second.0) (omega (arith, length-append (said_in s) (said_in t))));
      adds = rw (first.2, second.2) (joined_packs (said_in s) (said_in t));
    }
