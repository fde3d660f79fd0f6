-- Unread is not zero: an unread pack is among the answers and not among the cycles, and the second line of a report tells how many were read.
-- Assumes nothing.
use Prim.Native.Nat.{ℕ, suc, ◌+◌, ◌/◌, ◌%◌, ◌≤◌, ◌<◌}
use mathlib.Core.Path.{◌≡◌, refl, sym, ap, ◌∙◌, subst}
use mathlib.Core.List.{List, [], ◌∷◌, ◌++◌, append-nil}
use mathlib.Core.Option.{none, some}
use native.Mathlib.Nat.{div-one, mod-one}
use native.Mathlib.Omega.{arith}
use lib.ListN.{length, length-append}
use Rattle.lines.specs.Input.{rest_from}
use Rattle.std.specs.Prelude.{Some, None}
use Rattle.packs.specs.Said.{Said}
use Rattle.packs.specs.declared.Pack.TheVariants as pack
use Rattle.report.specs.Report.{Figures, Report, Outcome, report, refused, of_read, text_of}
use Rattle.count_promises.specs.Packs.{said_in, cycles_in, answers_in, total, occurs, lowest_of, highest_of, figures_of, report_of, packs_before, outcome_of, printed_of}
use Rattle.count_promises.specs.Lines.{read_line, unread_line, AllPacks}
use Rattle.count_promises.specs.Reports.{JoinedFigures, Reordered, same, keep, swap, and_then}
use Rattle.count_promises.specs.Unread.{OneMoreUnread, OneMoreRead, OneMoreLine, none_read, UnreadIsNotZero}
use Rattle.count_promises.proofs.Lists.{cycles_append, answers_append, total_append, occurs_append, occurs_own, occurs_other, all_before, before_all}
use Rattle.count_promises.proofs.Lines.{lines}
use Rattle.count_promises.proofs.Feeds.{digits_no_feed, said_line}
use Rattle.count_promises.proofs.Refusals.{refusals}
use Rattle.count_promises.proofs.Ends.{said_append}
use Rattle.count_promises.proofs.Means.{some_read, figures_over, over, of_figures}
use Rattle.count_promises.proofs.Orders.{figures_reordered}
use Rattle.count_promises.proofs.Reports.{reports}
use Rattle.count_promises.proofs.Tells.{tells}

-- one more that was not read
module _ (a b : List Said) (answer : ℕ) where
  cycles_stay : cycles_in (a ++ Some (pack.Unread answer) ∷ b) ≡ cycles_in (a ++ b)
  unfolding cycles_in
  cycles_stay = cycles_append a (Some (pack.Unread answer) ∷ b) ∙ sym (cycles_append a b)

  answers_more : answers_in (a ++ Some (pack.Unread answer) ∷ b) ≡ answers_in a ++ answer ∷ answers_in b
  unfolding answers_in
  answers_more = answers_append a (Some (pack.Unread answer) ∷ b)

  one_more : OneMoreUnread answer (report_of (a ++ b)) (report_of (a ++ Some (pack.Unread answer) ∷ b))
  unfolding report_of
  one_more = record {
    seen = rw (length-append a (Some (pack.Unread answer) ∷ b), length-append a b) (omega arith);
    unread = rw (answers_more, answers_append a b, length-append (answers_in a) (answer ∷ answers_in b), length-append (answers_in a) (answers_in b)) (omega arith);
    own = rw (answers_more, answers_append a b, occurs_append answer (answers_in a) (answer ∷ answers_in b), occurs_append answer (answers_in a) (answers_in b), occurs_own answer (answers_in b)) (omega arith);
    others = λ k h.
        rw (answers_more, answers_append a b, occurs_append k (answers_in a) (answer ∷ answers_in b), occurs_append k (answers_in a) (answers_in b), occurs_other k answer (answers_in b) (λ e. h (sym e))) refl;
    read = ap length cycles_stay;
    sum = ap total cycles_stay;
    figures = ap figures_of cycles_stay;
  }

-- one more that was read
to_front : (c : ℕ) (s t : List ℕ) → Reordered (s ++ (c ∷ t)) (c ∷ (s ++ t))
to_front c [] t = same
to_front c (x ∷ s) t = and_then (keep x (to_front c s t)) (swap x c)

alone : ℕ → Figures
alone c = record { lowest = c; highest = c; mean = c; remainder = 0 }

first_figures : (c : ℕ) (s : List ℕ) → figures_of s ≡ none → figures_of (c ∷ s) ≡ some (alone c)
unfolding figures_of lowest_of highest_of total alone
first_figures c [] e =
    let sum : c + 0 ≡ c = omega arith in
    rw (sum, div-one c, mod-one c) refl
first_figures c (d ∷ s) e = absurd (some_read (d ∷ s) (omega arith) e)

further_figures : (c : ℕ) (s : List ℕ) (f : Figures) → figures_of s ≡ some f → JoinedFigures (alone c) f (figures_of (c ∷ s))
unfolding alone lowest_of highest_of
further_figures c s f e = of_figures (λ s f. JoinedFigures (alone c) f (figures_of (c ∷ s))) (λ d t. both d t) s f e
  where
    both : (d : ℕ) (t : List ℕ) → JoinedFigures (alone c) (figures_over d t) (figures_of (c ∷ d ∷ t))
    both d t = record { figures = figures_over c (d ∷ t); there = over c (d ∷ t); lowest = refl; highest = refl }

module _ (a b : List Said) (cycles : ℕ) where
  cycles_more : cycles_in (a ++ Some (pack.Read cycles) ∷ b) ≡ cycles_in a ++ cycles ∷ cycles_in b
  unfolding cycles_in
  cycles_more = cycles_append a (Some (pack.Read cycles) ∷ b)

  answers_stay : answers_in (a ++ Some (pack.Read cycles) ∷ b) ≡ answers_in (a ++ b)
  unfolding answers_in
  answers_stay = answers_append a (Some (pack.Read cycles) ∷ b) ∙ sym (answers_append a b)

  figures_more : figures_of (cycles_in (a ++ Some (pack.Read cycles) ∷ b)) ≡ figures_of (cycles ∷ cycles_in (a ++ b))
  figures_more =
      ap figures_of cycles_more ∙ figures_reordered (to_front cycles (cycles_in a) (cycles_in b)) ∙ ap (λ (s : List ℕ). figures_of (cycles ∷ s)) (sym (cycles_append a b))

  sum_more : total (cycles_in (a ++ Some (pack.Read cycles) ∷ b)) ≡ total (cycles_in (a ++ b)) + cycles
  unfolding total
  sum_more = rw (cycles_more, cycles_append a b, total_append (cycles_in a) (cycles ∷ cycles_in b), total_append (cycles_in a) (cycles_in b)) (omega arith)

  one_more_read : OneMoreRead cycles (report_of (a ++ b)) (report_of (a ++ Some (pack.Read cycles) ∷ b))
  unfolding report_of alone
  one_more_read = record {
    seen = rw (length-append a (Some (pack.Read cycles) ∷ b), length-append a b) (omega arith);
    read = rw (cycles_more, cycles_append a b, length-append (cycles_in a) (cycles ∷ cycles_in b), length-append (cycles_in a) (cycles_in b)) (omega arith);
    sum = sum_more;
    first = λ e. figures_more ∙ first_figures cycles (cycles_in (a ++ b)) e;
    further = λ f e. rw figures_more (further_figures cycles (cycles_in (a ++ b)) f e);
    unread = ap length answers_stay;
    by = λ k. ap (occurs k) answers_stay;
  }

-- with none read, nothing follows the sum
none_after : (r : Report) → r.read ≡ 0 → r.sum ≡ 0 → r.figures ≡ none → text_of (report r) ≡ none_read r
unfolding text_of of_read none_read
none_after r n s f = rw (n, f, s, append-nil) refl

swap_packs : (a b : List Said) (answer cycles : ℕ) → packs_before (a ++ Some (pack.Read cycles) ∷ b) ≡ packs_before (a ++ Some (pack.Unread answer) ∷ b)
unfolding packs_before
swap_packs [] b answer cycles = refl
swap_packs (Some (pack.Read c) ∷ a) b answer cycles = ap suc (swap_packs a b answer cycles)
swap_packs (Some (pack.Unread k) ∷ a) b answer cycles = ap suc (swap_packs a b answer cycles)
swap_packs (None ∷ a) b answer cycles = refl

-- one more pack among packs
insert_pack : (a b : List Said) (answer : ℕ) → packs_before (a ++ b) ≡ length (a ++ b) → packs_before (a ++ Some (pack.Unread answer) ∷ b) ≡ length (a ++ Some (pack.Unread answer) ∷ b)
unfolding packs_before
insert_pack [] b answer e = ap suc e
insert_pack (Some (pack.Read c) ∷ a) b answer e = ap suc (insert_pack a b answer (omega arith))
insert_pack (Some (pack.Unread k) ∷ a) b answer e = ap suc (insert_pack a b answer (omega arith))
insert_pack (None ∷ a) b answer e = absurd (omega arith)

-- the line of an unread pack in a file
unread_line_lem : (s t : List ℕ) (answer : ℕ) → rest_from [] s ≡ [] → 0 < answer → answer < 256
    → said_in (s ++ (unread_line answer ++ (10 ∷ t))) ≡ said_in s ++ Some (pack.Unread answer) ∷ said_in t
unread_line_lem s t answer rest nonzero ha =
    said_append s (unread_line answer ++ (10 ∷ t)) rest
    ∙ ap (λ (ps : List Said). said_in s ++ ps)
    (said_line (unread_line answer) t (digits_no_feed (1 ∷ answer ∷ []) (omega arith, (ha, tt))) ∙ ap (λ (p : Said). p ∷ said_in t) (lines.unread answer nonzero ha))

one_more_line : (s t : List ℕ) (answer : ℕ) (r : Report) → rest_from [] s ≡ [] → 0 < answer → answer < 256 → outcome_of (said_in (s ++ t)) ≡ report r → r.seen < 65535
    → OneMoreLine s t answer r
unfolding report_of
one_more_line s t answer r rest nonzero ha out room =
    let both : said_in (s ++ t) ≡ said_in s ++ said_in t = said_append s t rest in
    let good = refusals.reported (said_in s ++ said_in t) r (ap outcome_of (sym both) ∙ out) in
    let more : List Said = said_in s ++ Some (pack.Unread answer) ∷ said_in t in
    let packs : AllPacks more = before_all more (insert_pack (said_in s) (said_in t) answer (all_before (said_in s ++ said_in t) good.0)) in
    let few : length (said_in s ++ said_in t) < 65535 = subst (λ (q : Report). q.seen < 65535) good.2 room in
    let most : length more ≤ 65535 = rw (length-append (said_in s) (Some (pack.Unread answer) ∷ said_in t)) (omega (arith, few, length-append (said_in s) (said_in t))) in
    record {
      after = report_of more;
      there = ap outcome_of (unread_line_lem s t answer rest nonzero ha) ∙ refusals.reports more packs most;
      adds = subst (λ (q : Report). OneMoreUnread answer q (report_of more)) (sym good.2) (one_more (said_in s) (said_in t) answer);
    }

-- how many were read, by an outcome
read_in : Outcome → ℕ
read_in (report r) = r.read
read_in (refused n) = 0

-- one pack, unread or read
module _ (a b : List Said) (answer cycles : ℕ) where
  abbrev unread_one : List Said
  unread_one = a ++ Some (pack.Unread answer) ∷ b

  abbrev read_one : List Said
  read_one = a ++ Some (pack.Read cycles) ∷ b

  same_length : length read_one ≡ length unread_one
  same_length = length-append a (Some (pack.Read cycles) ∷ b) ∙ sym (length-append a (Some (pack.Unread answer) ∷ b))

  one_read : length (cycles_in read_one) ≡ suc (length (cycles_in unread_one))
  unfolding cycles_in
  one_read =
      rw (cycles_append a (Some (pack.Read cycles) ∷ b), cycles_append a (Some (pack.Unread answer) ∷ b), length-append (cycles_in a) (cycles ∷ cycles_in b), length-append (cycles_in a) (cycles_in b))
      (omega arith)

  differ : AllPacks unread_one → length unread_one ≤ 65535 → outcome_of unread_one ≡ outcome_of read_one → ⊥
  unfolding report_of read_in
  differ packs most alike =
      let other : AllPacks read_one = before_all read_one (swap_packs a b answer cycles ∙ all_before unread_one packs ∙ sym same_length) in
      let n : length (cycles_in unread_one) ≡ length (cycles_in read_one) =
      ap read_in (sym (refusals.reports unread_one packs most) ∙ alike ∙ refusals.reports read_one other (rw same_length most)) in
      absurd (omega (arith, n, one_read))

-- in a file
files_differ : (s t : List ℕ) (answer cycles : ℕ) (r : Report) → rest_from [] s ≡ [] → 0 < answer → answer < 256 → cycles < 65536
    → outcome_of (said_in (s ++ (unread_line answer ++ (10 ∷ t)))) ≡ report r
    → printed_of (s ++ (unread_line answer ++ (10 ∷ t))) ≡ printed_of (s ++ (read_line cycles ++ (10 ∷ t))) → ⊥
files_differ s t answer cycles r rest nonzero ha hc out alike =
    let u : said_in (s ++ (unread_line answer ++ (10 ∷ t))) ≡ said_in s ++ Some (pack.Unread answer) ∷ said_in t = unread_line_lem s t answer rest nonzero ha in
    let v : said_in (s ++ (read_line cycles ++ (10 ∷ t))) ≡ said_in s ++ Some (pack.Read cycles) ∷ said_in t =
    said_append s (read_line cycles ++ (10 ∷ t)) rest
    ∙ ap (λ (ps : List Said). said_in s ++ ps)
    (said_line (read_line cycles) t (digits_no_feed (0 ∷ cycles % 256 ∷ cycles / 256 ∷ []) (omega arith, (omega arith, (omega arith, tt)))) ∙ ap (λ (p : Said). p ∷ said_in t) (lines.read cycles hc)) in
    let good = refusals.reported (said_in s ++ Some (pack.Unread answer) ∷ said_in t) r (ap outcome_of (sym u) ∙ out) in
    differ (said_in s) (said_in t) answer cycles good.0 good.1
    (ap outcome_of (sym u) ∙ tells.inputs (s ++ (unread_line answer ++ (10 ∷ t))) (s ++ (read_line cycles ++ (10 ∷ t))) alike ∙ ap outcome_of v)

pub unread_is_not_zero : UnreadIsNotZero
unread_is_not_zero = record {
  adds = one_more;
  adds_read = one_more_read;
  adds_line = one_more_line;
  none_read_lem = λ input r e z. let b = (reports.balanced input r e).none_read_lem z in none_after r z b.0 b.1;
  differs = files_differ;
}
