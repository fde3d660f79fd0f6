-- What is counted is what the report says: the figures move with each pack as those over the list of packs do.
-- Assumes nothing.
use Prim.Native.Nat.{ℕ, zero, suc, ◌+◌, ◌%◌, ◌≤◌, ◌<◌, min, max}
use mathlib.Core.Path.{◌≡◌, refl, sym, ap, ◌∙◌, fun_ext}
use mathlib.Core.Bool.{Bool, true, false}
use mathlib.Core.List.{List, [], ◌∷◌, ◌++◌, append-nil}
use native.Mathlib.Omega.{arith}
use lib.ListN.{length, set, get_or, replicate, length-append, length-set, length-replicate}
use lib.Seq.{get_or-set_same, get_or-set_other}
use lib.Dec.{eqb}
use borrow.Author.Tests.{eq-eqb, ne_eqb, eqb-true, eqb-false}
use Rattle.protocol.specs.Pick.{when◌then◌else◌}
use Rattle.std.specs.Prelude.{Some, None}
use Rattle.packs.specs.Said.{Said}
use Rattle.packs.specs.declared.Pack.TheVariants as pack
use Rattle.packs.specs.declared.Count.{Count}
use Rattle.packs.specs.Count.{no_packs, seen_of, add_read, add_unread, one_more}
use Rattle.report.specs.Sheet.{figures_in, report_in}
use Rattle.count_promises.specs.Packs.{cycles_in, answers_in, total, occurs, lowest_of, highest_of, figures_of, report_of}
use Rattle.count_promises.specs.Lines.{AllFit}
use Rattle.count_promises.proofs.Lists.{cycles_append, answers_append, total_append, occurs_append, occurs_none, occurs_own, occurs_other, occurs_length}
use Rattle.count_promises.proofs.Fits.{fit_more, seen_all, sum_most}

-- the lowest and the highest, starting from what stands for none
abbrev pub low_all : List ℕ → ℕ
low_all [] = 65535
low_all (c ∷ s) = min c (low_all s)

abbrev pub high_all : List ℕ → ℕ
high_all [] = 0
high_all (c ∷ s) = max c (high_all s)

low_more : (s : List ℕ) (c : ℕ) → low_all (s ++ (c ∷ [])) ≡ min c (low_all s)
low_more [] c = refl
low_more (x ∷ s) c = rw (low_more s c) (omega arith)

high_more : (s : List ℕ) (c : ℕ) → high_all (s ++ (c ∷ [])) ≡ max c (high_all s)
high_more [] c = refl
high_more (x ∷ s) c = rw (high_more s c) (omega arith)

-- each cycle count is 65,535 at most
abbrev Small : List ℕ → Type 0
Small [] = Unit {0}
Small (c ∷ s) = (c ≤ 65535) × Small s

cycles_small : (ps : List Said) → AllFit ps → Small (cycles_in ps)
unfolding cycles_in
cycles_small [] h = tt
cycles_small (Some (pack.Read c) ∷ ps) h = (h.0, cycles_small ps h.1)
cycles_small (Some (pack.Unread k) ∷ ps) h = cycles_small ps h.1
cycles_small (None ∷ ps) h = absurd h.0

low_least : (c : ℕ) (s : List ℕ) → Small (c ∷ s) → low_all (c ∷ s) ≡ lowest_of c s
unfolding lowest_of
low_least c [] h = let q = h.0 in omega arith
low_least c (n ∷ s) h = ap (min c) (low_least n s h.1)

high_most : (c : ℕ) (s : List ℕ) → high_all (c ∷ s) ≡ highest_of c s
unfolding highest_of
high_most c [] = omega arith
high_most c (n ∷ s) = ap (max c) (high_most n s)

-- a count and the answers by number are those over these packs
pub record Counted (ps : List Said) (count : Count) (numbers : List ℕ) : Type 0 where
  pub fits : AllFit ps
  pub most : length ps ≤ 65535
  pub read : count.read ≡ length (cycles_in ps)
  pub unread : count.unread ≡ length (answers_in ps)
  pub sum : count.sum ≡ total (cycles_in ps)
  pub lowest : count.lowest ≡ low_all (cycles_in ps)
  pub highest : count.highest ≡ high_all (cycles_in ps)
  pub sized : length numbers ≡ 256
  pub by : (k : ℕ) → get_or numbers k 0 ≡ occurs k (answers_in ps)

pub counted_seen : (ps : List Said) (count : Count) (numbers : List ℕ) → Counted ps count numbers → seen_of count ≡ length ps
counted_seen ps count numbers c = rw (c.read, c.unread) (sym (seen_all ps c.fits))

pub counted_none : Counted [] no_packs (replicate 256 0)
unfolding no_packs cycles_in answers_in total occurs
counted_none = record {
  fits = tt;
  most = omega arith;
  read = refl;
  unread = refl;
  sum = refl;
  lowest = refl;
  highest = refl;
  sized = length-replicate {A = ℕ} 256 0;
  by = zeros 256;
}
  where
    zeros : (n k : ℕ) → ◌≡◌ {A = ℕ} (get_or (replicate n 0) k 0) 0
    zeros zero k = refl
    zeros (suc n) zero = refl
    zeros (suc n) (suc k) = zeros n k

module _ (ps : List Said) (count : Count) (numbers : List ℕ) (c : Counted ps count numbers) (room : length ps < 65535) where
  pub counted_read : (cycles : ℕ) → cycles ≤ 65535 → Counted (ps ++ (Some (pack.Read cycles) ∷ [])) (add_read count cycles) numbers
  unfolding add_read cycles_in answers_in total
  counted_read cycles h =
      let s : List ℕ = cycles_in ps in
      let e : cycles_in (ps ++ (Some (pack.Read cycles) ∷ [])) ≡ s ++ (cycles ∷ []) = cycles_append ps (Some (pack.Read cycles) ∷ []) in
      let a : answers_in (ps ++ (Some (pack.Read cycles) ∷ [])) ≡ answers_in ps ++ [] = answers_append ps (Some (pack.Read cycles) ∷ []) in
      let b : answers_in (ps ++ (Some (pack.Read cycles) ∷ [])) ≡ answers_in ps = a ∙ append-nil (answers_in ps) in
      let few = seen_all ps c.fits in
      let most = sum_most ps c.fits in
      record {
        fits = fit_more ps (Some (pack.Read cycles)) c.fits h;
        most = rw (length-append ps (Some (pack.Read cycles) ∷ [])) (omega arith);
        read = rw (e, length-append s (cycles ∷ []), c.read) (omega arith);
        unread = rw b c.unread;
        sum = rw (e, total_append s (cycles ∷ []), c.sum) (omega arith);
        lowest = rw (e, low_more s cycles, c.lowest) refl;
        highest = rw (e, high_more s cycles, c.highest) refl;
        sized = c.sized;
        by = λ k. rw b (c.by k);
      }

  pub counted_unread : (answer : ℕ) → 0 < answer → answer ≤ 255 → Counted (ps ++ (Some (pack.Unread answer) ∷ [])) (add_unread count) (one_more answer numbers)
  unfolding add_unread one_more cycles_in answers_in
  counted_unread answer nonzero h =
      let s : List ℕ = answers_in ps in
      let e : answers_in (ps ++ (Some (pack.Unread answer) ∷ [])) ≡ s ++ (answer ∷ []) = answers_append ps (Some (pack.Unread answer) ∷ []) in
      let a : cycles_in (ps ++ (Some (pack.Unread answer) ∷ [])) ≡ cycles_in ps ++ [] = cycles_append ps (Some (pack.Unread answer) ∷ []) in
      let b : cycles_in (ps ++ (Some (pack.Unread answer) ∷ [])) ≡ cycles_in ps = a ∙ append-nil (cycles_in ps) in
      let few = seen_all ps c.fits in
      record {
        fits = fit_more ps (Some (pack.Unread answer)) c.fits (nonzero, h);
        most = rw (length-append ps (Some (pack.Unread answer) ∷ [])) (omega arith);
        read = rw b c.read;
        unread = rw (e, length-append s (answer ∷ []), c.unread) (omega arith);
        sum = rw b c.sum;
        lowest = rw b c.lowest;
        highest = rw b c.highest;
        sized = rw length-set c.sized;
        by = λ k. rw (e, occurs_append k s (answer ∷ [])) (one k (eqb k answer) refl);
      }
    where
      one : (k : ℕ) (t : Bool) → eqb k answer ≡ t → get_or (set numbers answer ((get_or numbers answer 0 + 1) % 65536)) k 0 ≡ occurs k (answers_in ps) + occurs k (answer ∷ [])
      one k true f =
          let q : k ≡ answer = eqb-true k answer f in
          let inside : answer < length numbers = rw c.sized (omega arith) in
          let few = seen_all ps c.fits in
          let least = occurs_length answer (answers_in ps) in
          let own : (get_or numbers answer 0 + 1) % 65536 ≡ occurs answer (answers_in ps) + 1 = rw (c.by answer) (omega arith) in
          rw q (get_or-set_same numbers answer _ 0 inside ∙ own ∙ ap (λ (n : ℕ). occurs answer (answers_in ps) + n) (sym (occurs_own answer [] ∙ ap suc (occurs_none answer))))
      one k false f =
          let q : k ≡ answer → ⊥ = eqb-false k answer f in
          get_or-set_other numbers answer k _ 0 q ∙ c.by k ∙ sym (rw (occurs_other k answer [] (λ e. q (sym e)), occurs_none k) (omega arith))

-- the figures over packs that were read
figures_same : (s : List ℕ) (count : Count) → Small s → count.read ≡ length s → count.sum ≡ total s → count.lowest ≡ low_all s → count.highest ≡ high_all s
    → figures_in count ≡ figures_of s
unfolding figures_in figures_of when◌then◌else◌
figures_same [] count h r t l g = rw (eq-eqb count.read 0 r) refl
figures_same (c ∷ s) count h r t l g =
    let some_read : eqb count.read 0 ≡ false = ne_eqb count.read 0 (λ e. absurd (omega (arith, r, e))) in
    let low : count.lowest ≡ lowest_of c s = l ∙ low_least c s h in
    let high : count.highest ≡ highest_of c s = g ∙ high_most c s in
    rw (some_read, low, high, t, r) refl

-- what is counted is the report over the packs
pub counted_report : (ps : List Said) (count : Count) (numbers : List ℕ) → Counted ps count numbers → report_in count numbers ≡ report_of ps
unfolding report_in report_of
counted_report ps count numbers c =
    let seen : seen_of count ≡ length ps = counted_seen ps count numbers c in
    let by : ◌≡◌ {A = ℕ → ℕ} (λ k. get_or numbers k 0) (λ k. occurs k (answers_in ps)) = fun_ext c.by in
    let figures = figures_same (cycles_in ps) count (cycles_small ps c.fits) c.read c.sum c.lowest c.highest in
    λ i. record { seen = seen i; read = c.read i; unread = c.unread i; by = by i; sum = c.sum i; figures = figures i }
