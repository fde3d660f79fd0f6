-- The count comes to the outcome of the whole input: byte by byte, the packs that are counted and the digits that are read stand for the lines so far.
-- Assumes nothing.
use Prim.Native.Nat.{ℕ, suc, ◌+◌, ◌*◌, ◌≤◌, ◌<◌}
use mathlib.Core.Path.{◌≡◌, refl, sym, ap, ◌∙◌}
use mathlib.Core.Bool.{Bool, true, false}
use mathlib.Core.List.{List, [], ◌∷◌, ◌++◌, map, append-nil}
use native.Mathlib.Omega.{arith}
use lib.ListN.{length, length-append}
use lib.Seq.{append_snoc}
use lib.Dec.{ltb, leb, eqb}
use borrow.Author.Tests.{lt-ltb, le-ltb, le-leb, eq-eqb, ne_eqb, ltb-true, ltb-false, leb-true, leb-false, eqb-true}
use Rattle.protocol.specs.Pick.{when◌then◌else◌}
use Rattle.hexadecimal.specs.Hex.{value_of}
use Rattle.lines.specs.Input.{lines_from, rest_from}
use Rattle.std.specs.Prelude.{Some, None}
use Rattle.packs.specs.Said.{Said}
use Rattle.packs.specs.declared.Pack.TheVariants as pack
use Rattle.packs.specs.declared.Count.{Count}
use Rattle.packs.specs.declared.Sheet.{Sheet}
use Rattle.packs.specs.Sheet.{sheet}
use Rattle.packs.specs.Count.{no_packs, between_of, refused_of, start_of, start_sheet, seen_of, is_refused, add_read, add_unread, one_more, said_of, counted_by, counted_of, step_of, feed_of}
use Rattle.packs.proofs.Feed.{within, feed_append, step_digit, step_line}
use Rattle.packs.proofs.Lies.{pick}
use Rattle.report.specs.Report.{report, refused}
use Rattle.report.specs.Sheet.{outcome_in}
use Rattle.count_promises.specs.Packs.{line_says, said_in, outcome_of}
use Rattle.count_promises.specs.Pieces.{taken_all, in_one, Pieces}
use Rattle.count_promises.specs.Lines.{Fits}
use Rattle.count_promises.proofs.Says.{AllDigits, number_from, number_more, digits_more, Held, says_same}
use Rattle.count_promises.proofs.Dead.{Dead, dead_byte, dead_long, said_from, dead_first}
use Rattle.count_promises.proofs.Counted.{Counted, counted_seen, counted_none, counted_read, counted_unread, counted_report}
use Rattle.count_promises.proofs.Outcomes.{all_outcome, bad_outcome, full_outcome}

-- a line's number is at least 1, and tells whether it has six digits
number_some : (n : ℕ) (s : List ℕ) → 0 < n → 0 < number_from n s
number_some n [] h = h
number_some n (b ∷ s) h = number_some (n * 16 + value_of b) s (omega arith)

held_some : (held : List ℕ) (line : ℕ) → Held held line → 0 < line
held_some held line h = rw h.number (number_some 1 held (omega arith))

few_digits : (held : List ℕ) → AllDigits held → length held < 6 → number_from 1 held < 0x1000000
few_digits [] v h = omega arith
few_digits (a ∷ []) v h = omega (arith, v.0)
few_digits (a ∷ b ∷ []) v h = omega (arith, v.0, v.1.0)
few_digits (a ∷ b ∷ c ∷ []) v h = omega (arith, v.0, v.1.0, v.1.1.0)
few_digits (a ∷ b ∷ c ∷ d ∷ []) v h = omega (arith, v.0, v.1.0, v.1.1.0, v.1.1.1.0)
few_digits (a ∷ b ∷ c ∷ d ∷ e ∷ []) v h = omega (arith, v.0, v.1.0, v.1.1.0, v.1.1.1.0, v.1.1.1.1.0)
few_digits (a ∷ b ∷ c ∷ d ∷ e ∷ f ∷ s) v h = absurd (omega arith)

held_six : (held : List ℕ) (line : ℕ) → Held held line → 0x1000000 ≤ line → 6 ≤ length held
held_six held line h many = by (ltb (length held) 6) refl
  where
    by : (t : Bool) → ltb (length held) 6 ≡ t → 6 ≤ length held
    by true e = let k = few_digits held h.digits (ltb-true (length held) 6 e) in let n = h.number in absurd (omega arith)
    by false e = ltb-false (length held) 6 e

six_digits : (held : List ℕ) → 6 ≤ length held → length held ≤ 6 → 0x1000000 ≤ number_from 1 held
six_digits [] h k = absurd (omega arith)
six_digits (a ∷ []) h k = absurd (omega arith)
six_digits (a ∷ b ∷ []) h k = absurd (omega arith)
six_digits (a ∷ b ∷ c ∷ []) h k = absurd (omega arith)
six_digits (a ∷ b ∷ c ∷ d ∷ []) h k = absurd (omega arith)
six_digits (a ∷ b ∷ c ∷ d ∷ e ∷ []) h k = absurd (omega arith)
six_digits (a ∷ b ∷ c ∷ d ∷ e ∷ f ∷ []) h k = omega arith
six_digits (a ∷ b ∷ c ∷ d ∷ e ∷ f ∷ g ∷ s) h k = absurd (omega arith)

held_more : (held : List ℕ) (line b : ℕ) → Held held line → value_of b < 16 → line < 0x1000000 → Held (held ++ (b ∷ [])) (line * 16 + value_of b)
held_more held line b h v few = record {
  digits = digits_more held b h.digits v;
  number = ap (λ (n : ℕ). n * 16 + value_of b) h.number ∙ sym (number_more 1 held b);
  most = by (ltb (length held) 6) refl;
}
  where
    by : (t : Bool) → ltb (length held) 6 ≡ t → length (held ++ (b ∷ [])) ≤ 6
    by true e = let k = ltb-true (length held) 6 e in rw (length-append held (b ∷ [])) (omega arith)
    by false e =
        let k = six_digits held (ltb-false (length held) 6 e) h.most in
        let n = h.number in
        absurd (omega arith)

-- once a line is refused, nothing moves, and its number is told
module _ (count : Count) (numbers : List ℕ) where
  refused_stays : (s : List ℕ) → feed_of s (sheet (refused_of count) numbers) ≡ sheet (refused_of count) numbers
  unfolding feed_of step_of is_refused refused_of when◌then◌else◌
  refused_stays [] = refl
  refused_stays (b ∷ s) = refused_stays s

  refused_out : (s : List ℕ) → outcome_in (feed_of s (sheet (refused_of count) numbers)) ≡ refused (suc (seen_of count))
  unfolding outcome_in refused_of when◌then◌else◌
  refused_out s = ap outcome_in (refused_stays s)

  -- a byte that is no digit, and a seventh digit
  step_bad : (b line : ℕ) → 0 < line → eqb b 10 ≡ false → 16 ≤ value_of b → step_of b (within count line numbers) ≡ sheet (refused_of count) numbers
  unfolding step_of is_refused when◌then◌else◌
  step_bad b line some e v =
      let z : eqb line 0 ≡ false = ne_eqb line 0 (λ f. absurd (omega arith)) in
      rw (z, e, lt-ltb 15 (value_of b) v) refl

  step_seventh : (b line : ℕ) → 0 < line → eqb b 10 ≡ false → value_of b < 16 → 0x1000000 ≤ line → step_of b (within count line numbers) ≡ sheet (refused_of count) numbers
  unfolding step_of is_refused when◌then◌else◌
  step_seventh b line some e v many =
      let z : eqb line 0 ≡ false = ne_eqb line 0 (λ f. absurd (omega arith)) in
      rw (z, e, le-ltb 15 (value_of b) (omega arith), le-leb 0x1000000 line many) refl

held_none : Held [] 1
held_none = record { digits = tt; number = refl; most = omega arith }

-- what a line says has its range
abbrev Range : Said → Type 0
Range (Some (pack.Read cycles)) = Fits (Some (pack.Read cycles))
Range (Some (pack.Unread answer)) = Fits (Some (pack.Unread answer))
Range None = Unit {0}

said_range : (line : ℕ) → Range (said_of line)
unfolding said_of
said_range line =
    pick Range (leb 0x1000000 line) _ _ (λ e. pick Range (ltb line 0x1010000) _ _ (λ f. omega arith) (λ f. tt))
    (λ e.
    pick Range (ltb 0x10100 line) _ _
    (λ f.
    pick Range (ltb line 0x10200) _ _ (λ g. let p = ltb-true 0x10100 line f in let q = ltb-true line 0x10200 g in (omega arith, omega arith)) (λ g. tt))
    (λ f. tt))

module _ (s : List ℕ) (ps : List Said) (count : Count) (numbers : List ℕ) (c : Counted ps count numbers) where
  -- a line is whole, and what follows it is counted from there
  abbrev Follows : Type 0
  Follows = (qs : List Said) (next : Count) (after : List ℕ) → Counted qs next after → outcome_in (feed_of s (within next 1 after)) ≡ outcome_of (qs ++ said_from [] s)

  taken_line : (p : Said) → Range p → length ps < 65535 → Follows → outcome_in (feed_of s (counted_by p count numbers)) ≡ outcome_of (ps ++ p ∷ said_from [] s)
  unfolding counted_by between_of
  taken_line (Some (pack.Read k)) r room follows =
      follows (ps ++ (Some (pack.Read k) ∷ [])) (add_read count k) numbers (counted_read ps count numbers c room k r) ∙ ap outcome_of (append_snoc ps (Some (pack.Read k)) (said_from [] s))
  taken_line (Some (pack.Unread k)) r room follows =
      follows (ps ++ (Some (pack.Unread k) ∷ [])) (add_unread count) (one_more k numbers) (counted_unread ps count numbers c room k r.0 r.1)
      ∙ ap outcome_of (append_snoc ps (Some (pack.Unread k)) (said_from [] s))
  taken_line None r room follows =
      refused_out count numbers s ∙ ap (λ (n : ℕ). refused (suc n)) (counted_seen ps count numbers c) ∙ sym (bad_outcome ps c.fits (said_from [] s) c.most)

  counted_line : (p : Said) → Range p → Follows → outcome_in (feed_of s (counted_of p count numbers)) ≡ outcome_of (ps ++ p ∷ said_from [] s)
  unfolding counted_of when◌then◌else◌
  counted_line p r follows = by (leb 65535 (seen_of count)) refl
    where
      by : (t : Bool) → leb 65535 (seen_of count) ≡ t
          → outcome_in (feed_of s (when t then sheet (refused_of count) numbers else counted_by p count numbers)) ≡ outcome_of (ps ++ p ∷ said_from [] s)
      by true e =
          let n = leb-true 65535 (seen_of count) e in
          let m = counted_seen ps count numbers c in
          let k = c.most in
          refused_out count numbers s ∙ ap (λ (n : ℕ). refused (suc n)) m ∙ sym (full_outcome ps c.fits p (said_from [] s) (omega arith))
      by false e =
          let n = leb-false 65535 (seen_of count) e in
          let m = counted_seen ps count numbers c in
          taken_line p r (omega arith) follows

  -- a line that is no pack, whatever follows
  dead_line : (held : List ℕ) (d : Sheet) → Dead held → 0 < length held → d ≡ sheet (refused_of count) numbers → outcome_in (feed_of s d) ≡ outcome_of (ps ++ said_from held s)
  dead_line held d dead some e =
      let b = dead_first s held dead some in
      ap (λ (v : Sheet). outcome_in (feed_of s v)) e
      ∙ refused_out count numbers s
      ∙ ap (λ (n : ℕ). refused (suc n)) (counted_seen ps count numbers c)
      ∙ sym (ap (λ (qs : List Said). outcome_of (ps ++ qs)) b.same ∙ bad_outcome ps c.fits b.rest c.most)

-- the input ends
at_end : (held : List ℕ) (ps : List Said) (count : Count) (line : ℕ) (numbers : List ℕ) → Counted ps count numbers → Held held line
    → outcome_in (within count line numbers) ≡ outcome_of (ps ++ said_from held [])
unfolding outcome_in said_from lines_from rest_from when◌then◌else◌
at_end [] ps count line numbers c h =
    let e : eqb line 1 ≡ true = eq-eqb line 1 h.number in
    rw (e, append-nil ps) (ap report (counted_report ps count numbers c) ∙ sym (all_outcome ps c.fits c.most))
at_end (b ∷ held) ps count line numbers c h =
    let n = number_some (1 * 16 + value_of b) held (omega arith) in
    let e : eqb line 1 ≡ false = ne_eqb line 1 (λ f. absurd (not_one b held (sym h.number ∙ f))) in
    let z : eqb (suc (length held)) 0 ≡ false = ne_eqb (suc (length held)) 0 (λ f. absurd (omega arith)) in
    rw (e, z) (ap (λ (n : ℕ). refused (suc n)) (counted_seen ps count numbers c) ∙ sym (bad_outcome ps c.fits [] c.most))
  where
    least : (n : ℕ) (s : List ℕ) → n ≤ number_from n s
    least n [] = omega arith
    least n (b ∷ s) = let k = least (n * 16 + value_of b) s in omega arith

    not_one : (b : ℕ) (s : List ℕ) → number_from 1 (b ∷ s) ≡ 1 → ⊥
    not_one b s e = let k = least (1 * 16 + value_of b) s in absurd (omega arith)

-- one byte: a line feed, a digit, or what refuses its line
fed_byte : (b : ℕ) (s held : List ℕ) (ps : List Said) (count : Count) (line : ℕ) (numbers : List ℕ) → (c : Counted ps count numbers) → Held held line
    → Follows s ps count numbers c
    → (Held (held ++ (b ∷ [])) (line * 16 + value_of b) → outcome_in (feed_of s (within count (line * 16 + value_of b) numbers)) ≡ outcome_of (ps ++ said_from (held ++ (b ∷ [])) s))
    → outcome_in (feed_of s (step_of b (within count line numbers))) ≡ outcome_of (ps ++ said_from held (b ∷ s))
unfolding said_from lines_from rest_from when◌then◌else◌
fed_byte b s held ps count line numbers c h follows goes_on = by (eqb b 10) refl
  where
    some : 0 < line
    some = held_some held line h

    grows : 0 < length (held ++ (b ∷ []))
    grows = rw (length-append held (b ∷ [])) (omega arith)

    by : (t : Bool) → eqb b 10 ≡ t
        → outcome_in (feed_of s (step_of b (within count line numbers)))
        ≡ outcome_of (ps ++ (map line_says (when t then held ∷ lines_from [] s else lines_from (held ++ (b ∷ [])) s) ++ (when eqb (length (when t then rest_from [] s else rest_from (held ++ (b ∷ [])) s)) 0 then [] else None ∷ [])))
    by true e =
        let q : b ≡ 10 = eqb-true b 10 e in
        let says = says_same held line h in
        ap (λ (k : ℕ). outcome_in (feed_of s (step_of k (within count line numbers)))) q
        ∙ ap (λ (d : Sheet). outcome_in (feed_of s d)) (step_line count numbers line some)
        ∙ counted_line s ps count numbers c (said_of line) (said_range line) follows
        ∙ ap (λ (p : Said). outcome_of (ps ++ p ∷ said_from [] s)) says
    by false e = digit (ltb 15 (value_of b)) refl
      where
        digit : (t : Bool) → ltb 15 (value_of b) ≡ t → outcome_in (feed_of s (step_of b (within count line numbers))) ≡ outcome_of (ps ++ said_from (held ++ (b ∷ [])) s)
        digit true f = let v = ltb-true 15 (value_of b) f in dead_line s ps count numbers c (held ++ (b ∷ [])) _ (dead_byte held b v) grows (step_bad count numbers b line some e v)
        digit false f = let v = ltb-false 15 (value_of b) f in six (leb 0x1000000 line) refl
          where
            six : (t : Bool) → leb 0x1000000 line ≡ t → outcome_in (feed_of s (step_of b (within count line numbers))) ≡ outcome_of (ps ++ said_from (held ++ (b ∷ [])) s)
            six true g =
                let v : value_of b < 16 = omega (arith, ltb-false 15 (value_of b) f) in
                let k = held_six held line h (leb-true 0x1000000 line g) in
                let l : 7 ≤ length (held ++ (b ∷ [])) = rw (length-append held (b ∷ [])) (omega arith) in
                dead_line s ps count numbers c (held ++ (b ∷ [])) _ (dead_long (held ++ (b ∷ [])) l) grows (step_seventh count numbers b line some e v (leb-true 0x1000000 line g))
            six false g =
                let v : value_of b < 16 = omega (arith, ltb-false 15 (value_of b) f) in
                let few : line < 0x1000000 = leb-false 0x1000000 line g in
                ap (λ (d : Sheet). outcome_in (feed_of s d)) (step_digit count numbers b line v some few) ∙ goes_on (held_more held line b h v few)

-- byte after byte
pub fed : (s held : List ℕ) (ps : List Said) (count : Count) (line : ℕ) (numbers : List ℕ) → Counted ps count numbers → Held held line
    → outcome_in (feed_of s (within count line numbers)) ≡ outcome_of (ps ++ said_from held s)
unfolding feed_of
fed [] held ps count line numbers c h = at_end held ps count line numbers c h
fed (b ∷ s) held ps count line numbers c h =
    fed_byte b s held ps count line numbers c h (λ qs next after d. fed s [] qs next 1 after d held_none) (λ k. fed s (held ++ (b ∷ [])) ps count (line * 16 + value_of b) numbers c k)

-- an input from its first byte on
fed_input : (input : List ℕ) → outcome_in (feed_of input start_sheet) ≡ outcome_of (said_in input)
unfolding start_sheet start_of between_of said_in said_from
fed_input input = fed input [] [] no_packs 1 _ counted_none held_none

in_one_lem : (pieces : List (List ℕ)) (d : Sheet) → taken_all pieces d ≡ feed_of (in_one pieces) d
unfolding taken_all in_one feed_of
in_one_lem [] d = refl
in_one_lem (piece ∷ pieces) d = in_one_lem pieces (feed_of piece d) ∙ sym (feed_append piece (in_one pieces) d)

stays : (s : List ℕ) (d : Sheet) → is_refused d.reader ≡ true → feed_of s d ≡ d
unfolding feed_of step_of when◌then◌else◌
stays [] d e = refl
stays (b ∷ s) d e = rw e (stays s d e)

pub pieces : Pieces
pieces = record {
  ends = λ pieces. ap outcome_in (in_one_lem pieces start_sheet) ∙ fed_input (in_one pieces);
  stops = λ pieces more e.
      let one : feed_of (in_one pieces ++ more) start_sheet ≡ taken_all pieces start_sheet =
      feed_append (in_one pieces) more start_sheet ∙ ap (feed_of more) (sym (in_one_lem pieces start_sheet)) ∙ stays more (taken_all pieces start_sheet) e in
      ap outcome_in (sym one) ∙ fed_input (in_one pieces ++ more);
}
