-- Of the bytes of an input: the lines of packs say these packs, and what is cut off at the first line that is none says nothing.
-- Assumes nothing.
use Prim.Native.Nat.{ℕ, zero, suc, ◌/◌, ◌%◌, ◌≤◌, ◌<◌}
use mathlib.Core.Path.{◌≡◌, refl, sym, ap, ◌∙◌, subst}
use mathlib.Core.Bool.{Bool, true, false}
use mathlib.Core.List.{List, [], ◌∷◌, ◌++◌, map, append_assoc, append-nil}
use mathlib.Core.Logic.{◌⊎◌, inl, inr, ⊎_elim}
use native.Mathlib.Omega.{arith}
use lib.ListN.{length, take, drop, length-append, length-drop, take-append-drop}
use lib.Seq.{length-take-le}
use lib.Dec.{leb, eqb}
use borrow.Author.Tests.{leb-true, leb-false, ne_eqb}
use Rattle.protocol.specs.Pick.{when◌then◌else◌}
use Rattle.lines.specs.Input.{lines_from, rest_from}
use Rattle.lines.specs.Lines.{before_feed}
use Rattle.std.specs.Prelude.{Some, None}
use Rattle.packs.specs.Said.{Said}
use Rattle.packs.specs.declared.Pack.TheVariants as pack
use Rattle.report.specs.Report.{report, refused}
use Rattle.count_promises.specs.Packs.{line_says, said_in, report_of, outcome_of}
use Rattle.count_promises.specs.Lines.{file_of, NoFeed, NoFeeds, Fits, AllFit, line_of, Accepted, Refused, Files}
use Rattle.count_promises.proofs.Lines.{lines, whole}
use Rattle.count_promises.proofs.Outcomes.{all_outcome, bad_outcome, full_outcome}
use Rattle.count_promises.proofs.Feeds.{before, digits_no_feed, said_line}

-- the line of a pack says it, and has no line feed
line_says_lem : (p : Said) → Fits p → line_says (line_of p) ≡ p
line_says_lem (Some (pack.Read cycles)) f = lines.read cycles (omega arith)
line_says_lem (Some (pack.Unread answer)) f = lines.unread answer f.0 (let h = f.1 in omega arith)
line_says_lem None f = absurd f

line_no_feed : (p : Said) → Fits p → NoFeed (line_of p)
line_no_feed (Some (pack.Read cycles)) f = digits_no_feed (0 ∷ cycles % 256 ∷ cycles / 256 ∷ []) (omega arith, (omega arith, (omega arith, tt)))
line_no_feed (Some (pack.Unread answer)) f = let h = f.1 in digits_no_feed (1 ∷ answer ∷ []) (omega arith, (omega arith, tt))
line_no_feed None f = absurd f

-- so a file of packs says these packs
pub said_file : (ps : List Said) (rest : List ℕ) → AllFit ps → said_in (file_of (map line_of ps) ++ rest) ≡ ps ++ said_in rest
unfolding file_of
said_file [] rest h = refl
said_file (p ∷ ps) rest h =
    ap said_in (append_assoc (line_of p) (10 ∷ file_of (map line_of ps)) rest)
    ∙ said_line (line_of p) (file_of (map line_of ps) ++ rest) (line_no_feed p h.0)
    ∙ (λ i. line_says_lem p h.0 i ∷ said_file ps rest h.1 i)

said_none : said_in [] ≡ []
unfolding said_in lines_from rest_from when◌then◌else◌
said_none = refl

accepted : (input : List ℕ) (a : Accepted input) → outcome_of (said_in input) ≡ report (report_of a.packs)
accepted input a =
    let says : said_in input ≡ a.packs =
    ap said_in (a.text ∙ sym (append-nil (file_of (map line_of a.packs)))) ∙ said_file a.packs [] a.fit ∙ ap (λ (t : List Said). a.packs ++ t) said_none ∙ append-nil a.packs in
    ap outcome_of says ∙ all_outcome a.packs a.fit a.most

-- a line that says a pack is its line
pack_line : (line : List ℕ) (p : Said) → line_says line ≡ p → (p ≡ None) ⊎ (Fits p × (line ≡ line_of p))
pack_line line (Some (pack.Read cycles)) e = let o = lines.only_read line cycles e in inr (let h = o.0 in omega arith, o.1)
pack_line line (Some (pack.Unread answer)) e = let o = lines.only_unread line answer e in inr ((o.0, let h = o.1 in omega arith), o.2)
pack_line line None e = inl refl

-- the line of a pack comes first
record Begins (rest : List ℕ) : Type 0 where
  pub p : Said
  pub after : List ℕ
  pub fit : Fits p
  pub same : rest ≡ line_of p ++ (10 ∷ after)

-- what is left, if anything is, says something of its first line, if only that it is no pack
record First (rest : List ℕ) : Type 0 where
  pub says : Said
  pub more : List Said
  pub same : said_in rest ≡ says ∷ more
  pub there : (says ≡ None) ⊎ Begins rest

first : (rest : List ℕ) → 0 < length rest → First rest
unfolding said_in file_of when◌then◌else◌
first rest some = by (lines_from [] rest) (rest_from [] rest) refl refl (whole.made_up rest)
  where
    by : (ls : List (List ℕ)) (r : List ℕ) → lines_from [] rest ≡ ls → rest_from [] rest ≡ r → file_of (lines_from [] rest) ++ rest_from [] rest ≡ rest → First rest
    by [] r e f w =
        let q : rest_from [] rest ≡ rest = sym (ap (λ (t : List (List ℕ)). file_of t ++ rest_from [] rest) e) ∙ w in
        let z : eqb (length (rest_from [] rest)) 0 ≡ false = ne_eqb (length (rest_from [] rest)) 0 (λ n. let m : length (rest_from [] rest) ≡ length rest = ap length q in absurd (omega arith)) in
        record { says = None; more = []; same = rw (e, z) refl; there = inl refl }
    by (l ∷ ls) r e f w =
        let text : rest ≡ l ++ (10 ∷ (file_of ls ++ rest_from [] rest)) =
        sym w ∙ ap (λ (t : List (List ℕ)). file_of t ++ rest_from [] rest) e ∙ append_assoc l (10 ∷ file_of ls) (rest_from [] rest) in
        record {
          says = line_says l;
          more = map line_says ls ++ (when eqb (length (rest_from [] rest)) 0 then [] else None ∷ []);
          same = ap (λ (t : List (List ℕ)). map line_says t ++ (when eqb (length (rest_from [] rest)) 0 then [] else None ∷ [])) e;
          there = ⊎_elim (λ n. inl n)
              (λ o. inr record { p = line_says l; after = file_of ls ++ rest_from [] rest; fit = o.0; same = text ∙ ap (λ (k : List ℕ). k ++ (10 ∷ (file_of ls ++ rest_from [] rest))) o.1 })
              (pack_line l (line_says l) refl);
        }

refused_file : (input : List ℕ) (a : Refused input) → outcome_of (said_in input) ≡ refused (suc (length a.packs))
refused_file input a =
    let says : said_in input ≡ a.packs ++ said_in a.rest = ap said_in a.text ∙ said_file a.packs a.rest a.fit in
    let f = first a.rest a.more in
    let head : said_in input ≡ a.packs ++ (f.says ∷ f.more) = says ∙ ap (λ (t : List Said). a.packs ++ t) f.same in
    ⊎_elim (λ full. ap outcome_of head ∙ full_outcome a.packs a.fit f.says f.more full)
    (λ none.
    ⊎_elim (λ n. ap outcome_of (head ∙ ap (λ (p : Said). a.packs ++ (p ∷ f.more)) n) ∙ bad_outcome a.packs a.fit f.more a.most)
    (λ b. absurd (none b.p b.after b.fit b.same))
    f.there)
    a.bad

-- an input up to its first line that is no pack
record Parsed (input : List ℕ) : Type 0 where
  pub packs : List Said
  pub fit : AllFit packs
  pub rest : List ℕ
  pub text : input ≡ file_of (map line_of packs) ++ rest
  pub end : (rest ≡ []) ⊎ ((0 < length rest) × ((p : Said) (after : List ℕ) → Fits p → rest ≡ line_of p ++ (10 ∷ after) → ⊥))

feed_inside : (s t : List ℕ) → NoFeed (s ++ (10 ∷ t)) → ⊥
feed_inside [] t n = n.0 refl
feed_inside (b ∷ s) t n = feed_inside s t n.1

cut_short : (r : List ℕ) → NoFeed r → Parsed r
unfolding file_of
cut_short [] n = record { packs = []; fit = tt; rest = []; text = refl; end = inl refl }
cut_short (b ∷ r) n =
    record { packs = []; fit = tt; rest = b ∷ r; text = refl; end = inr (omega arith, λ p after f e. feed_inside (line_of p) after (subst NoFeed e n)) }

-- one more pack in front, or a line that is none
one_pack : (p : Said) (line more : List ℕ) → Fits p → line ≡ line_of p → Parsed more → Parsed (line ++ (10 ∷ more))
unfolding file_of
one_pack p line more f e q = record {
  packs = p ∷ q.packs;
  fit = (f, q.fit);
  rest = q.rest;
  text = (λ i. e i ++ (10 ∷ q.text i)) ∙ sym (append_assoc (line_of p) (10 ∷ file_of (map line_of q.packs)) q.rest);
  end = q.end;
}

no_pack : (line more : List ℕ) → NoFeed line → line_says line ≡ None → Parsed (line ++ (10 ∷ more))
unfolding file_of
no_pack line more n e = record {
  packs = [];
  fit = tt;
  rest = line ++ (10 ∷ more);
  text = refl;
  end = inr (
    rw (length-append line (10 ∷ more)) (omega arith),
    λ p after f same.
        let own : line ≡ line_of p = sym (before line more n) ∙ ap before_feed same ∙ before (line_of p) after (line_no_feed p f) in
        subst Fits (sym (line_says_lem p f) ∙ ap line_says (sym own) ∙ e) f,
  );
}

parsed : (ls : List (List ℕ)) (r : List ℕ) → NoFeeds ls → NoFeed r → Parsed (file_of ls ++ r)
unfolding file_of
parsed [] r n m = cut_short r m
parsed (line ∷ ls) r n m = subst Parsed (sym (append_assoc line (10 ∷ file_of ls) r)) (by (pack_line line (line_says line) refl) (parsed ls r n.1 m))
  where
    by : (line_says line ≡ None) ⊎ (Fits (line_says line) × (line ≡ line_of (line_says line))) → Parsed (file_of ls ++ r) → Parsed (line ++ (10 ∷ (file_of ls ++ r)))
    by (inl none) q = no_pack line (file_of ls ++ r) n.0 none
    by (inr o) q = one_pack (line_says line) line (file_of ls ++ r) o.0 o.1 q

-- a file in two parts
file_append : (a b : List Said) → file_of (map line_of (a ++ b)) ≡ file_of (map line_of a) ++ file_of (map line_of b)
unfolding file_of
file_append [] b = refl
file_append (p ∷ a) b =
    ap (λ (t : List ℕ). line_of p ++ (10 ∷ t)) (file_append a b) ∙ sym (append_assoc (line_of p) (10 ∷ file_of (map line_of a)) (file_of (map line_of b)))

fit_front : (n : ℕ) (ps : List Said) → AllFit ps → AllFit (take n ps)
fit_front zero ps h = tt
fit_front (suc n) [] h = tt
fit_front (suc n) (p ∷ ps) h = (h.0, fit_front n ps h.1)

file_some : (ps : List Said) → 0 < length ps → 0 < length (file_of (map line_of ps))
unfolding file_of
file_some [] h = absurd (omega arith)
file_some (p ∷ ps) h = rw (length-append (line_of p) (10 ∷ file_of (map line_of ps))) (omega arith)

-- what comes after 65,535 packs
too_many : (input : List ℕ) (q : Parsed input) → 65535 < length q.packs → Refused input
too_many input q h =
    let ps : List Said = q.packs in
    let front : List Said = take 65535 ps in
    let back : List Said = drop 65535 ps in
    let halves : file_of (map line_of ps) ≡ file_of (map line_of front) ++ file_of (map line_of back) =
    ap (λ (t : List Said). file_of (map line_of t)) (sym (take-append-drop 65535 ps)) ∙ file_append front back in
    let n : length front ≡ 65535 = length-take-le 65535 ps (omega arith) in
    let left : 0 < length back = rw (length-drop 65535 ps) (omega arith) in
    record {
      packs = front;
      fit = fit_front 65535 ps q.fit;
      most = omega (arith, n);
      rest = file_of (map line_of back) ++ q.rest;
      text = q.text ∙ ap (λ (t : List ℕ). t ++ q.rest) halves ∙ append_assoc (file_of (map line_of front)) (file_of (map line_of back)) q.rest;
      more = rw (length-append (file_of (map line_of back)) q.rest) (omega (arith, file_some back left));
      bad = inl n;
    }

every_input : (input : List ℕ) → Accepted input ⊎ Refused input
every_input input = by (subst Parsed (whole.made_up input) (parsed (lines_from [] input) (rest_from [] input) (whole.no_other input).0 (whole.no_other input).1))
  where
    within : (q : Parsed input) → length q.packs ≤ 65535 → (q.rest ≡ []) ⊎ ((0 < length q.rest) × ((p : Said) (after : List ℕ) → Fits p → q.rest ≡ line_of p ++ (10 ∷ after) → ⊥))
        → Accepted input ⊎ Refused input
    within q h (inl none) = inl record { packs = q.packs; fit = q.fit; most = h; text = q.text ∙ ap (λ (t : List ℕ). file_of (map line_of q.packs) ++ t) none ∙ append-nil (file_of (map line_of q.packs)) }
    within q h (inr bad) = inr record { packs = q.packs; fit = q.fit; most = h; rest = q.rest; text = q.text; more = bad.0; bad = inr bad.1 }

    limit : (q : Parsed input) (t : Bool) → leb (length q.packs) 65535 ≡ t → Accepted input ⊎ Refused input
    limit q true e = within q (leb-true (length q.packs) 65535 e) q.end
    limit q false e = inr (too_many input q (leb-false (length q.packs) 65535 e))

    by : Parsed input → Accepted input ⊎ Refused input
    by q = limit q (leb (length q.packs) 65535) refl

pub files : Files
files = record { accepts = accepted; refuses = refused_file; every = every_input }
