-- Chunk by chunk, the program stands where these pieces lead.
-- Assumes nothing.
use Prim.Native.Nat.{ℕ, ◌+◌, ◌<◌}
use mathlib.Core.Path.{◌≡◌, refl, sym, ap, ◌∙◌, subst}
use mathlib.Core.List.{List, [], ◌∷◌, ◌++◌}
use native.Mathlib.Omega.{arith}
use lib.ListN.{length, take, length-append, length-take}
use Rattle.std.specs.Prelude.{Result, Ok, Err}
use Rattle.chunks.specs.Brings.{Brings}
use Rattle.chunks.specs.declared.Brought.{Brought}
use Rattle.chunks.specs.declared.Brought.TheVariants as brought
use Rattle.packs.specs.declared.Sheet.{Sheet}
use Rattle.packs.specs.Count.{start_sheet, feed_of}
use Rattle.count_promises.specs.Pieces.{taken_all}
use Rattle.count.specs.declared.Ending.{Ending}
use Rattle.count.specs.declared.Ending.TheVariants as ending
use Rattle.count.specs.Ending.{led_by, sheet_by, Filled, How, Stopped}

-- the program at the head of its loop, after so many chunks
pub record Going (n : ℕ) (d : Sheet) : Type 0 where
  pub pieces : List (List ℕ)
  pub filled : Filled pieces
  pub counted : length pieces ≡ n
  pub taken : d ≡ taken_all pieces start_sheet

pub going_first : (d : Sheet) → d ≡ start_sheet → Going 0 d
unfolding taken_all
going_first d e = record { pieces = []; filled = tt; counted = refl; taken = e }

one_more : (pieces : List (List ℕ)) (piece : List ℕ) (d : Sheet) → taken_all (pieces ++ (piece ∷ [])) d ≡ feed_of piece (taken_all pieces d)
unfolding taken_all
one_more [] piece d = refl
one_more (p ∷ pieces) piece d = one_more pieces piece (feed_of p d)

fill_more : (pieces : List (List ℕ)) (piece : List ℕ) → Filled pieces → 0 < length piece → Filled (pieces ++ (piece ∷ []))
fill_more [] piece f some = (some, tt)
fill_more (p ∷ pieces) piece f some = (f.0, fill_more pieces piece f.1 some)

going_on : (n : ℕ) (d v : Sheet) (piece : List ℕ) → 0 < length piece → Going n d → v ≡ feed_of piece d → Going (n + 1) v
going_on n d v piece some g e = record {
  pieces = g.pieces ++ (piece ∷ []);
  filled = fill_more g.pieces piece g.filled some;
  counted = rw (length-append g.pieces (piece ∷ [])) (omega (arith, g.counted));
  taken = e ∙ ap (feed_of piece) g.taken ∙ sym (one_more g.pieces piece start_sheet);
}

pub stopped : (ending : Ending) (n left : ℕ) (d : Sheet) → n + left ≡ 18446744073709551615 → Going n d → How ending left d
    → Stopped record { ending = ending; left = left } d
stopped ending n left d all g h = record { pieces = g.pieces; filled = g.filled; counted = omega (arith, g.counted); taken = g.taken; how = h }

-- the bytes that a read brought are one more piece
pub led_on : (n : ℕ) (b : Brought) (chunk : List ℕ) (d v : Sheet) (x : Result (Unit {0}) Ending) → Brings b chunk → Going n d → x ≡ Ok tt
    → (x ≡ led_by b) × (v ≡ sheet_by b chunk d) → Going (n + 1) v
unfolding led_by sheet_by
led_on n (brought.Bytes k) chunk d v x brings g e by =
    let some : 0 < length (take k chunk) = rw (length-take k chunk) (omega (arith, brings.0, brings.1)) in
    going_on n d v (take k chunk) some g by.1
led_on n brought.End chunk d v x brings g e by = let q : Ok tt ≡ Err ending.Whole = sym e ∙ by.0 in absurd (cc)
led_on n brought.Failed chunk d v x brings g e by = let q : Ok tt ≡ Err ending.Failed = sym e ∙ by.0 in absurd (cc)

-- or there is nothing more to count
pub led_over : (n left : ℕ) (b : Brought) (chunk : List ℕ) (d v : Sheet) (x : Result (Unit {0}) Ending) (e : Ending) → n + left ≡ 18446744073709551615 → Going n d
    → x ≡ Err e → (x ≡ led_by b) × (v ≡ sheet_by b chunk d) → Stopped record { ending = e; left = left } v
unfolding led_by sheet_by
led_over n left (brought.Bytes k) chunk d v x e all g q by = let p : Ok tt ≡ Err e = sym by.0 ∙ q in absurd (cc)
led_over n left brought.End chunk d v x e all g q by =
    let p : Err ending.Whole ≡ Err e = sym by.0 ∙ q in
    let own : ending.Whole ≡ e = cc in
    subst (λ (y : Ending). Stopped record { ending = y; left = left } v) own (rw by.1 (stopped ending.Whole n left d all g tt))
led_over n left brought.Failed chunk d v x e all g q by =
    let p : Err ending.Failed ≡ Err e = sym by.0 ∙ q in
    let own : ending.Failed ≡ e = cc in
    subst (λ (y : Ending). Stopped record { ending = y; left = left } v) own (rw by.1 (stopped ending.Failed n left d all g tt))
