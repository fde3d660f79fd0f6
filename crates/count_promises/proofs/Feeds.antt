-- Lines with no line feed in them: what comes before one, and what an input says that begins with such a line.
-- Assumes nothing.
use Prim.Native.Nat.{ℕ, suc, ◌+◌, ◌/◌, ◌%◌, ◌<◌}
use mathlib.Core.Path.{◌≡◌, refl, ap, subst}
use mathlib.Core.Bool.{not}
use mathlib.Core.List.{List, [], ◌∷◌, ◌++◌}
use native.Mathlib.Omega.{arith}
use lib.ListN.{length, drop, get_or, length-append}
use lib.Dec.{eqb, T}
use borrow.Author.Tests.{ne_eqb}
use Rattle.protocol.specs.Pick.{when◌then◌else◌}
use Rattle.smbus_pec.proofs.Every.{below}
use Rattle.hexadecimal.specs.Digits.{sixteen, in_digits}
use Rattle.lines.specs.Lines.{before_feed}
use Rattle.lines.proofs.Any.{lines_whole}
use Rattle.count_promises.specs.Packs.{line_says, said_in}
use Rattle.count_promises.specs.Lines.{NoFeed}

-- bytes with no line feed are what comes before one
pub before : (s t : List ℕ) → NoFeed s → before_feed (s ++ (10 ∷ t)) ≡ s
unfolding before_feed when◌then◌else◌
before [] t n = refl
before (b ∷ s) t n = rw (ne_eqb b 10 n.0) (ap (λ (u : List ℕ). b ∷ u) (before s t n.1))

-- the digits of bytes have none
abbrev Small : List ℕ → Type 0
Small [] = Unit {0}
Small (b ∷ s) = (b < 256) × Small s

digit_no_feed : (k : ℕ) → k < 16 → get_or sixteen k 0 ≡ 10 → ⊥
digit_no_feed k h e = subst (λ (n : ℕ). T (not (eqb n 10))) e (below (λ k. not (eqb (get_or sixteen k 0) 10)) 16 tt k h)

pub digits_no_feed : (s : List ℕ) → Small s → NoFeed (in_digits s)
unfolding in_digits
digits_no_feed [] h = tt
digits_no_feed (b ∷ s) h =
    let l = h.0 in
    (digit_no_feed (b / 16) (omega arith), (digit_no_feed (b % 16) (omega arith), digits_no_feed s h.1))

-- a line in front of an input
pub said_line : (l t : List ℕ) → NoFeed l → said_in (l ++ (10 ∷ t)) ≡ line_says l ∷ said_in t
unfolding said_in
said_line l t n =
    let e = before l t n in
    let k : length (l ++ (10 ∷ t)) ≡ length l + suc (length t) = length-append l (10 ∷ t) in
    let w = lines_whole (l ++ (10 ∷ t)) [] (rw e (omega arith)) in
    let d : drop (suc (length (before_feed (l ++ (10 ∷ t))))) (l ++ (10 ∷ t)) ≡ t = rw e (drop_next l t) in
    rw (w.0, w.1, d, e) refl
  where
    drop_next : (l t : List ℕ) → drop (suc (length l)) (l ++ (10 ∷ t)) ≡ t
    drop_next [] t = refl
    drop_next (b ∷ l) t = drop_next l t
