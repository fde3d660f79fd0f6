-- A line's digits one after the other, and a line that is taken where it lies: the same sheet.
-- Assumes nothing.
use Prim.Native.Nat.{ℕ, ◌+◌, ◌*◌, ◌<◌}
use mathlib.Core.Path.{◌≡◌, refl, ap, ◌∙◌, subst}
use mathlib.Core.Bool.{false}
use mathlib.Core.List.{List, [], ◌∷◌, ◌++◌}
use native.Mathlib.Omega.{arith}
use lib.Dec.{eqb}
use borrow.Author.Tests.{lt-ltb, le-ltb, le-leb, lt-leb, ne_eqb}
use Rattle.protocol.specs.Pick.{when◌then◌else◌}
use Rattle.hexadecimal.specs.Hex.{value_of}
use Rattle.std.specs.Prelude.{Some}
use Rattle.packs.specs.Said.{Said}
use Rattle.packs.specs.declared.Pack.TheVariants as pack
use Rattle.packs.specs.declared.Count.{Count}
use Rattle.packs.specs.declared.Sheet.{Sheet}
use Rattle.packs.specs.Sheet.{sheet}
use Rattle.packs.specs.Count.{is_refused, said_of, counted_of, digit_of, step_of, feed_of}

-- in a line, after so many packs, with these digits after the 1
abbrev pub within : Count → ℕ → List ℕ → Sheet
within count line numbers = sheet record { count = count; line = line } numbers

-- a line feed is no digit
pub feed_no_digit : (b : ℕ) → value_of b < 16 → eqb b 10 ≡ false
unfolding value_of when◌then◌else◌
feed_no_digit b h = ne_eqb b 10 (λ e. let z : value_of 10 < 16 = subst (λ (k : ℕ). value_of k < 16) e h in absurd (omega (arith, z)))

-- one byte after the other
pub feed_append : (s t : List ℕ) (d : Sheet) → feed_of (s ++ t) d ≡ feed_of t (feed_of s d)
unfolding feed_of
feed_append [] t d = refl
feed_append (b ∷ s) t d = feed_append s t (step_of b d)

module _ (count : Count) (numbers : List ℕ) where
  -- a digit of a line that has fewer than six
  pub step_digit : (b line : ℕ) → value_of b < 16 → 0 < line → line < 0x1000000 → step_of b (within count line numbers) ≡ within count (line * 16 + value_of b) numbers
  unfolding step_of is_refused digit_of when◌then◌else◌
  step_digit b line v some few =
      let z : eqb line 0 ≡ false = ne_eqb line 0 (λ e. absurd (omega arith)) in
      rw (z, feed_no_digit b v, le-ltb 15 (value_of b) (omega arith), lt-leb 0x1000000 line few) refl

  -- a line feed
  pub step_line : (line : ℕ) → 0 < line → step_of 10 (within count line numbers) ≡ counted_of (said_of line) count numbers
  unfolding step_of is_refused when◌then◌else◌
  step_line line some = let z : eqb line 0 ≡ false = ne_eqb line 0 (λ e. absurd (omega arith)) in rw z refl

  pub feed_digit : (b line : ℕ) (t : List ℕ) → value_of b < 16 → 0 < line → line < 0x1000000
      → feed_of (b ∷ t) (within count line numbers) ≡ feed_of t (within count (line * 16 + value_of b) numbers)
  unfolding feed_of
  feed_digit b line t v some few = ap (feed_of t) (step_digit b line v some few)

  pub feed_line : (line : ℕ) (t : List ℕ) → 0 < line → feed_of (10 ∷ t) (within count line numbers) ≡ feed_of t (counted_of (said_of line) count numbers)
  unfolding feed_of
  feed_line line t some = ap (feed_of t) (step_line line some)

  -- 00, two bytes and a line feed
  pub feed_read : (a b c d : ℕ) (t : List ℕ) → value_of a < 16 → value_of b < 16 → value_of c < 16 → value_of d < 16
      → feed_of (48 ∷ 48 ∷ a ∷ b ∷ c ∷ d ∷ 10 ∷ t) (within count 1 numbers)
      ≡ feed_of t (counted_of (Some (pack.Read ((value_of c * 16 + value_of d) * 256 + (value_of a * 16 + value_of b)))) count numbers)
  unfolding value_of said_of when◌then◌else◌
  feed_read a b c d t ha hb hc hd =
      let line : ℕ = (((256 * 16 + value_of a) * 16 + value_of b) * 16 + value_of c) * 16 + value_of d in
      let says : said_of line ≡ Some (pack.Read ((value_of c * 16 + value_of d) * 256 + (value_of a * 16 + value_of b))) =
      rw (le-leb 0x1000000 line (omega arith), lt-ltb line 0x1010000 (omega arith)) (ap Some (ap pack.Read (omega arith))) in
      feed_digit 48 1 _ (omega arith) (omega arith) (omega arith)
      ∙ feed_digit 48 16 _ (omega arith) (omega arith) (omega arith)
      ∙ feed_digit a 256 _ ha (omega arith) (omega arith)
      ∙ feed_digit b _ _ hb (omega arith) (omega arith)
      ∙ feed_digit c _ _ hc (omega arith) (omega arith)
      ∙ feed_digit d _ _ hd (omega arith) (omega arith)
      ∙ feed_line line t (omega arith)
      ∙ ap (λ (s : Said). feed_of t (counted_of s count numbers)) says

  -- 01, a byte that is not 0 and a line feed
  pub feed_unread : (a b : ℕ) (t : List ℕ) → value_of a < 16 → value_of b < 16 → 0 < value_of a * 16 + value_of b
      → feed_of (48 ∷ 49 ∷ a ∷ b ∷ 10 ∷ t) (within count 1 numbers) ≡ feed_of t (counted_of (Some (pack.Unread (value_of a * 16 + value_of b))) count numbers)
  unfolding value_of said_of when◌then◌else◌
  feed_unread a b t ha hb some =
      let line : ℕ = (257 * 16 + value_of a) * 16 + value_of b in
      let says : said_of line ≡ Some (pack.Unread (value_of a * 16 + value_of b)) =
      rw (lt-leb 0x1000000 line (omega arith), lt-ltb 0x10100 line (omega arith), lt-ltb line 0x10200 (omega arith)) (ap Some (ap pack.Unread (omega arith))) in
      feed_digit 48 1 _ (omega arith) (omega arith) (omega arith)
      ∙ feed_digit 49 16 _ (omega arith) (omega arith) (omega arith)
      ∙ feed_digit a 257 _ ha (omega arith) (omega arith)
      ∙ feed_digit b _ _ hb (omega arith) (omega arith)
      ∙ feed_line line t (omega arith)
      ∙ ap (λ (s : Said). feed_of t (counted_of s count numbers)) says
