-- Where a search for the line feed ends, and what is put after what is held.
-- Assumes nothing.
use Prim.Native.Nat.{ℕ, suc, ◌+◌, ◌≤◌}
use mathlib.Core.Path.{◌≡◌, refl, ap}
use mathlib.Core.Bool.{Bool, true, false, not, cond}
use mathlib.Core.List.{List, [], ◌∷◌}
use native.Mathlib.Omega.{arith}
use lib.ListN.{length, take, drop, length-drop}
use lib.Seq.{take_all}
use lib.Dec.{eqb, ltb}
use borrow.Author.Tests.{ltb-false}
use Rattle.std.specs.Prelude.{◌==◌, Some, None, position, unwrap_or}
use Rattle.std.specs.List.{prefix_len}
use Rattle.protocol.specs.Pick.{when◌then◌else◌}
use Rattle.protocol.specs.Bytes.{stored_at}
use Rattle.lines.specs.Lines.{before_feed, kept_of}
use Rattle.lines.specs.declared.Took.{Took}
use Rattle.lines.specs.declared.Took.TheVariants as took

-- the place of the first line feed, or the end, is where the bytes before it end
before_place : (s : List ℕ) → (prefix_len (λ b. not (eqb b 10)) s ≡ length (before_feed s)) × (length (before_feed s) ≤ length s)
unfolding before_feed when◌then◌else◌
before_place [] = (refl, omega arith)
before_place (b ∷ s) = by (before_place s) (eqb b 10)
  where
    by : (prefix_len (λ b. not (eqb b 10)) s ≡ length (before_feed s)) × (length (before_feed s) ≤ length s)
        → (t : Bool) → (cond (not t) (1 + prefix_len (λ b. not (eqb b 10)) s) 0 ≡ length (when t then [] else b ∷ before_feed s)) × (length (when t then [] else b ∷ before_feed s) ≤ suc (length s))
    by rest true = (refl, omega arith)
    by rest false = (omega (arith, rest.0), omega (arith, rest.1))

pub run_lem : (s : List ℕ) → unwrap_or (position (λ b. b == 10) s) (length s) ≡ length (before_feed s)
run_lem s = rw (before_place s).0 (by (ltb (length (before_feed s)) (length s)) refl)
  where
    by : (t : Bool) → ltb (length (before_feed s)) (length s) ≡ t → unwrap_or (cond t (Some (length (before_feed s))) None) (length s) ≡ length (before_feed s)
    by true e = refl
    by false e = omega (arith, ltb-false (length (before_feed s)) (length s) e, (before_place s).1)

-- the bytes before a line feed are the first ones
pub take_before : (s : List ℕ) → take (length (before_feed s)) s ≡ before_feed s
unfolding before_feed when◌then◌else◌
take_before [] = refl
take_before (b ∷ s) = by (take_before s) (eqb b 10)
  where
    by : take (length (before_feed s)) s ≡ before_feed s → (t : Bool) → take (length (when t then [] else b ∷ before_feed s)) (b ∷ s) ≡ (when t then [] else b ∷ before_feed s)
    by rest true = refl
    by rest false = ap (λ (l : List ℕ). b ∷ l) rest

-- all that follows a place
pub take_length_drop : (at : ℕ) (s : List ℕ) → take (length s) (drop at s) ≡ drop at s
take_length_drop at s = take_all (length s) (drop at s) (rw length-drop (omega arith))

-- what does not lie whole in its chunk is put after what is held
pub not_here : (t : Took) (line held : List ℕ) (have : ℕ) → ((n next : ℕ) → t ≡ took.Here n next → ⊥) → stored_at have (length line) line held ≡ kept_of t line held have
unfolding kept_of
not_here (took.Here n next) line held have k = absurd (k n next refl)
not_here (took.Held n next) line held have k = refl
not_here (took.More n) line held have k = refl
not_here took.Long line held have k = refl
