-- A line that is no pack whatever follows: one with a byte that is no digit, and one of over six.
-- Assumes nothing.
use Prim.Native.Nat.{ℕ, suc, ◌*◌, ◌≤◌, ◌<◌}
use mathlib.Core.Path.{◌≡◌, refl, sym, ap, ◌∙◌}
use mathlib.Core.Bool.{Bool, true, false}
use mathlib.Core.List.{List, [], ◌∷◌, ◌++◌, map, append_assoc, append-nil}
use native.Mathlib.Omega.{arith}
use lib.ListN.{length, length-append}
use lib.Dec.{ltb, eqb}
use borrow.Author.Tests.{ltb-false, eqb-true, ne_eqb}
use Rattle.protocol.specs.Pick.{when◌then◌else◌}
use Rattle.hexadecimal.specs.Hex.{value_of, byte_of, bytes_of}
use Rattle.hexadecimal.specs.Line.{line_bytes}
use Rattle.lines.specs.Input.{lines_from, rest_from}
use Rattle.std.specs.Prelude.{None}
use Rattle.packs.specs.Said.{Said}
use Rattle.packs.proofs.Lies.{pair_digits}
use Rattle.count_promises.specs.Packs.{line_says, bytes_say}
use Rattle.count_promises.proofs.Says.{AllDigits, nothing_says, says_long}

-- where pairs of digits make up a line, each byte of it is one
bytes_all : (l : List ℕ) → length (bytes_of l) * 2 ≡ length l → AllDigits l
unfolding bytes_of when◌then◌else◌
bytes_all [] e = tt
bytes_all (a ∷ []) e = absurd (omega arith)
bytes_all (a ∷ b ∷ s) e = by (λ f. bytes_all s f) (ltb 255 (byte_of a b)) refl e
  where
    by : (length (bytes_of s) * 2 ≡ length s → AllDigits s) → (t : Bool) → ltb 255 (byte_of a b) ≡ t
        → length (when t then [] else byte_of a b ∷ bytes_of s) * 2 ≡ suc (suc (length s)) → AllDigits (a ∷ b ∷ s)
    by rest true f e = absurd (omega arith)
    by rest false f e = let p = pair_digits a b (ltb-false 255 (byte_of a b) f) in (p.0, (p.1, rest (omega arith)))

digit_at : (s t : List ℕ) (b : ℕ) → AllDigits (s ++ (b ∷ t)) → value_of b < 16
digit_at [] t b d = d.0
digit_at (c ∷ s) t b d = digit_at s t b d.1

-- what is no hexadecimal says nothing
no_digits : (l : List ℕ) → (AllDigits l → ⊥) → line_says l ≡ None
unfolding line_says line_bytes when◌then◌else◌
no_digits l none = by (eqb (length (bytes_of l) * 2) (length l)) refl
  where
    by : (t : Bool) → eqb (length (bytes_of l) * 2) (length l) ≡ t → bytes_say (when t then bytes_of l else []) ≡ None
    by true e = absurd (none (bytes_all l (eqb-true _ _ e)))
    by false e = nothing_says

too_long : (l : List ℕ) → 7 ≤ length l → line_says l ≡ None
unfolding line_says line_bytes when◌then◌else◌
too_long l h = by (eqb (length (bytes_of l) * 2) (length l)) refl
  where
    by : (t : Bool) → eqb (length (bytes_of l) * 2) (length l) ≡ t → bytes_say (when t then bytes_of l else []) ≡ None
    by true e = let f : length (bytes_of l) * 2 ≡ length l = eqb-true _ _ e in says_long (bytes_of l) (omega arith)
    by false e = nothing_says

-- no pack, whatever follows
abbrev pub Dead : List ℕ → Type 0
Dead held = (t : List ℕ) → line_says (held ++ t) ≡ None

pub dead_byte : (held : List ℕ) (b : ℕ) → 16 ≤ value_of b → Dead (held ++ (b ∷ []))
dead_byte held b h t = rw (append_assoc held (b ∷ []) t) (no_digits (held ++ (b ∷ t)) (λ d. let v = digit_at held t b d in absurd (omega arith)))

pub dead_long : (held : List ℕ) → 7 ≤ length held → Dead held
dead_long held h t = too_long (held ++ t) (omega (arith, length-append held t))

-- what the lines of an input say, where `held` is what came of its first line before
unfoldable pub said_from : List ℕ → List ℕ → List Said
said_from held s = map line_says (lines_from held s) ++ (when eqb (length (rest_from held s)) 0 then [] else None ∷ [])

pub record BeginsBad (ps : List Said) : Type 0 where
  pub rest : List Said
  pub same : ps ≡ None ∷ rest

-- so the first line of such an input is no pack
pub dead_first : (s held : List ℕ) → Dead held → 0 < length held → BeginsBad (said_from held s)
unfolding said_from lines_from rest_from when◌then◌else◌
dead_first [] [] d h = absurd (omega arith)
dead_first [] (b ∷ held) d h = record { rest = []; same = rw (ne_eqb (suc (length held)) 0 (λ e. absurd (omega arith))) refl }
dead_first (b ∷ s) held d h = by (dead_first s (held ++ (b ∷ [])) (λ t. rw (append_assoc held (b ∷ []) t) (d (b ∷ t))) (omega (arith, length-append held (b ∷ [])))) (eqb b 10)
  where
    by : BeginsBad (said_from (held ++ (b ∷ [])) s) → (t : Bool)
        → BeginsBad (map line_says (when t then held ∷ lines_from [] s else lines_from (held ++ (b ∷ [])) s) ++ (when eqb (length (when t then rest_from [] s else rest_from (held ++ (b ∷ [])) s)) 0 then [] else None ∷ []))
    by ih true = record { rest = said_from [] s; same = ap (λ (x : Said). x ∷ said_from [] s) (ap line_says (sym (append-nil held)) ∙ d []) }
    by ih false = ih
