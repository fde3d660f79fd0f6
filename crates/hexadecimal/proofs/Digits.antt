-- The digits of the definitions are the sixteen.
-- Assumes nothing.
use Prim.Native.Nat.{ℕ, zero, suc, ◌*◌, ◌/◌, ◌%◌, ◌<◌}
use mathlib.Core.Path.{◌≡◌, refl, sym, ap, ◌∙◌}
use mathlib.Core.Bool.{Bool, true, false}
use mathlib.Core.List.{List, [], ◌∷◌}
use mathlib.Core.Logic.{◌⊎◌, inl, inr}
use native.Mathlib.Omega.{arith}
use lib.ListN.{length, get_or}
use lib.Dec.{eqb}
use borrow.Author.Tests.{eq-eqb, eqb-true}
use Rattle.protocol.specs.Pick.{when◌then◌else◌}
use Rattle.hexadecimal.specs.Hex.{bytes_of, digit_of, hex_of}
use Rattle.hexadecimal.specs.BothWays.{AllBytes}
use Rattle.hexadecimal.specs.Line.{line_bytes}
use Rattle.hexadecimal.specs.Digits.{sixteen, in_digits, Hexadecimal}
use Rattle.hexadecimal.proofs.Laws.{length_hex}
use Rattle.hexadecimal.proofs.Inverse.{bytes_hex, hex_bytes, bytes_small}

digit_row : (v : ℕ) → v < 16 → digit_of v ≡ get_or sixteen v 0
unfolding digit_of when◌then◌else◌
digit_row zero h = refl
digit_row (suc zero) h = refl
digit_row (suc (suc zero)) h = refl
digit_row (suc (suc (suc zero))) h = refl
digit_row (suc (suc (suc (suc zero)))) h = refl
digit_row (suc (suc (suc (suc (suc zero))))) h = refl
digit_row (suc (suc (suc (suc (suc (suc zero)))))) h = refl
digit_row (suc (suc (suc (suc (suc (suc (suc zero))))))) h = refl
digit_row (suc (suc (suc (suc (suc (suc (suc (suc zero)))))))) h = refl
digit_row (suc (suc (suc (suc (suc (suc (suc (suc (suc zero))))))))) h = refl
digit_row (suc (suc (suc (suc (suc (suc (suc (suc (suc (suc zero)))))))))) h = refl
digit_row (suc (suc (suc (suc (suc (suc (suc (suc (suc (suc (suc zero))))))))))) h = refl
digit_row (suc (suc (suc (suc (suc (suc (suc (suc (suc (suc (suc (suc zero)))))))))))) h = refl
digit_row (suc (suc (suc (suc (suc (suc (suc (suc (suc (suc (suc (suc (suc zero))))))))))))) h = refl
digit_row (suc (suc (suc (suc (suc (suc (suc (suc (suc (suc (suc (suc (suc (suc zero)))))))))))))) h = refl
digit_row (suc (suc (suc (suc (suc (suc (suc (suc (suc (suc (suc (suc (suc (suc (suc zero))))))))))))))) h = refl
digit_row (suc (suc (suc (suc (suc (suc (suc (suc (suc (suc (suc (suc (suc (suc (suc (suc v)))))))))))))))) h = absurd (omega arith)

in_digits_lem : (s : List ℕ) → AllBytes s → hex_of s ≡ in_digits s
unfolding hex_of in_digits
in_digits_lem [] small = refl
in_digits_lem (b ∷ s) small =
    let h : b < 256 = small 0 in
    rw (digit_row (b / 16) (omega arith), digit_row (b % 16) (omega arith), in_digits_lem s (λ k. small (suc k)))

-- digits that were encoded are the line's bytes
pub encoded_line : (s : List ℕ) → AllBytes s → line_bytes (hex_of s) ≡ s
unfolding line_bytes when◌then◌else◌
encoded_line s small = let h : length s * 2 ≡ length (hex_of s) = sym (length_hex s) in rw (bytes_hex s small, eq-eqb (length s * 2) (length (hex_of s)) h)

-- the bytes of a line are bytes
pub line_bytes_lem : (line : List ℕ) → AllBytes (line_bytes line)
unfolding line_bytes when◌then◌else◌
line_bytes_lem line = by (eqb (length (bytes_of line) * 2) (length line))
  where
    by : (t : Bool) → AllBytes (when t then bytes_of line else [])
    by true = bytes_small line
    by false = λ k. omega arith

only_digits : (line : List ℕ) → (line_bytes line ≡ []) ⊎ ((in_digits (line_bytes line) ≡ line) × AllBytes (line_bytes line))
unfolding line_bytes when◌then◌else◌
only_digits line = by (eqb (length (bytes_of line) * 2) (length line)) refl
  where
    by : (t : Bool) → eqb (length (bytes_of line) * 2) (length line) ≡ t
        → ((when t then bytes_of line else []) ≡ []) ⊎ ((in_digits (when t then bytes_of line else []) ≡ line) × AllBytes (when t then bytes_of line else []))
    by true e = inr (sym (in_digits_lem (bytes_of line) (bytes_small line)) ∙ hex_bytes line (sym (eqb-true (length (bytes_of line) * 2) (length line) e)), bytes_small line)
    by false e = inl refl

-- the statement
pub hexadecimal : Hexadecimal
hexadecimal = record {
  writes = in_digits_lem;
  reads = λ s small. ap line_bytes (sym (in_digits_lem s small)) ∙ encoded_line s small;
  only = only_digits;
}
