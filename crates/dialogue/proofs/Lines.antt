-- A line that is decoded where there is room for every valid line comes to its bytes, or is bad either way.
-- Assumes nothing.
use Prim.Native.Nat.{ℕ, ◌*◌, ◌/◌, ◌%◌, ◌≤◌, ◌<◌}
use mathlib.Core.Path.{◌≡◌, refl, sym, ap, ◌∙◌}
use mathlib.Core.Bool.{Bool, true, false}
use mathlib.Core.List.{List, [], ◌++◌}
use mathlib.Core.Logic.{◌⊎◌, inl, inr}
use native.Mathlib.Omega.{arith}
use lib.ListN.{length, drop}
use lib.Seq.{take-append_seam}
use lib.Dec.{ltb, eqb}
use borrow.Author.Tests.{ltb-true, ltb-false, eqb-true, eqb-false}
use Rattle.hexadecimal.specs.Hex.{bytes_of, decoded_of, out_decoded}
use Rattle.std.specs.Prelude.{Result, Ok, Err}
use Rattle.hexadecimal.specs.declared.DecodeError.{DecodeError}
use Rattle.hexadecimal.specs.declared.DecodeError.TheVariants as error
use Rattle.hexadecimal.proofs.Inverse.{length_bytes}
use Rattle.protocol.proofs.Cases.{cases}
use Rattle.dialogue.specs.Dialogue.{count_in, byte_count, bytes_in}
use Rattle.hexadecimal.specs.Line.{line_bytes}

module _ (s : List ℕ) (room : ℕ) where
  odd : length s % 2 ≡ 1 → decoded_of s room ≡ Err error.Bad
  unfolding decoded_of
  odd h = sym (search cases)

  long : (length s % 2 ≡ 1 → ⊥) → room < length s / 2 → decoded_of s room ≡ Err error.TooLong
  unfolding decoded_of
  long h l = sym (search cases)

  short : (length s % 2 ≡ 1 → ⊥) → length s / 2 ≤ room → length (bytes_of s) < length s / 2 → decoded_of s room ≡ Err error.Bad
  unfolding decoded_of
  short h l k = sym (search cases)

  whole : (length s % 2 ≡ 1 → ⊥) → length s / 2 ≤ room → length s / 2 ≤ length (bytes_of s) → decoded_of s room ≡ Ok (length s / 2)
  unfolding decoded_of
  whole h l k = sym (search cases)

laid : (s out : List ℕ) → (length s % 2 ≡ 1 → ⊥) → length s / 2 ≤ length out → out_decoded s out ≡ bytes_of s ++ drop (length (bytes_of s)) out
unfolding out_decoded
laid s out h l = sym (search cases)

-- no bytes come of a line that is not decoded
none : (s out : List ℕ) (d : Result ℕ DecodeError) → decoded_of s (length out) ≡ d → count_in d ≡ 0 → bytes_in s out ≡ []
unfolding bytes_in byte_count
none s out d e z = rw (e, z)

not_hex : (s : List ℕ) → (length (bytes_of s) * 2 ≡ length s → ⊥) → line_bytes s ≡ []
unfolding line_bytes
not_hex s h = sym (search cases)

is_hex : (s : List ℕ) → length (bytes_of s) * 2 ≡ length s → line_bytes s ≡ bytes_of s
unfolding line_bytes
is_hex s h = sym (search cases)

all : (s out : List ℕ) → (length s % 2 ≡ 1 → ⊥) → length s / 2 ≤ length out → length s / 2 ≡ length (bytes_of s) → bytes_in s out ≡ bytes_of s
unfolding bytes_in byte_count count_in
all s out h l n =
    let e : decoded_of s (length out) ≡ Ok (length s / 2) = whole s (length out) h l (omega arith) in
    rw (e, laid s out h l, n) (take-append_seam (bytes_of s) (drop (length (bytes_of s)) out))

-- the bytes of a line, where it is decoded over `out`; or none, since they have no room there
pub decoded_line : (s out : List ℕ) → (bytes_in s out ≡ line_bytes s) ⊎ ((bytes_in s out ≡ []) × (length out < length (line_bytes s)))
unfolding count_in
decoded_line s out = by₁ (eqb (length s % 2) 1) refl
  where
    by₃ : (t : Bool) → ltb (length (bytes_of s)) (length s / 2) ≡ t → (length s % 2 ≡ 1 → ⊥) → length s / 2 ≤ length out → (bytes_in s out ≡ line_bytes s) ⊎ ((bytes_in s out ≡ []) × (length out < length (line_bytes s)))
    by₃ true e h l =
        let k : length (bytes_of s) < length s / 2 = ltb-true (length (bytes_of s)) (length s / 2) e in
        inl (none s out (Err error.Bad) (short s (length out) h l k) refl ∙ sym (not_hex s (λ q. omega arith)))
    by₃ false e h l =
        let k : length s / 2 ≤ length (bytes_of s) = ltb-false (length (bytes_of s)) (length s / 2) e in
        let n : length s / 2 ≡ length (bytes_of s) = omega (arith, length_bytes s) in
        let q : length (bytes_of s) * 2 ≡ length s = omega (arith, h) in
        inl (all s out h l n ∙ sym (is_hex s q))

    by₄ : (t : Bool) → eqb (length (bytes_of s) * 2) (length s) ≡ t → (length s % 2 ≡ 1 → ⊥) → length out < length s / 2 → (bytes_in s out ≡ line_bytes s) ⊎ ((bytes_in s out ≡ []) × (length out < length (line_bytes s)))
    by₄ true e h l =
        let q : length (bytes_of s) * 2 ≡ length s = eqb-true (length (bytes_of s) * 2) (length s) e in
        let b : length (line_bytes s) ≡ length (bytes_of s) = ap length (is_hex s q) in
        inr (none s out (Err error.TooLong) (long s (length out) h l) refl, omega arith)
    by₄ false e h l =
        inl (none s out (Err error.TooLong) (long s (length out) h l) refl ∙ sym (not_hex s (eqb-false (length (bytes_of s) * 2) (length s) e)))

    by₂ : (t : Bool) → ltb (length out) (length s / 2) ≡ t → (length s % 2 ≡ 1 → ⊥) → (bytes_in s out ≡ line_bytes s) ⊎ ((bytes_in s out ≡ []) × (length out < length (line_bytes s)))
    by₂ true e h = by₄ (eqb (length (bytes_of s) * 2) (length s)) refl h (ltb-true (length out) (length s / 2) e)
    by₂ false e h = by₃ (ltb (length (bytes_of s)) (length s / 2)) refl h (ltb-false (length out) (length s / 2) e)

    by₁ : (t : Bool) → eqb (length s % 2) 1 ≡ t → (bytes_in s out ≡ line_bytes s) ⊎ ((bytes_in s out ≡ []) × (length out < length (line_bytes s)))
    by₁ true e =
        let h : length s % 2 ≡ 1 = eqb-true (length s % 2) 1 e in
        inl (none s out (Err error.Bad) (odd s (length out) h) refl ∙ sym (not_hex s (λ q. omega arith)))
    by₁ false e = by₂ (ltb (length out) (length s / 2)) refl (eqb-false (length s % 2) 1 e)
