-- Decoding what was encoded gives the bytes back, and encoding what was decoded gives the digits back.
-- Assumes nothing.
use Prim.Native.Nat.{ℕ, zero, suc, ◌+◌, ◌-◌, ◌*◌, ◌/◌, ◌%◌, ◌≤◌, ◌<◌}
use mathlib.Core.Path.{◌≡◌, refl, sym, ap, ◌∙◌}
use mathlib.Core.Bool.{Bool, true, false}
use mathlib.Core.List.{List, [], ◌∷◌}
use native.Mathlib.Omega.{arith}
use lib.ListN.{length}
use lib.Dec.{ltb, eqb}
use borrow.Author.Tests.{ltb-true, ltb-false, eqb-false}
use Rattle.std.specs.Prelude.{Result, Ok, Err}
use Rattle.protocol.specs.Pick.{when◌then◌else◌}
use Rattle.hexadecimal.specs.BothWays.{AllBytes, BothWays}
use Rattle.hexadecimal.specs.Hex.{value_of, byte_of, bytes_of, decoded_of, digit_of, hex_of}
use Rattle.hexadecimal.specs.declared.DecodeError.{DecodeError}
use Rattle.hexadecimal.specs.declared.DecodeError.TheVariants as error
use Rattle.hexadecimal.proofs.Cases.{cases}
use Rattle.hexadecimal.proofs.Laws.{length_hex}

value_small : (v : ℕ) → v < 10 → v ≡ value_of (v + 48)
unfolding value_of
value_small v h =
    let p₁ : 48 ≤ v + 48 = omega arith in
    let p₂ : v + 48 < 58 = omega arith in
    let q : v ≡ v + 48 - 48 = omega arith in
    search cases

value_large : (v : ℕ) → 10 ≤ v → v < 16 → v ≡ value_of (v % 16 + 55)
unfolding value_of
value_large v l h =
    let p₁ : 48 ≤ v % 16 + 55 = omega arith in
    let p₂ : 58 ≤ v % 16 + 55 = omega arith in
    let p₃ : 65 ≤ v % 16 + 55 = omega arith in
    let p₄ : v % 16 + 55 < 71 = omega arith in
    let q : v ≡ v % 16 + 55 - 55 = omega arith in
    search cases

-- a value comes back from its digit
value_digit : (v : ℕ) → v < 16 → v ≡ value_of (digit_of v)
unfolding digit_of when◌then◌else◌
value_digit v h = by (ltb v 10) refl
  where
    by : (t : Bool) → ltb v 10 ≡ t → v ≡ value_of (when t then v + 48 else v % 16 + 55)
    by true e = value_small v (ltb-true v 10 e)
    by false e = value_large v (ltb-false v 10 e) h

-- a byte is the pair of its digits
byte_pair : (b : ℕ) → b < 256 → b ≡ byte_of (digit_of (b / 16)) (digit_of (b % 16))
unfolding byte_of
byte_pair b h =
    let high : b / 16 ≡ value_of (digit_of (b / 16)) = value_digit (b / 16) (omega arith) in
    let low : b % 16 ≡ value_of (digit_of (b % 16)) = value_digit (b % 16) (omega arith) in
    let p₁ : b / 16 ≤ 15 = omega arith in
    let p₂ : b % 16 ≤ 15 = omega arith in
    let q : b ≡ value_of (digit_of (b / 16)) * 16 + value_of (digit_of (b % 16)) = rw (← high, ← low) (omega arith) in
    search cases

good : (b : ℕ) (s t : List ℕ) → b ≤ 255 → s ≡ t → b ∷ s ≡ (when ltb 255 b then [] else b ∷ t)
good b s t h e =
    let q : b ∷ s ≡ b ∷ t = ap (λ (l : List ℕ). b ∷ l) e in
    search cases

-- bytes come back from their digits
pub bytes_hex : (s : List ℕ) → AllBytes s → bytes_of (hex_of s) ≡ s
unfolding bytes_of hex_of
bytes_hex [] h = refl
bytes_hex (b ∷ s) h =
    let e : b ≡ byte_of (digit_of (b / 16)) (digit_of (b % 16)) = byte_pair b (h 0) in
    rw (← e) (sym (good b s (bytes_of (hex_of s)) (omega (arith, h 0)) (sym (bytes_hex s (λ k. h (suc k))))))

digit_small : (v : ℕ) → v < 10 → v + 48 ≡ digit_of v
unfolding digit_of
digit_small v h = search cases

digit_large : (v : ℕ) → 10 ≤ v → v < 16 → v + 55 ≡ digit_of v
unfolding digit_of
digit_large v l h =
    let q : v + 55 ≡ v % 16 + 55 = omega arith in
    search cases

-- a digit is the digit of its value
digit_value : (d : ℕ) → value_of d ≤ 15 → digit_of (value_of d) ≡ d
unfolding value_of when◌then◌else◌
digit_value d = by₁ (ltb d 48) refl
  where
    by₄ : (t : Bool) → ltb d 71 ≡ t → 65 ≤ d → (when t then d - 55 else 16) ≤ 15 → digit_of (when t then d - 55 else 16) ≡ d
    by₄ true e l h = sym (digit_large (d - 55) (omega arith) (omega (arith, ltb-true))) ∙ omega (arith, ltb-true)
    by₄ false e l h = absurd (omega arith)

    by₃ : (t : Bool) → ltb d 65 ≡ t → (when t then 16 else when ltb d 71 then d - 55 else 16) ≤ 15 → digit_of (when t then 16 else when ltb d 71 then d - 55 else 16) ≡ d
    by₃ true e h = absurd (omega arith)
    by₃ false e h = by₄ (ltb d 71) refl (ltb-false d 65 e) h

    by₂ : (t : Bool) → ltb d 58 ≡ t → 48 ≤ d → (when t then d - 48 else when ltb d 65 then 16 else when ltb d 71 then d - 55 else 16) ≤ 15 → digit_of (when t then d - 48 else when ltb d 65 then 16 else when ltb d 71 then d - 55 else 16) ≡ d
    by₂ true e l h = sym (digit_small (d - 48) (omega (arith, ltb-true))) ∙ omega arith
    by₂ false e l h = by₃ (ltb d 65) refl h

    by₁ : (t : Bool) → ltb d 48 ≡ t → (when t then 16 else when ltb d 58 then d - 48 else when ltb d 65 then 16 else when ltb d 71 then d - 55 else 16) ≤ 15 → digit_of (when t then 16 else when ltb d 58 then d - 48 else when ltb d 65 then 16 else when ltb d 71 then d - 55 else 16) ≡ d
    by₁ true e h = absurd (omega arith)
    by₁ false e h = by₂ (ltb d 58) refl (ltb-false d 48 e) h

-- a good pair's digits
pair_digits : (high low : ℕ) → byte_of high low ≤ 255 → (digit_of (byte_of high low / 16) ≡ high) × (digit_of (byte_of high low % 16) ≡ low)
unfolding byte_of when◌then◌else◌
pair_digits high low = by₁ (ltb 15 (value_of high)) refl
  where
    by₂ : (t : Bool) → ltb 15 (value_of low) ≡ t → value_of high ≤ 15 → (when t then 256 else value_of high * 16 + value_of low) ≤ 255
        → (digit_of ((when t then 256 else value_of high * 16 + value_of low) / 16) ≡ high) × (digit_of ((when t then 256 else value_of high * 16 + value_of low) % 16) ≡ low)
    by₂ true e u h = absurd (omega arith)
    by₂ false e u h =
        let l : value_of low ≤ 15 = ltb-false 15 (value_of low) e in
        let p : (value_of high * 16 + value_of low) / 16 ≡ value_of high = omega arith in
        let q : (value_of high * 16 + value_of low) % 16 ≡ value_of low = omega arith in
        (ap digit_of p ∙ digit_value high u, ap digit_of q ∙ digit_value low l)

    by₁ : (t : Bool) → ltb 15 (value_of high) ≡ t → (when t then 256 else when ltb 15 (value_of low) then 256 else value_of high * 16 + value_of low) ≤ 255
        → (digit_of ((when t then 256 else when ltb 15 (value_of low) then 256 else value_of high * 16 + value_of low) / 16) ≡ high)
        × (digit_of ((when t then 256 else when ltb 15 (value_of low) then 256 else value_of high * 16 + value_of low) % 16) ≡ low)
    by₁ true e h = absurd (omega arith)
    by₁ false e h = by₂ (ltb 15 (value_of low)) refl (ltb-false 15 (value_of high) e) h

-- digits come back from their bytes, where every pair is good
pub hex_bytes : (s : List ℕ) → length s ≡ length (bytes_of s) * 2 → hex_of (bytes_of s) ≡ s
unfolding bytes_of hex_of when◌then◌else◌
hex_bytes [] h = refl
hex_bytes (d ∷ []) h = absurd (omega arith)
hex_bytes (high ∷ low ∷ s) h = by (λ k. hex_bytes s k) (ltb 255 (byte_of high low)) refl h
  where
    by : (length s ≡ length (bytes_of s) * 2 → hex_of (bytes_of s) ≡ s) → (t : Bool) → ltb 255 (byte_of high low) ≡ t → suc (suc (length s)) ≡ length (when t then [] else byte_of high low ∷ bytes_of s) * 2
        → hex_of (when t then [] else byte_of high low ∷ bytes_of s) ≡ high ∷ low ∷ s
    by rest true e h = absurd (omega arith)
    by rest false e h =
        let p : (digit_of (byte_of high low / 16) ≡ high) × (digit_of (byte_of high low % 16) ≡ low) = pair_digits high low (ltb-false 255 (byte_of high low) e) in
        let q : hex_of (bytes_of s) ≡ s = rest (omega arith) in
        rw (p.0, p.1, q)

-- no more bytes than pairs
pub length_bytes : (s : List ℕ) → length (bytes_of s) * 2 ≤ length s
unfolding bytes_of when◌then◌else◌
length_bytes [] = omega arith
length_bytes (d ∷ []) = omega arith
length_bytes (high ∷ low ∷ s) = by (length_bytes s) (ltb 255 (byte_of high low))
  where
    by : length (bytes_of s) * 2 ≤ length s → (t : Bool) → length (when t then [] else byte_of high low ∷ bytes_of s) * 2 ≤ suc (suc (length s))
    by rest true = omega arith
    by rest false = omega arith

decoded_even : (s : List ℕ) (room n : ℕ) → length s ≡ n * 2 → n ≤ room → n ≤ length (bytes_of s) → decoded_of s room ≡ Ok n
unfolding decoded_of
decoded_even s room n e fits whole =
    let even : length s % 2 ≡ 1 → ⊥ = λ q. omega arith in
    let half : length s / 2 ≡ n = omega arith in
    let p₁ : length s / 2 ≤ room = omega arith in
    let p₂ : length s / 2 ≤ length (bytes_of s) = omega arith in
    let q : ◌≡◌ {A = Result ℕ DecodeError} (Ok n) (Ok (length s / 2)) = ap Ok (sym half) in
    sym (search cases)

-- decoding what was encoded is accepted, and gives the bytes
decode_encode : (s : List ℕ) (room : ℕ) → AllBytes s → length s ≤ room → (decoded_of (hex_of s) room ≡ Ok (length s)) × (bytes_of (hex_of s) ≡ s)
decode_encode s room h fits = (accepted, bytes_hex s h)
  where
    accepted : decoded_of (hex_of s) room ≡ Ok (length s)
    accepted = decoded_even (hex_of s) room (length s) (length_hex s) fits (omega (arith, ap length (bytes_hex s h)))

-- what decoding gives are bytes
pub bytes_small : (s : List ℕ) → AllBytes (bytes_of s)
unfolding bytes_of when◌then◌else◌
bytes_small [] k = omega arith
bytes_small (d ∷ []) k = omega arith
bytes_small (high ∷ low ∷ s) k = by (bytes_small s) (ltb 255 (byte_of high low)) refl k
  where
    by : AllBytes (bytes_of s) → (t : Bool) → ltb 255 (byte_of high low) ≡ t → AllBytes (when t then [] else byte_of high low ∷ bytes_of s)
    by rest true e k = omega arith
    by rest false e zero = omega (arith, ltb-false 255 (byte_of high low) e)
    by rest false e (suc k) = rest k

-- encoding what was accepted gives the digits
encode_decode : (s : List ℕ) (room n : ℕ) → decoded_of s room ≡ Ok n
    → (hex_of (bytes_of s) ≡ s) × AllBytes (bytes_of s) × (length (bytes_of s) ≡ n) × (n ≤ room)
unfolding decoded_of when◌then◌else◌
encode_decode s room n = by₁ (eqb (length s % 2) 1) refl
  where
    by₃ : (t : Bool) → ltb (length (bytes_of s)) (length s / 2) ≡ t → (length s % 2 ≡ 1 → ⊥) → length s / 2 ≤ room
        → (when t then Err error.Bad else Ok (length s / 2)) ≡ Ok n
        → (hex_of (bytes_of s) ≡ s) × AllBytes (bytes_of s) × (length (bytes_of s) ≡ n) × (n ≤ room)
    by₃ true e even fits q = absurd (let z : ◌≡◌ {A = ℕ} 0 1 = cc in omega arith)
    by₃ false e even fits q =
        let whole : length s / 2 ≤ length (bytes_of s) = ltb-false (length (bytes_of s)) (length s / 2) e in
        let half : length s / 2 ≡ n = cc in
        (hex_bytes s (omega (arith, length_bytes s, even)), bytes_small s, omega (arith, length_bytes s, even), omega arith)

    by₂ : (t : Bool) → ltb room (length s / 2) ≡ t → (length s % 2 ≡ 1 → ⊥)
        → (when t then Err error.TooLong else when ltb (length (bytes_of s)) (length s / 2) then Err error.Bad else Ok (length s / 2)) ≡ Ok n
        → (hex_of (bytes_of s) ≡ s) × AllBytes (bytes_of s) × (length (bytes_of s) ≡ n) × (n ≤ room)
    by₂ true e even q = absurd (let z : ◌≡◌ {A = ℕ} 0 1 = cc in omega arith)
    by₂ false e even q = by₃ (ltb (length (bytes_of s)) (length s / 2)) refl even (ltb-false room (length s / 2) e) q

    by₁ : (t : Bool) → eqb (length s % 2) 1 ≡ t
        → (when t then Err error.Bad else when ltb room (length s / 2) then Err error.TooLong else when ltb (length (bytes_of s)) (length s / 2) then Err error.Bad else Ok (length s / 2)) ≡ Ok n
        → (hex_of (bytes_of s) ≡ s) × AllBytes (bytes_of s) × (length (bytes_of s) ≡ n) × (n ≤ room)
    by₁ true e q = absurd (let z : ◌≡◌ {A = ℕ} 0 1 = cc in omega arith)
    by₁ false e q = by₂ (ltb room (length s / 2)) refl (eqb-false (length s % 2) 1 e) q

-- the statement
pub both_ways : BothWays
both_ways = record { bytes_digits_bytes = decode_encode; digits_bytes_digits = encode_decode }
