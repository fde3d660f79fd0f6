-- How the loops of `decode` and `encode` go on by a pair of digits, and what the two do to each other.
-- Assumes nothing.
use Prim.Native.Nat.{ℕ, suc, ◌+◌, ◌*◌, ◌/◌, ◌%◌, ◌≤◌, ◌<◌}
use mathlib.Core.Path.{◌≡◌, refl, sym, ap, ◌∙◌}
use mathlib.Core.Bool.{Bool, true, false}
use mathlib.Core.List.{List, [], ◌∷◌, ◌++◌, append_assoc}
use native.Mathlib.Nat.{le_of_lt}
use native.Mathlib.Numerals.{add-one}
use native.Mathlib.Omega.{arith}
use lib.ListN.{length, take, drop, get_or, set, length-append, take-append-drop}
use lib.Seq.{length-take-le, drop-cons, take-suc, take-suc-set, drop-drop, set_at, append_snoc}
use lib.Dec.{ltb}
use borrow.Author.Tests.{lt-ltb, le-ltb, ltb-true, ltb-false}
use Rattle.std.specs.Prelude.{Option, Some, None}
use Rattle.protocol.specs.Pick.{when◌then◌else◌}
use Rattle.hexadecimal.proofs.Cases.{cases}
use Rattle.hexadecimal.specs.Hex.{below, value_of, byte_of, bytes_of, digit_of, hex_of}

-- what is below a limit, and what is not
pub below_some : (limit n m : ℕ) → below limit n ≡ Some m → (n ≡ m) × (n < limit)
unfolding below when◌then◌else◌
below_some limit n m = by (ltb n limit) refl
  where
    by : (t : Bool) → ltb n limit ≡ t → ◌≡◌ {A = Option ℕ} (when t then Some n else None) (Some m) → (n ≡ m) × (n < limit)
    by true e q = (cc, ltb-true n limit e)
    by false e q = cc

pub below_none : (limit n : ℕ) → below limit n ≡ None → limit ≤ n
unfolding below when◌then◌else◌
below_none limit n = by (ltb n limit) refl
  where
    by : (t : Bool) → ltb n limit ≡ t → ◌≡◌ {A = Option ℕ} (when t then Some n else None) None → limit ≤ n
    by true e q = cc
    by false e q = ltb-false n limit e

pub some_below : (limit n m : ℕ) → m ≡ n → m < limit → Some m ≡ below limit n
unfolding below when◌then◌else◌
some_below limit n m e h = let h' : n < limit = omega arith in rw (lt-ltb n limit h', e)

pub none_below : (limit n : ℕ) → limit ≤ n → None ≡ below limit n
unfolding below when◌then◌else◌
none_below limit n h = rw (le-ltb n limit h)

-- what is given is below the limit
pub below_limit : (limit n m : ℕ) → below limit n ≡ Some m → m < limit
below_limit limit n m e = let p = below_some limit n m e in omega (arith, p.0, p.1)

-- a pair is bad where its high digit is none, or its low one
pub high_bad : (high low : ℕ) → below 16 (value_of high) ≡ None → None ≡ below 256 (byte_of high low)
unfolding byte_of
high_bad high low e =
    let far : 15 < value_of high = omega (arith, below_none 16 (value_of high) e) in
    let bad : 256 ≡ byte_of high low = search cases in
    none_below 256 (byte_of high low) (omega arith)

pub low_bad : (high low u : ℕ) → below 16 (value_of high) ≡ Some u → below 16 (value_of low) ≡ None → None ≡ below 256 (byte_of high low)
unfolding byte_of
low_bad high low u p e =
    let near : value_of high ≤ 15 = omega (arith, (below_some 16 (value_of high) u p).1) in
    let far : 15 < value_of low = omega (arith, below_none 16 (value_of low) e) in
    let bad : 256 ≡ byte_of high low = search cases in
    none_below 256 (byte_of high low) (omega arith)

-- two digits make a byte
pub both_good : (high low u l : ℕ) → below 16 (value_of high) ≡ Some u → below 16 (value_of low) ≡ Some l → Some (u * 16 + l) ≡ below 256 (byte_of high low)
unfolding byte_of
both_good high low u l p q =
    let p' = below_some 16 (value_of high) u p in
    let q' = below_some 16 (value_of low) l q in
    let h : value_of high ≤ 15 = omega (arith, p'.1) in
    let k : value_of low ≤ 15 = omega (arith, q'.1) in
    let value : u * 16 + l ≡ value_of high * 16 + value_of low = rw (p'.0, q'.0) in
    let byte : u * 16 + l ≡ byte_of high low = search cases in
    some_below 256 (byte_of high low) (u * 16 + l) byte (omega (arith, p'.0, q'.0))

-- the two digits at i, and the rest
pub two : (s : List ℕ) (i : ℕ) → i * 2 + 1 < length s → drop (i * 2) s ≡ get_or s (i * 2) 0 ∷ get_or s (i * 2 + 1) 0 ∷ drop ((i + 1) * 2) s
two s i h =
    let h₀ : i * 2 < length s = omega arith in
    let h₁ : suc (i * 2) < length s = omega arith in
    let e : (i + 1) * 2 ≡ suc (suc (i * 2)) = omega arith in
    rw (e, add-one, drop-cons s (i * 2) 0 h₀, drop-cons s (suc (i * 2)) 0 h₁)

-- two digits before others: their byte before those of the others, where they make one
pub good_pair : (two s : List ℕ) (b : ℕ) → length two ≡ 2 → below 256 (byte_of (get_or two 0 0) (get_or two 1 0)) ≡ Some b → bytes_of (two ++ s) ≡ b ∷ bytes_of s
unfolding bytes_of when◌then◌else◌
good_pair [] s b n e = absurd (omega arith)
good_pair (d ∷ []) s b n e = absurd (omega arith)
good_pair (high ∷ low ∷ []) s b n e =
    let p = below_some 256 (byte_of high low) b e in
    let small : byte_of high low ≤ 255 = omega (arith, p.1) in
    rw (le-ltb 255 (byte_of high low) small, p.0)
good_pair (high ∷ low ∷ x ∷ xs) s b n e = absurd (omega arith)

pub bad_pair : (two s : List ℕ) → length two ≡ 2 → below 256 (byte_of (get_or two 0 0) (get_or two 1 0)) ≡ None → bytes_of (two ++ s) ≡ []
unfolding bytes_of when◌then◌else◌
bad_pair [] s n e = absurd (omega arith)
bad_pair (d ∷ []) s n e = absurd (omega arith)
bad_pair (high ∷ low ∷ []) s n e =
    let far : 255 < byte_of high low = omega (arith, below_none 256 (byte_of high low) e) in
    rw (lt-ltb 255 (byte_of high low) far)
bad_pair (high ∷ low ∷ x ∷ xs) s n e = absurd (omega arith)

pub two_more : (two s rest : List ℕ) → rest ≡ two ++ s → length two ≡ 2 → length rest ≡ 2 + length s
two_more two s rest e n = ap length e ∙ length-append two s ∙ rw n

-- a turn of `decode`: one byte more is laid
pub decode_turn : (s two rest rest' out : List ℕ) (i b : ℕ) → rest ≡ two ++ rest' → length two ≡ 2 → i < length out → below 256 (byte_of (get_or two 0 0) (get_or two 1 0)) ≡ Some b
    → bytes_of s ≡ take i out ++ bytes_of rest → bytes_of s ≡ take (i + 1) (set out i b) ++ bytes_of rest'
decode_turn s two rest rest' out i b r n k e q =
    let p : bytes_of rest ≡ b ∷ bytes_of rest' = ap bytes_of r ∙ good_pair two rest' b n e in
    let t : take (i + 1) (set out i b) ≡ take i out ++ (b ∷ []) = rw add-one (take-suc-set out i b k) in
    q ∙ rw (p, t) (sym (append_snoc (take i out) b (bytes_of rest')))

pub bytes_none : bytes_of [] ≡ []
unfolding bytes_of
bytes_none = refl

-- where two lists are the same after i, they are the same after one more
pub drop_more : (s t : List ℕ) (i : ℕ) → drop i s ≡ drop i t → drop (i + 1) s ≡ drop (i + 1) t
drop_more s t i e = sym (drop-drop 1 i s) ∙ ap (drop 1) e ∙ drop-drop 1 i t

-- what was laid, where decoding stops after i bytes
pub decode_stop : (s out out₀ : List ℕ) (i : ℕ) → i ≤ length out → bytes_of s ≡ take i out → drop i out ≡ drop i out₀
    → (length (bytes_of s) ≡ i) × (out ≡ bytes_of s ++ drop (length (bytes_of s)) out₀)
decode_stop s out out₀ i h e d =
    let n : length (bytes_of s) ≡ i = ap length e ∙ length-take-le i out h in
    (n, rw (n, e, ← d) (sym (take-append-drop i out)))

pub hex_append : (s t : List ℕ) → hex_of (s ++ t) ≡ hex_of s ++ hex_of t
unfolding hex_of
hex_append [] t = refl
hex_append (b ∷ s) t = ap (λ (l : List ℕ). digit_of (b / 16) ∷ digit_of (b % 16) ∷ l) (hex_append s t)

pub length_hex : (s : List ℕ) → length (hex_of s) ≡ length s * 2
unfolding hex_of
length_hex [] = refl
length_hex (b ∷ s) = omega (arith, length_hex s)

-- a turn of `encode`: two digits more are laid
pub encode_turn : (s out₀ : List ℕ) (i high low : ℕ) → i < length s → i * 2 + 1 < length out₀
    → high ≡ digit_of (get_or s i 0 / 16) → low ≡ digit_of (get_or s i 0 % 16)
    → set (set (hex_of (take i s) ++ drop (i * 2) out₀) (i * 2) high) (i * 2 + 1) low ≡ hex_of (take (i + 1) s) ++ drop ((i + 1) * 2) out₀
unfolding hex_of
encode_turn s out₀ i high low h k p q =
    let le : i ≤ length s = le_of_lt h in
    let t : List ℕ = drop ((i + 1) * 2) out₀ in
    let x : ℕ = get_or out₀ (i * 2) 0 in
    let y : ℕ = get_or out₀ (i * 2 + 1) 0 in
    let l : List ℕ = hex_of (take i s) in
    let n : length l ≡ i * 2 = length_hex (take i s) ∙ ap (λ (m : ℕ). m * 2) (length-take-le i s le) in
    let n' : length (l ++ (high ∷ [])) ≡ i * 2 + 1 = length-append l (high ∷ []) ∙ ap (λ (m : ℕ). m + 1) n in
    let e₀ : set (l ++ x ∷ y ∷ t) (i * 2) high ≡ l ++ high ∷ y ∷ t = set_at l x (y ∷ t) high (i * 2) n in
    let e₁ : set (l ++ (high ∷ []) ++ y ∷ t) (i * 2 + 1) low ≡ l ++ (high ∷ []) ++ low ∷ t = set_at (l ++ (high ∷ [])) y t low (i * 2 + 1) n' in
    let e₂ : hex_of (take (i + 1) s) ≡ l ++ high ∷ low ∷ [] = rw (add-one, take-suc s i 0 h, hex_append, p, q) in
    rw (two out₀ i k, e₀, ← append_snoc l high (y ∷ t), e₁, e₂, append_assoc, append_assoc)
