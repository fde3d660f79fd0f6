-- An override's figures and bytes come back from one another, over the whole range.
-- Assumes nothing.
use Prim.Native.Nat.{ℕ, zero, suc, ◌+◌, ◌-◌, ◌*◌, ◌/◌, ◌%◌, ◌≤◌, ◌<◌}
use mathlib.Core.Path.{◌≡◌, refl, sym, ap, ◌∙◌}
use mathlib.Core.Bool.{Bool, true, false}
use mathlib.Core.List.{List, [], ◌∷◌}
use native.Mathlib.Omega.{arith}
use lib.Dec.{ltb}
use lib.IntN.{ℤ, pos, negsuc}
use lib.ListN.{length, get_or, drop, drop_of_length-le}
use lib.Seq.{drop-cons}
use borrow.Author.Tests.{ltb-true, ltb-false, lt-ltb, le-ltb}
use Rattle.protocol.specs.Pick.{when◌then◌else◌}
use Rattle.protocol.specs.Frame.{pair_of}
use Rattle.r5.specs.Voltage.{bits_of, figure_of, override_bytes, override_of, InRange, BothWays}
use Rattle.r5.specs.declared.voltage.ChargingVoltageOverride.{ChargingVoltageOverride}

figure_back : (z : ℤ) → InRange z → figure_of (bits_of z % 256) (bits_of z / 256 % 256) ≡ z
unfolding bits_of figure_of when◌then◌else◌
figure_back (pos n) h =
    let e : n / 256 % 256 * 256 + n % 256 ≡ n = omega arith in
    rw (e, lt-ltb n 32768 h)
figure_back (negsuc n) h =
    let e : (65535 - n) / 256 % 256 * 256 + (65535 - n) % 256 ≡ 65535 - n = omega arith in
    let t : ltb (65535 - n) 32768 ≡ false = le-ltb (65535 - n) 32768 (omega arith) in
    let b : 65535 - (65535 - n) ≡ n = omega arith in
    rw (e, t, b)

bits_back : (low high : ℕ) → low < 256 → high < 256 → InRange (figure_of low high) × (bits_of (figure_of low high) ≡ high * 256 + low)
unfolding bits_of figure_of when◌then◌else◌
bits_back low high hl hh = by (ltb (high * 256 + low) 32768) refl
  where
    by : (t : Bool) → ltb (high * 256 + low) 32768 ≡ t → InRange (figure_of low high) × (bits_of (figure_of low high) ≡ high * 256 + low)
    by true t = rw t (ltb-true _ _ t, refl)
    by false t = let large = ltb-false (high * 256 + low) 32768 t in rw t (omega arith, omega arith)

-- two bytes come back from their figure
pair_back : (low high : ℕ) → low < 256 → high < 256 → pair_of (bits_of (figure_of low high)) ≡ low ∷ high ∷ []
unfolding pair_of
pair_back low high hl hh =
    let bits = (bits_back low high hl hh).1 in
    let l : (high * 256 + low) % 256 ≡ low = omega arith in
    let q : (high * 256 + low) / 256 ≡ high = omega arith in
    let h : high % 256 ≡ high = omega arith in
    rw (bits, l, q, h)

override_back : (v : ChargingVoltageOverride)
    → InRange v.low_temp_chrg_mv → InRange v.std_low_temp_chrg_mv → InRange v.std_hi_temp_chrg_mv → InRange v.hi_temp_chrg_mv
    → InRange v.recommended_temp_chrg_mv → override_of (override_bytes v) ≡ v
unfolding override_of override_bytes pair_of
override_back v a b c d e =
    rw (figure_back v.low_temp_chrg_mv a, figure_back v.std_low_temp_chrg_mv b, figure_back v.std_hi_temp_chrg_mv c, figure_back v.hi_temp_chrg_mv d, figure_back v.recommended_temp_chrg_mv e)

-- the k entries of a list from i on
abbrev entries : ℕ → ℕ → List ℕ → List ℕ
entries zero i s = []
entries (suc k) i s = get_or s i 0 ∷ entries k (suc i) s

all_entries : (k i : ℕ) (s : List ℕ) → length s ≡ i + k → drop i s ≡ entries k i s
all_entries zero i s e = let past : length s ≤ i = omega arith in drop_of_length-le s past
all_entries (suc k) i s e = drop-cons s i 0 (omega arith) ∙ ap (λ (l : List ℕ). get_or s i 0 ∷ l) (all_entries k (suc i) s (omega arith))

bytes_back : (s : List ℕ) → length s ≡ 10 → ((i : ℕ) → get_or s i 0 < 256) → override_bytes (override_of s) ≡ s
unfolding override_of override_bytes
bytes_back s n small =
    rw (pair_back (get_or s 0 0) (get_or s 1 0) (small 0) (small 1), pair_back (get_or s 2 0) (get_or s 3 0) (small 2) (small 3), pair_back (get_or s 4 0) (get_or s 5 0) (small 4) (small 5), pair_back (get_or s 6 0) (get_or s 7 0) (small 6) (small 7), pair_back (get_or s 8 0) (get_or s 9 0) (small 8) (small 9))
    (sym (all_entries 10 0 s n))

-- BOTH WAYS
pub both_ways : BothWays
both_ways = record { figure_back = figure_back; bits_back = bits_back; override_back = override_back; bytes_back = bytes_back }
