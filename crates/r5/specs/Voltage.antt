-- The charging voltage override's figures. (01, Keys; common.rs, ChargingVoltageOverride; r5.rs, to_le_bytes and from_le_bytes)
-- Assumes nothing.
use Rattle.std.specs.Prelude.{ℕ, ◌+◌, ◌-◌, ◌*◌, ◌/◌, ◌%◌, ◌<◌, ◌≡◌, ℤ, pos, negsuc, List, ◌++◌, length, get_or, ltb}
use Rattle.protocol.specs.Pick.{when◌then◌else◌}
use Rattle.protocol.specs.Frame.{pair_of}
use Rattle.r5.specs.declared.voltage.ChargingVoltageOverride.{ChargingVoltageOverride}

-- the 16 bits of a figure, two's complement: -1 is FFFF
unfoldable pub bits_of : ℤ → ℕ
bits_of (pos n) = n
bits_of (negsuc n) = 65535 - n

-- the figure of two bytes, low byte first: FF FF is -1, 00 80 is -32768
unfoldable pub figure_of : ℕ → ℕ → ℤ
figure_of low high =
    when ltb (high * 256 + low) 32768 then pos (high * 256 + low) else negsuc (65535 - (high * 256 + low))

-- ten bytes: the five figures, each low byte first
unfoldable pub override_bytes : ChargingVoltageOverride → List ℕ
override_bytes v =
    pair_of (bits_of v.low_temp_chrg_mv)
    ++ pair_of (bits_of v.std_low_temp_chrg_mv)
    ++ pair_of (bits_of v.std_hi_temp_chrg_mv)
    ++ pair_of (bits_of v.hi_temp_chrg_mv)
    ++ pair_of (bits_of v.recommended_temp_chrg_mv)

-- the five figures of ten bytes
unfoldable pub override_of : List ℕ → ChargingVoltageOverride
override_of s = record {
  low_temp_chrg_mv = figure_of (get_or s 0 0) (get_or s 1 0);
  std_low_temp_chrg_mv = figure_of (get_or s 2 0) (get_or s 3 0);
  std_hi_temp_chrg_mv = figure_of (get_or s 4 0) (get_or s 5 0);
  hi_temp_chrg_mv = figure_of (get_or s 6 0) (get_or s 7 0);
  recommended_temp_chrg_mv = figure_of (get_or s 8 0) (get_or s 9 0);
}

-- ---- there and back, over the whole range

-- a figure of 16 bits: from -32,768 to 32,767
abbrev pub InRange : ℤ → Type 0
InRange (pos n) = n < 32768
InRange (negsuc n) = n < 32768

pub record BothWays : Type 0 where
  -- a figure comes back from its two bytes
  pub figure_back : (z : ℤ) → InRange z → figure_of (bits_of z % 256) (bits_of z / 256 % 256) ≡ z
  -- and two bytes from the figure that they are
  pub bits_back : (low high : ℕ) → low < 256 → high < 256 → InRange (figure_of low high) × (bits_of (figure_of low high) ≡ high * 256 + low)
  -- an override comes back from its ten bytes
  pub override_back : (v : ChargingVoltageOverride)
      → InRange v.low_temp_chrg_mv → InRange v.std_low_temp_chrg_mv → InRange v.std_hi_temp_chrg_mv → InRange v.hi_temp_chrg_mv
      → InRange v.recommended_temp_chrg_mv → override_of (override_bytes v) ≡ v
  -- and ten bytes from the override that they are
  pub bytes_back : (s : List ℕ) → length s ≡ 10 → ((i : ℕ) → get_or s i 0 < 256) → override_bytes (override_of s) ≡ s
