-- What the gauge makes of a block write and of an address, for each address that their two bytes can say. (01, The model gauge)
-- Assumes nothing.
use Rattle.std.specs.Prelude.{ℕ, ◌+◌, ◌-◌, ◌*◌, ◌≤◌, ◌<◌, min, ◌≡◌, Bool, ◌⊎◌, List, [], ◌++◌, length, take, drop}
use Rattle.engine.specs.Made.{write}
use Rattle.model_gauge.specs.Gauge.{Effect, stored, effect_of}
use Rattle.model_gauge.specs.Effects.{acknowledged, refused}
use Rattle.model_gauge.specs.Forms.{counted}
use Rattle.model_gauge.specs.declared.gauge.Fate.TheVariants as fate
use Rattle.model_gauge.specs.declared.gauge.Gauge.{Gauge}

-- what a frame comes to that is heard
abbrev pub sent : List ℕ → Gauge → List ℕ → Effect
sent frame gauge flash = effect_of fate.Heard (write frame) gauge flash

pub record Taken : Type 0 where
  -- a block write of 1 to 32 bytes, wholly inside the window, is acknowledged; its bytes are stored from its address on, the byte of 4000 hex being
  -- the flash's first, as many as there is room for (in 8,192 bytes all of them); the rest of the flash is as it was, and so is the gauge
  pub block : (pec : Bool) (low high at room : ℕ) (bytes flash : List ℕ) (gauge : Gauge) → at ≡ high * 256 + low → room ≡ min (length bytes) (length flash - (at - 0x4000))
      → 1 ≤ length bytes → length bytes ≤ 32 → 0x4000 ≤ at → at + length bytes ≤ 0x6000
      → sent (counted pec low high bytes) gauge flash ≡ acknowledged [] gauge (take (at - 0x4000) flash ++ take room bytes ++ drop (at - 0x4000 + room) flash)
  -- one that begins before the window or ends past it is a bus error with code 0, and leaves flash and gauge as they were
  pub block_outside : (pec : Bool) (low high at : ℕ) (bytes flash : List ℕ) (gauge : Gauge) → at ≡ high * 256 + low
      → 1 ≤ length bytes → length bytes ≤ 32 → (at < 0x4000) ⊎ (0x6000 < at + length bytes)
      → sent (counted pec low high bytes) gauge flash ≡ refused gauge flash
  -- an address inside the window is acknowledged and sets the pointer; the flash is as it was
  pub address : (pec : Bool) (low high at : ℕ) (flash : List ℕ) (gauge : Gauge) → at ≡ high * 256 + low → 0x4000 ≤ at → at < 0x6000
      → sent (counted pec low high []) gauge flash ≡ acknowledged [] (record { pointer = at }) flash
  -- one before the window or past it is a bus error with code 0, and leaves flash and gauge as they were
  pub address_outside : (pec : Bool) (low high at : ℕ) (flash : List ℕ) (gauge : Gauge) → at ≡ high * 256 + low → (at < 0x4000) ⊎ (0x6000 ≤ at)
      → sent (counted pec low high []) gauge flash ≡ refused gauge flash
  -- what any frame stores does not hang on where the gauge points
  pub wherever : (frame flash : List ℕ) (gauge : Gauge) → (sent frame gauge flash).flash ≡ stored frame flash
