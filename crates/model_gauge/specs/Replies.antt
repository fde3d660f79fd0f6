-- Which reads the gauge replies to, where its pointer then stands, and the reply at each pointer. (01, The model gauge)
-- Assumes nothing.
use Rattle.std.specs.Prelude.{ℕ, ◌+◌, ◌-◌, ◌/◌, ◌%◌, ◌≤◌, ◌<◌, min, ◌≡◌, List, [], ◌∷◌, ◌++◌, length, take, drop, replicate}
use Rattle.smbus_pec.specs.Pec.{pec_of}
use Rattle.engine.specs.Made.{read}
use Rattle.model_gauge.specs.Gauge.{reply_of, Effect, effect_of, handed_back}
use Rattle.model_gauge.specs.Effects.{acknowledged, refused}
use Rattle.model_gauge.specs.declared.gauge.Fate.{Fate}
use Rattle.model_gauge.specs.declared.gauge.Fate.TheVariants as fate
use Rattle.model_gauge.specs.declared.gauge.Gauge.{Gauge}

-- 22 hex, the pointer low byte first, and the 32 bytes of the flash from there on, FF past its end: for 8,192 bytes that is 5FFF
abbrev pub said : ℕ → List ℕ → List ℕ
said pointer flash = 0x22 ∷ pointer % 256 ∷ pointer / 256 ∷ take 32 (drop (pointer - 0x4000) flash ++ replicate 32 0xFF)

-- a read that is heard is a bus error with code 0 and brings nothing, and whatever becomes of it the pointer stays
abbrev pub Unreplied : ℕ → ℕ → Type 0
Unreplied command count = (f : Fate) (gauge : Gauge) (flash : List ℕ)
    → (effect_of fate.Heard (read command count) gauge flash ≡ refused gauge flash) × ((effect_of f (read command count) gauge flash).gauge ≡ gauge)

pub record Replies : Type 0 where
  -- a read of 44 that asks for any number of bytes up to 36 is acknowledged, brings as many of the reply, and the pointer grows by 32, at most to 6000 hex
  pub asked : (count : ℕ) (gauge : Gauge) (flash : List ℕ) → count ≤ 36
      → effect_of fate.Heard (read 0x44 count) gauge flash ≡ acknowledged (take count (reply_of gauge flash)) (record { pointer = min (gauge.pointer + 32) 0x6000 }) flash
  -- one that asks for more is not replied to
  pub too_many : (count : ℕ) → 36 < count → Unreplied 0x44 count
  -- and neither is a read of any other command, whatever it asks for
  pub other_command : (command count : ℕ) → (command ≡ 0x44 → ⊥) → Unreplied command count
  -- no read changes the flash
  pub flash : (f : Fate) (command count : ℕ) (gauge : Gauge) (bytes : List ℕ) → (effect_of f (read command count) gauge bytes).flash ≡ bytes
  -- the reply at any pointer is what it says and the PEC, which covers 16, 44, 17 and that
  pub reply : (gauge : Gauge) (flash : List ℕ)
      → reply_of gauge flash ≡ said gauge.pointer flash ++ (pec_of 0 (0x16 ∷ 0x44 ∷ 0x17 ∷ said gauge.pointer flash) ∷ [])
  -- and has 36 bytes
  pub whole : (gauge : Gauge) (flash : List ℕ) → length (reply_of gauge flash) ≡ 36
  -- what a write or a read hands back is what the host hears, how many bytes came and the gauge, as they are
  pub handed : (e : Effect) → handed_back e ≡ record { outcome = e.outcome; replied = length e.reply; gauge = e.gauge }
