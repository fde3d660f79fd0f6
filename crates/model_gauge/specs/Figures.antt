-- Figures of the model gauge on each side of a line, computed from the definitions. (01, The model gauge)
-- Assumes nothing.
use Rattle.std.specs.Prelude.{ℕ, ◌≡◌, refl, List, [], ◌∷◌, ◌++◌, take, replicate}
use Rattle.smbus_pec.specs.Pec.{bit_step, bit_steps, byte_step, pec_of}
use Rattle.protocol.specs.Pick.{when◌then◌else◌}
use Rattle.protocol.specs.Bytes.{over, block_in, stored_at}
use Rattle.protocol.specs.Window.{in_window}
use Rattle.engine.specs.Made.{Made, write, read}
use Rattle.engine.specs.declared.bus.Outcome.TheVariants as outcome
use Rattle.model_gauge.specs.Frame.{whole_of, form_of, read_frame}
use Rattle.model_gauge.specs.Gauge.{new_gauge, block_at, reply_front, reply_of, moved_of, replies_to, heard_frame, heard_read, acts, effect_of}
use Rattle.model_gauge.specs.Effects.{acknowledged, refused}
use Rattle.model_gauge.specs.declared.frame.Form.TheVariants as form
use Rattle.model_gauge.specs.declared.gauge.Fate.TheVariants as fate
use Rattle.model_gauge.specs.declared.gauge.Gauge.{Gauge}

-- the gauge that reads from an address on
abbrev pub reading : ℕ → Gauge
reading address = record { pointer = address }

-- 44, a count, the address 4000 hex, and n bytes 07
abbrev pub sevens : ℕ → ℕ → List ℕ
sevens count n = 0x44 ∷ count ∷ 0x00 ∷ 0x40 ∷ replicate n 7

-- the address frame of a low and a high byte
abbrev pub pointing : ℕ → ℕ → List ℕ
pointing low high = 0x44 ∷ 0x02 ∷ low ∷ high ∷ []

-- one byte at 3FFF hex
abbrev pub before_start : List ℕ
before_start = 0x44 ∷ 3 ∷ 0xFF ∷ 0x3F ∷ 7 ∷ []

-- two bytes at 5FFF hex
abbrev pub past_end : List ℕ
past_end = 0x44 ∷ 4 ∷ 0xFF ∷ 0x5F ∷ 7 ∷ 7 ∷ []

-- a frame that is heard sets the pointer to an address
abbrev pub Points : List ℕ → ℕ → Type 0
Points frame address = (gauge : Gauge) (flash : List ℕ) → effect_of fate.Heard (write frame) gauge flash ≡ acknowledged [] (reading address) flash

-- a transfer that is heard is not taken
abbrev pub Untaken : Made → Type 0
Untaken made = (gauge : Gauge) (flash : List ℕ) → effect_of fate.Heard made gauge flash ≡ refused gauge flash

pub record Figures : Type 0 where
  -- a new gauge reads from 4000 on
  pub new : new_gauge ≡ reading 0x4000
  -- an address frame sets the pointer, without its PEC and with it
  pub address : Points (pointing 0x00 0x40) 0x4000
  pub address_pec : Points (0x44 ∷ 0x02 ∷ 0x00 ∷ 0x40 ∷ 0xAB ∷ []) 0x4000
  -- one at 5FFF does, those at 3FFF and 6000 are not taken
  pub address_last : Points (pointing 0xFF 0x5F) 0x5FFF
  pub address_before : Untaken (write (pointing 0xFF 0x3F))
  pub address_past : Untaken (write (pointing 0x00 0x60))
  -- a wrong PEC
  pub wrong_pec : read_frame (0x44 ∷ 0x02 ∷ 0x00 ∷ 0x40 ∷ 0xAC ∷ []) ≡ form.Other
  pub wrong_pec_heard : Untaken (write (0x44 ∷ 0x02 ∷ 0x00 ∷ 0x40 ∷ 0xAC ∷ []))
  -- a frame of another command
  pub other_command : read_frame (0x45 ∷ 0x02 ∷ 0x00 ∷ 0x40 ∷ []) ≡ form.Other
  -- a block write of 1 byte, of 32 and of 33
  pub one : read_frame (sevens 3 1) ≡ form.BlockWrite 0x4000 1
  pub most : read_frame (sevens 34 32) ≡ form.BlockWrite 0x4000 32
  pub too_many : read_frame (sevens 35 33) ≡ form.Other
  -- what they store
  pub one_stored : (gauge : Gauge) → effect_of fate.Heard (write (sevens 3 1)) gauge (replicate 40 0xFF) ≡ acknowledged [] gauge (7 ∷ replicate 39 0xFF)
  pub most_stored : (gauge : Gauge) → (effect_of fate.LostAfter (write (sevens 34 32)) gauge (replicate 40 0xFF)).flash ≡ replicate 32 7 ++ replicate 8 0xFF
  pub lost : (gauge : Gauge) → (effect_of fate.LostBefore (write (sevens 34 32)) gauge (replicate 40 0xFF)).flash ≡ replicate 40 0xFF
  -- two bytes with the count of one, and with that of three
  pub count_low : read_frame (sevens 3 2) ≡ form.Other
  pub count_low_heard : Untaken (write (sevens 3 2))
  pub count_high : read_frame (sevens 5 2) ≡ form.Other
  pub count_high_heard : Untaken (write (sevens 5 2))
  -- a byte at 3FFF, and two bytes at 5FFF
  pub start_heard : Untaken (write before_start)
  pub end_heard : Untaken (write past_end)
  -- a read of 36 bytes and of 37
  pub read_36 : (gauge : Gauge) (flash : List ℕ) → (effect_of fate.Heard (read 0x44 36) gauge flash).outcome ≡ outcome.Acknowledged
  pub read_37 : Untaken (read 0x44 37)
  -- a read of another command
  pub read_other : Untaken (read 0x45 36)
  -- a read that is lost before leaves the pointer, one that is lost after moves it
  pub read_before : (flash : List ℕ) → (effect_of fate.LostBefore (read 0x44 36) (reading 0x4000) flash).gauge ≡ reading 0x4000
  pub read_after : (flash : List ℕ) → (effect_of fate.LostAfter (read 0x44 36) (reading 0x4000) flash).gauge ≡ reading 0x4020
  -- the reply at 5FFF has one byte of the flash, and that at 6000 none
  pub reply_last : take 35 (reply_of (reading 0x5FFF) (replicate 8192 7)) ≡ 0x22 ∷ 0xFF ∷ 0x5F ∷ 7 ∷ replicate 31 0xFF
  pub reply_past : take 35 (reply_of (reading 0x6000) (replicate 8192 7)) ≡ 0x22 ∷ 0x00 ∷ 0x60 ∷ replicate 32 0xFF
  -- the pointer goes from 5FF0 to 6000, and stays there
  pub to_end : (flash : List ℕ) → (effect_of fate.Heard (read 0x44 36) (reading 0x5FF0) flash).gauge ≡ reading 0x6000
  pub at_end : (flash : List ℕ) → (effect_of fate.Heard (read 0x44 36) (reading 0x6000) flash).gauge ≡ reading 0x6000

pub figures : Figures
unfolding new_gauge bit_step bit_steps byte_step pec_of when◌then◌else◌ over block_in stored_at in_window whole_of form_of read_frame block_at reply_front reply_of moved_of replies_to heard_frame heard_read acts effect_of
figures = record {
  new = refl;
  address = λ gauge flash. refl;
  address_pec = λ gauge flash. refl;
  address_last = λ gauge flash. refl;
  address_before = λ gauge flash. refl;
  address_past = λ gauge flash. refl;
  wrong_pec = refl;
  wrong_pec_heard = λ gauge flash. refl;
  other_command = refl;
  one = refl;
  most = refl;
  too_many = refl;
  one_stored = λ gauge. refl;
  most_stored = λ gauge. refl;
  lost = λ gauge. refl;
  count_low = refl;
  count_low_heard = λ gauge flash. refl;
  count_high = refl;
  count_high_heard = λ gauge flash. refl;
  start_heard = λ gauge flash. refl;
  end_heard = λ gauge flash. refl;
  read_36 = λ gauge flash. refl;
  read_37 = λ gauge flash. refl;
  read_other = λ gauge flash. refl;
  read_before = λ flash. refl;
  read_after = λ flash. refl;
  reply_last = refl;
  reply_past = refl;
  to_end = λ flash. refl;
  at_end = λ flash. refl;
}
