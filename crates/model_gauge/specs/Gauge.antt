-- The gauge: what a transfer comes to, by what becomes of it on its way. (01, The model gauge)
-- Assumes nothing.
use Rattle.std.specs.Prelude.{ℕ, ◌+◌, ◌-◌, ◌/◌, ◌%◌, min, Bool, false, List, [], ◌∷◌, ◌++◌, length, take, drop, replicate, leb, eqb}
use Rattle.smbus_pec.specs.Pec.{pec_of}
use Rattle.protocol.specs.Pick.{when◌then◌else◌}
use Rattle.protocol.specs.Bytes.{over, stored_at}
use Rattle.protocol.specs.Window.{in_window}
use Rattle.engine.specs.Made.{Made, write, read}
use Rattle.engine.specs.declared.bus.Outcome.{Outcome}
use Rattle.engine.specs.declared.bus.Outcome.TheVariants as outcome
use Rattle.model_gauge.specs.Frame.{read_frame}
use Rattle.model_gauge.specs.declared.frame.Form.{Form}
use Rattle.model_gauge.specs.declared.frame.Form.TheVariants as form
use Rattle.model_gauge.specs.declared.gauge.Effect as handed
use Rattle.model_gauge.specs.declared.gauge.Fate.{Fate}
use Rattle.model_gauge.specs.declared.gauge.Fate.TheVariants as fate
use Rattle.model_gauge.specs.declared.gauge.Gauge.{Gauge}

-- the read pointer, first 4000
unfoldable pub new_gauge : Gauge
new_gauge = record { pointer = 0x4000 }

-- the flash has the byte of 4000 first
abbrev pub offset_of : ℕ → ℕ
offset_of address = address - 0x4000

-- 32 bytes, FF past the end
unfoldable pub block_at : ℕ → List ℕ → List ℕ
block_at at flash = over (take 32 (drop at flash)) (replicate 32 0xFF)

-- 22 hex, the pointer low byte first, 32 bytes
unfoldable pub reply_front : Gauge → List ℕ → List ℕ
reply_front gauge flash =
    (0x22 ∷ gauge.pointer % 256 ∷ gauge.pointer / 256 ∷ []) ++ block_at (offset_of gauge.pointer) flash

-- and the PEC, of 16, 44, 17 and the reply before it
unfoldable pub reply_of : Gauge → List ℕ → List ℕ
reply_of gauge flash = reply_front gauge flash ++ (pec_of 0 (0x16 ∷ 0x44 ∷ 0x17 ∷ reply_front gauge flash) ∷ [])

-- the pointer grows by 32, at most to 6000 hex
unfoldable pub moved_of : Gauge → Gauge
moved_of gauge = record { pointer = min (gauge.pointer + 32) 0x6000 }

-- a read of 44, of at most 36 bytes
unfoldable pub replies_to : ℕ → ℕ → Bool
replies_to command count = when eqb command 0x44 then leb count 36 else false

-- what a transfer comes to: what the host hears, the bytes that a read brings, the flash and the gauge after it
pub record Effect : Type 0 where
  pub outcome : Outcome
  pub reply : List ℕ
  pub flash : List ℕ
  pub gauge : Gauge

-- what is taken: acknowledged
abbrev pub taken : List ℕ → Gauge → List ℕ → Effect
taken reply gauge flash = record { outcome = outcome.Acknowledged; reply = reply; flash = flash; gauge = gauge }

-- what is not taken: a bus error with code 0, and nothing changes
abbrev pub untaken : Gauge → List ℕ → Effect
untaken gauge flash = record { outcome = outcome.BusError 0; reply = []; flash = flash; gauge = gauge }

-- what is lost: a timeout, and no reply
abbrev pub lost : Gauge → List ℕ → Effect
lost gauge flash = record { outcome = outcome.Timeout; reply = []; flash = flash; gauge = gauge }

-- a frame by its form: a block write wholly inside the window is stored; an address inside it sets the pointer; anything else is not taken
unfoldable pub heard_frame : Form → List ℕ → Gauge → List ℕ → Effect
heard_frame (form.BlockWrite address count) frame gauge flash =
    when in_window address count then taken [] gauge (stored_at (offset_of address) count (take count (drop 4 frame)) flash)
    else untaken gauge flash
heard_frame (form.Address address) frame gauge flash =
    when in_window address 1 then taken [] (record { pointer = address }) flash else untaken gauge flash
heard_frame form.Other frame gauge flash = untaken gauge flash

-- a read that is replied to brings the reply cut to the number asked, and moves the pointer on
unfoldable pub heard_read : ℕ → ℕ → Gauge → List ℕ → Effect
heard_read command count gauge flash =
    when replies_to command count then taken (take count (reply_of gauge flash)) (moved_of gauge) flash else untaken gauge flash

-- a transfer that is heard
unfoldable pub acts : Made → Gauge → List ℕ → Effect
acts (write frame) gauge flash = heard_frame (read_frame frame) frame gauge flash
acts (read command count) gauge flash = heard_read command count gauge flash

-- what a frame stores, wherever the gauge points
unfoldable pub stored : List ℕ → List ℕ → List ℕ
stored frame flash = (acts (write frame) new_gauge flash).flash

-- lost before the gauge acts, nothing changes; lost after, flash and gauge are as where it is heard
unfoldable pub effect_of : Fate → Made → Gauge → List ℕ → Effect
effect_of fate.Heard made gauge flash = acts made gauge flash
effect_of fate.LostBefore made gauge flash = lost gauge flash
effect_of fate.LostAfter made gauge flash = lost (acts made gauge flash).gauge (acts made gauge flash).flash

-- what is handed back of an effect; flash and reply are lent
abbrev pub handed_back : Effect → handed.Effect
handed_back e = record { outcome = e.outcome; replied = length e.reply; gauge = e.gauge }
