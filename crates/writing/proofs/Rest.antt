-- What the frames come to that have no row of their own, for the functions that give the rest of them one answer.
-- Assumes nothing.
use Prim.Native.Nat.{ℕ}
use mathlib.Core.Path.{◌≡◌, refl}
use mathlib.Core.Bool.{false}
use Rattle.engine.specs.Pick.{case◌acknowledged◌error◌timeout◌}
use Rattle.engine.specs.declared.bus.Outcome.{Outcome}
use Rattle.engine.specs.declared.bus.Outcome.TheVariants as outcome
use Rattle.writing.specs.Frames.{is_plain, is_flash, first_address, frame_count}
use Rattle.writing.specs.Writing.{replied_of}
use Rattle.writing.specs.declared.frames.Frames.{Frames}
use Rattle.writing.specs.declared.frames.Frames.TheVariants as frames

-- any but those that the caller built
pub built : (fs : Frames) → (fs ≡ frames.Plain → ⊥) → false ≡ is_plain fs
unfolding is_plain
built frames.Plain h = absurd (h refl)
built (frames.Register address) h = refl
built frames.MfgInfo h = refl
built (frames.Mac command) h = refl
built (frames.AccessKey lower upper) h = refl
built (frames.MfgInfoC lower upper) h = refl
built (frames.DataFlash start) h = refl

-- any but those of data flash
pub elsewhere : (fs : Frames) → ((start : ℕ) → fs ≡ frames.DataFlash start → ⊥) → (false ≡ is_flash fs) × (0 ≡ first_address fs)
unfolding is_flash first_address
elsewhere frames.Plain h = (refl, refl)
elsewhere (frames.Register address) h = (refl, refl)
elsewhere frames.MfgInfo h = (refl, refl)
elsewhere (frames.Mac command) h = (refl, refl)
elsewhere (frames.AccessKey lower upper) h = (refl, refl)
elsewhere (frames.MfgInfoC lower upper) h = (refl, refl)
elsewhere (frames.DataFlash start) h = absurd (h start refl)

-- any of one frame
pub single : (fs : Frames) (n : ℕ) → ((lower upper : ℕ) → fs ≡ frames.AccessKey lower upper → ⊥) → ((lower upper : ℕ) → fs ≡ frames.MfgInfoC lower upper → ⊥)
    → ((start : ℕ) → fs ≡ frames.DataFlash start → ⊥) → 1 ≡ frame_count fs n
unfolding frame_count
single frames.Plain n h i j = refl
single (frames.Register address) n h i j = refl
single frames.MfgInfo n h i j = refl
single (frames.Mac command) n h i j = refl
single (frames.AccessKey lower upper) n h i j = absurd (h lower upper refl)
single (frames.MfgInfoC lower upper) n h i j = absurd (i lower upper refl)
single (frames.DataFlash start) n h i j = absurd (j start refl)

-- a failure brings no reply
pub failed : (o : Outcome) → (o ≡ outcome.Acknowledged → ⊥) → (n : ℕ) → false ≡ replied_of o n
unfolding replied_of case◌acknowledged◌error◌timeout◌
failed outcome.Acknowledged h n = absurd (h refl)
failed (outcome.BusError code) h n = refl
failed outcome.Timeout h n = refl
