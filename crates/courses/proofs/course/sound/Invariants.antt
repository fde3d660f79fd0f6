-- `courses::course::sound` meets its contract: the bytes passed are sound, so the rest decides.
-- Assumes nothing.
use Prim.Native.Nat.{◌≤◌}
use mathlib.Core.Path.{◌≡◌}
use lib.ListN.{length, drop}
use Rattle.courses.specs.Course.{sound_of}
use Rattle.courses.proofs.course.sound.Given as goal

abbrev pub invariant-loop-byte : goal.invariant-loop-byte
invariant-loop-byte l = (l.byte-index ≤ length l.course) × (sound_of (drop l.byte-index l.course) ≡ sound_of l.course)
