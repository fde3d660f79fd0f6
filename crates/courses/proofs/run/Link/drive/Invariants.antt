-- `courses::run::Link::drive` meets its contract: the transfers made and those to come are all of them.
-- Assumes nothing.
use Prim.Native.Nat.{◌≤◌}
use mathlib.Core.Path.{◌≡◌}
use lib.ListN.{length, drop}
use Rattle.courses.specs.Run.{world, drive_of}
use Rattle.courses.specs.Course.{fates_of}
use Rattle.courses.proofs.run.Link.drive.Given as goal

abbrev pub invariant-loop-byte : goal.invariant-loop-byte
invariant-loop-byte l =
    (l.byte-index ≤ length l.course)
    × ((drive_of l.payload (fates_of (drop l.byte-index l.course)) (world l.link l.buffer l.work l.flash) ≡ drive_of l.payload (fates_of l.course) (world l.initial.link l.initial.buffer l.initial.work l.initial.flash))
    × ((length l.buffer ≡ length l.initial.buffer) × ((length l.work ≡ length l.initial.work) × (length l.flash ≡ length l.initial.flash))))
