-- A loop over a course, byte by byte.
-- Assumes nothing.
use Prim.Native.Nat.{ℕ, ◌+◌, ◌≤◌, ◌<◌}
use mathlib.Core.Path.{◌≡◌}
use mathlib.Core.Bool.{true, false}
use mathlib.Core.List.{List, [], ◌∷◌}
use native.Mathlib.Numerals.{add-one}
use lib.ListN.{length, drop, get_or, drop_of_length-le}
use lib.Seq.{drop-cons}
use borrow.Author.Tests.{lt-ltb, le-ltb}
use Rattle.protocol.specs.Pick.{when◌then◌else◌}
use Rattle.courses.specs.Course.{fate_of, fates_of, sound_of}
use Rattle.courses.specs.Run.{World, step_of, drive_of}
use Rattle.model_gauge.specs.declared.gauge.Fate.{Fate}

-- ---- whether it is sound

pub sound_stop : (course : List ℕ) (i : ℕ) → i < length course → 2 < get_or course i 0 → sound_of (drop i course) ≡ false
unfolding sound_of when◌then◌else◌
sound_stop course i h bad = rw (drop-cons course i 0 h, lt-ltb 2 (get_or course i 0) bad)

pub sound_on : (course : List ℕ) (i : ℕ) → i < length course → get_or course i 0 ≤ 2 → sound_of (drop (i + 1) course) ≡ sound_of (drop i course)
unfolding sound_of when◌then◌else◌
sound_on course i h good = rw (add-one, drop-cons course i 0 h, le-ltb 2 (get_or course i 0) good)

pub sound_all : (course : List ℕ) (i : ℕ) → length course ≤ i → sound_of (drop i course) ≡ true
unfolding sound_of
sound_all course i h = rw (drop_of_length-le course h)

-- ---- its fates

pub fates_next : (course : List ℕ) (i : ℕ) → i < length course → fates_of (drop i course) ≡ fate_of (get_or course i 0) ∷ fates_of (drop (i + 1) course)
unfolding fates_of
fates_next course i h = rw (add-one, drop-cons course i 0 h)

pub fates_done : (course : List ℕ) (i : ℕ) → length course ≤ i → fates_of (drop i course) ≡ []
unfolding fates_of
fates_done course i h = rw (drop_of_length-le course h)

-- a turn takes the next byte
pub drive_turn : (payload course : List ℕ) (i : ℕ) (f : Fate) (w v : World) → i < length course → f ≡ fate_of (get_or course i 0) → v ≡ step_of payload f w
    → drive_of payload (fates_of (drop (i + 1) course)) v ≡ drive_of payload (fates_of (drop i course)) w
unfolding drive_of
drive_turn payload course i f w v h p q = rw (fates_next course i h, ← p, q)

-- at the end of the course nothing is left to do
pub drive_done : (payload course : List ℕ) (i : ℕ) (w : World) → length course ≤ i → drive_of payload (fates_of (drop i course)) w ≡ w
unfolding drive_of
drive_done payload course i w h = rw (fates_done course i h)
