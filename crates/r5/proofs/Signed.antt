-- A signed figure of 16 bits, as the machine holds it, and as `bits_of` and `figure_of` say.
-- Assumes nothing.
use Prim.Native.Nat.{ℕ, ◌+◌, ◌-◌, ◌*◌}
use mathlib.Core.Path.{◌≡◌, refl, ap}
use mathlib.Core.Bool.{Bool, true, false}
use native.Mathlib.Omega.{arith}
use lib.Dec.{ltb}
use lib.IntN.{ℤ, pos, negsuc}
use mir.Syntax.{w16}
use mir.Val.{of_z, to_z}
use Rattle.protocol.specs.Pick.{when◌then◌else◌}
use Rattle.r5.specs.Voltage.{bits_of, figure_of}

pub bits : (z : ℤ) → of_z w16 z ≡ bits_of z
unfolding bits_of
bits (pos n) = refl
bits (negsuc n) = omega arith

pub figure : (low high : ℕ) → to_z w16 (low + high * 256) ≡ figure_of low high
unfolding figure_of when◌then◌else◌
figure low high =
    let e : low + high * 256 ≡ high * 256 + low = omega arith in
    rw e (by (ltb (high * 256 + low) 32768) refl)
  where
    n : ℕ
    n = high * 256 + low

    by : (t : Bool) → ltb n 32768 ≡ t → to_z w16 n ≡ when t then pos n else negsuc (65535 - n)
    by true t = rw t
    by false t = rw t (ap negsuc (omega arith))
