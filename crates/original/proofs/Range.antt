-- The original's test of a range is the window.
-- Assumes nothing.
use Prim.Native.Nat.{ℕ, ◌+◌, ◌-◌}
use mathlib.Core.Path.{◌≡◌, refl}
use mathlib.Core.Bool.{Bool, true, false}
use mathlib.Core.Logic.{inl, inr}
use native.Mathlib.Omega.{arith}
use lib.Dec.{ltb, eqb}
use borrow.Author.Tests.{ltb-true, ltb-false, eqb-true, eqb-false}
use Rattle.protocol.specs.Pick.{when◌then◌else◌}
use Rattle.protocol.specs.Window.{in_window}
use Rattle.protocol.proofs.WindowLaws.{empty, inside, outside}
use Rattle.original.specs.OriginalInterface.{check_df_range}

pub range_window : (start len : ℕ) → check_df_range start len ≡ in_window start len
unfolding check_df_range when◌then◌else◌
range_window start len = by (eqb len 0) refl (ltb start 0x4000) refl (ltb 0xFFFF (start + (len - 1))) refl (ltb 0x5FFF (start + (len - 1))) refl
  where
    by : (a : Bool) → eqb len 0 ≡ a → (b : Bool) → ltb start 0x4000 ≡ b → (c : Bool) → ltb 0xFFFF (start + (len - 1)) ≡ c → (d : Bool) → ltb 0x5FFF (start + (len - 1)) ≡ d
        → check_df_range start len ≡ in_window start len
    by true ea b eb c ec d ed = rw (empty start len (eqb-true len 0 ea), ea)
    by false ea true eb c ec d ed =
        let some = eqb-false len 0 ea in rw (outside start len (omega arith) (inl (ltb-true start 0x4000 eb)), ea, eb)
    by false ea false eb true ec d ed =
        let some = eqb-false len 0 ea in rw (outside start len (omega arith) (inr (omega (arith, ltb-true 0xFFFF (start + (len - 1)) ec))), ea, eb, ec)
    by false ea false eb false ec true ed =
        let some = eqb-false len 0 ea in rw (outside start len (omega arith) (inr (omega (arith, ltb-true 0x5FFF (start + (len - 1)) ed))), ea, eb, ec, ed)
    by false ea false eb false ec false ed =
        let some = eqb-false len 0 ea in
        rw (inside start len (ltb-false start 0x4000 eb) (omega (arith, ltb-false 0x5FFF (start + (len - 1)) ed)), ea, eb, ec, ed)
