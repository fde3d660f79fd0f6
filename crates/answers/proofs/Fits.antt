-- What a call that waits at its start has been found to fit.
-- Assumes nothing.
use Prim.Native.Nat.{ℕ, ◌+◌, ◌-◌, ◌≤◌, ◌<◌}
use mathlib.Core.Path.{◌≡◌, refl}
use mathlib.Core.Bool.{Bool, true, false}
use native.Mathlib.Omega.{arith}
use lib.Dec.{ltb, eqb}
use borrow.Author.Tests.{ltb-false, eqb-true, eqb-false}
use Rattle.protocol.specs.Pick.{when◌then◌else◌}
use Rattle.protocol.specs.Bytes.{blocks_of}
use Rattle.protocol.specs.Window.{in_window}
use Rattle.protocol.proofs.WindowLaws.{within}
use Rattle.engine.specs.Limit.{windowed, commanded, measured, admitted}
use Rattle.engine.specs.declared.bus.Phase.TheVariants as phase
use Rattle.engine.specs.declared.limit.Limit.{Limit}
use Rattle.engine.specs.declared.limit.Limit.TheVariants as limit
use Rattle.answers.specs.Within.{Inside}

-- what its limit has found
abbrev pub Fits : Limit → ℕ → ℕ → Type 0
Fits limit.Free start n = Unit {0}
Fits (limit.AtMost most) start n = n ≤ most
Fits (limit.Exactly size) start n = n ≡ size
Fits limit.Window start n = (0 < n) × (0x4000 ≤ start) × (start + (n - 1) ≤ 0x5FFF)
Fits (limit.Command input) start n = n ≤ 32

window_fits : (start n : ℕ) → windowed start n ≡ phase.Waiting → Fits limit.Window start n
unfolding windowed when◌then◌else◌
window_fits start n e = by (in_window start n) refl (eqb n 0) refl
  where
    by : (a : Bool) → in_window start n ≡ a → (b : Bool) → eqb n 0 ≡ b → Fits limit.Window start n
    by false a b p = let z : ◌≡◌ {A = ℕ} 0 1 = cc (rw a at e) in absurd (omega arith)
    by true a true p = let z : ◌≡◌ {A = ℕ} 0 1 = cc (rw (a, p) at e) in absurd (omega arith)
    by true a false p =
        let h = eqb-false n 0 p in
        let w = within start n a (omega arith) in
        (omega arith, w.0, omega (arith, w.1))

command_fits : (input n : ℕ) → commanded input n ≡ phase.Waiting → n ≤ 32
unfolding commanded when◌then◌else◌
command_fits input n e = by (ltb 32 input) refl (ltb 32 n) refl
  where
    by : (a : Bool) → ltb 32 input ≡ a → (b : Bool) → ltb 32 n ≡ b → n ≤ 32
    by true a b p = let z : ◌≡◌ {A = ℕ} 0 1 = cc (rw a at e) in absurd (omega arith)
    by false a true p = let z : ◌≡◌ {A = ℕ} 0 1 = cc (rw (a, p) at e) in absurd (omega arith)
    by false a false p = ltb-false _ _ p

fits : (l : Limit) (start n : ℕ) → measured l start n ≡ phase.Waiting → Fits l start n
unfolding measured when◌then◌else◌
fits limit.Free start n e = tt
fits (limit.AtMost most) start n e = by (ltb most n) refl
  where
    by : (t : Bool) → ltb most n ≡ t → n ≤ most
    by true t = let z : ◌≡◌ {A = ℕ} 0 1 = cc (rw t at e) in absurd (omega arith)
    by false t = ltb-false _ _ t
fits (limit.Exactly size) start n e = by (eqb n size) refl
  where
    by : (t : Bool) → eqb n size ≡ t → n ≡ size
    by true t = eqb-true _ _ t
    by false t = let z : ◌≡◌ {A = ℕ} 0 1 = cc (rw t at e) in absurd (omega arith)
fits limit.Window start n e = window_fits start n e
fits (limit.Command input) start n e = command_fits input n e

pub admitted_fits : (l : Limit) (start n w : ℕ) → admitted l start n w ≡ phase.Waiting → (39 ≤ w) × Fits l start n
unfolding admitted when◌then◌else◌
admitted_fits l start n w e = by (ltb w 39) refl
  where
    by : (t : Bool) → ltb w 39 ≡ t → (39 ≤ w) × Fits l start n
    by true t = let z : ◌≡◌ {A = ℕ} 0 1 = cc (rw t at e) in absurd (omega arith)
    by false t = (ltb-false _ _ t, fits l start n (rw t at e))

-- blocks of what lies in the window start in it, and there are at most 256
pub blocks_inside : (start n i : ℕ) → Fits limit.Window start n → i < blocks_of n → Inside limit.Window start n i
blocks_inside start n i (some, low, high) h = (omega arith, omega arith)

pub blocks_few : (start n : ℕ) → Fits limit.Window start n → (0 < blocks_of n) × (blocks_of n ≤ 256)
blocks_few start n (some, low, high) = (omega arith, omega arith)
