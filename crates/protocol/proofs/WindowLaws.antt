-- The window in numbers, which proofs above cite: what is empty or lies between 4000 and 6000 hex passes, and nothing else does.
-- Assumes nothing.
use Prim.Native.Nat.{ℕ, ◌+◌, ◌-◌, ◌≤◌, ◌<◌}
use mathlib.Core.Path.{◌≡◌, refl, sym, ◌∙◌}
use mathlib.Core.Bool.{Bool, true, false, false≢true}
use mathlib.Core.Logic.{◌⊎◌, inl, inr}
use native.Mathlib.Omega.{arith}
use lib.Dec.{leb, eqb}
use borrow.Author.Tests.{le-leb, lt-leb, leb-true, leb-false, ne_eqb, eqb-true, eqb-false}
use Rattle.protocol.specs.Window.{in_window, in_window_by_last}

-- an empty transfer passes at any address
pub empty : (start len : ℕ) → len ≡ 0 → in_window start len ≡ true
unfolding in_window
empty start len none = rw none

-- one that lies wholly inside passes
pub inside : (start len : ℕ) → 0x4000 ≤ start → start + len ≤ 0x6000 → in_window start len ≡ true
unfolding in_window
inside start len low high = by (eqb len 0) refl
  where
    by : (t : Bool) → eqb len 0 ≡ t → in_window start len ≡ true
    by true t = rw t
    by false t =
        let some = eqb-false len 0 t in
        rw (t, le-leb 0x4000 start low, le-leb start 0x5FFF (omega arith), le-leb len (0x6000 - start) (omega arith))

-- one that is not empty and starts before the window or runs past its end does not
pub outside : (start len : ℕ) → 0 < len → (start < 0x4000) ⊎ (0x6000 < start + len) → in_window start len ≡ false
unfolding in_window
outside start len some (inl low) = rw (ne_eqb len 0 (λ e. omega arith), lt-leb 0x4000 start low)
outside start len some (inr far) = by (leb 0x4000 start) refl (leb start 0x5FFF) refl
  where
    by : (a : Bool) → leb 0x4000 start ≡ a → (b : Bool) → leb start 0x5FFF ≡ b → in_window start len ≡ false
    by true a true b = rw (ne_eqb len 0 (λ e. omega arith), a, b, lt-leb len (0x6000 - start) (omega (arith, leb-true start 0x5FFF b)))
    by true a false b = rw (ne_eqb len 0 (λ e. omega arith), a, b)
    by false a t b = rw (ne_eqb len 0 (λ e. omega arith), a)

-- so what passes and is not empty lies inside
pub within : (start len : ℕ) → in_window start len ≡ true → 0 < len → (0x4000 ≤ start) × (start + len ≤ 0x6000)
within start len e some = by (leb 0x4000 start) refl (leb (start + len) 0x6000) refl
  where
    not_out : (start < 0x4000) ⊎ (0x6000 < start + len) → ⊥
    not_out off = false≢true (sym (outside start len some off) ∙ e)

    by : (a : Bool) → leb 0x4000 start ≡ a → (b : Bool) → leb (start + len) 0x6000 ≡ b → (0x4000 ≤ start) × (start + len ≤ 0x6000)
    by true a true b = (leb-true _ _ a, leb-true _ _ b)
    by true a false b = absurd (not_out (inr (leb-false _ _ b)))
    by false a t b = absurd (not_out (inl (leb-false _ _ a)))

-- and what does not pass is not empty, and starts before the window or runs past its end
pub without : (start len : ℕ) → in_window start len ≡ false → (0 < len) × ((start < 0x4000) ⊎ (0x6000 < start + len))
without start len e = by (eqb len 0) refl (leb 0x4000 start) refl (leb (start + len) 0x6000) refl
  where
    refused : in_window start len ≡ true → ⊥
    refused passes = false≢true (sym e ∙ passes)

    by : (z : Bool) → eqb len 0 ≡ z → (a : Bool) → leb 0x4000 start ≡ a → (b : Bool) → leb (start + len) 0x6000 ≡ b
        → (0 < len) × ((start < 0x4000) ⊎ (0x6000 < start + len))
    by true z a p b q = absurd (refused (empty start len (eqb-true len 0 z)))
    by false z true p true q = absurd (refused (inside start len (leb-true _ _ p) (leb-true _ _ q)))
    by false z true p false q = let some = eqb-false len 0 z in (omega arith, inr (leb-false _ _ q))
    by false z false p b q = let some = eqb-false len 0 z in (omega arith, inl (leb-false _ _ p))

-- what is left past the first b bytes passes too
pub window_rest : (start len b : ℕ) → in_window start len ≡ true → b ≤ len → in_window (start + b) (len - b) ≡ true
window_rest start len b e l = by (eqb len 0) refl
  where
    by : (t : Bool) → eqb len 0 ≡ t → in_window (start + b) (len - b) ≡ true
    by true t = let none = eqb-true len 0 t in empty (start + b) (len - b) (omega arith)
    by false t =
        let some = eqb-false len 0 t in
        let w = within start len e (omega arith) in
        inside (start + b) (len - b) (omega (arith, w.0)) (omega (arith, w.1, l))

-- every answer is that of document 01's formula
pub by_last : (start len : ℕ) → in_window start len ≡ in_window_by_last start len
unfolding in_window_by_last
by_last start len = by (eqb len 0) refl (leb 0x4000 start) refl (leb (start + (len - 1)) 0x5FFF) refl
  where
    by : (z : Bool) → eqb len 0 ≡ z → (a : Bool) → leb 0x4000 start ≡ a → (b : Bool) → leb (start + (len - 1)) 0x5FFF ≡ b → in_window start len ≡ in_window_by_last start len
    by true z a p b q = rw (empty start len (eqb-true len 0 z), z)
    by false z true p true q =
        let some = eqb-false len 0 z in rw (inside start len (leb-true _ _ p) (omega (arith, leb-true (start + (len - 1)) 0x5FFF q)), z, p, q)
    by false z true p false q =
        let some = eqb-false len 0 z in rw (outside start len (omega arith) (inr (omega (arith, leb-false (start + (len - 1)) 0x5FFF q))), z, p, q)
    by false z false p b q = let some = eqb-false len 0 z in rw (outside start len (omega arith) (inl (leb-false _ _ p)), z, p)
