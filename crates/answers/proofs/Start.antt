-- At the start each answer is given exactly when its row says so.
-- Assumes nothing.
use Prim.Native.Nat.{ℕ, ◌+◌, ◌≤◌, ◌<◌}
use mathlib.Core.Path.{◌≡◌, refl}
use mathlib.Core.Bool.{Bool, true, false}
use mathlib.Core.Logic.{◌⊎◌, inl, inr, ◌↔◌}
use native.Mathlib.Omega.{arith}
use lib.Dec.{ltb, eqb}
use borrow.Author.Tests.{ltb-true, ltb-false, eqb-true, eqb-false, lt-ltb, le-ltb, eq-eqb, ne_eqb}
use Rattle.protocol.specs.Pick.{when◌then◌else◌}
use Rattle.protocol.specs.Window.{in_window}
use Rattle.protocol.proofs.WindowLaws.{empty, outside, without}
use Rattle.protocol.specs.declared.error.Answer.TheVariants as answer
use Rattle.engine.specs.Limit.{windowed, commanded, measured, admitted}
use Rattle.engine.specs.declared.bus.Phase.{Phase}
use Rattle.engine.specs.declared.bus.Phase.TheVariants as phase
use Rattle.engine.specs.declared.limit.Limit.{Limit}
use Rattle.engine.specs.declared.limit.Limit.TheVariants as limit
use Rattle.answers.specs.Rows.{Says, Starts, nothing_to_do, too_large, large_input, large_output, below, beyond, input_given, wrong_size, short_work}
use Rattle.answers.proofs.Laws.{InTable, row_of}

-- what a phase says of the start
abbrev Holds : Limit → ℕ → ℕ → ℕ → Phase → Type 0
Holds l start n w = InTable (Starts start n w l)

-- ---- an answer that is given is its row's

windowed_holds : (start n w : ℕ) → 39 ≤ w → Holds limit.Window start n w (windowed start n)
unfolding windowed when◌then◌else◌
windowed_holds start n w k = by (in_window start n) refl (eqb n 0) refl
  where
    out : 0 < n → (start < 0x4000) ⊎ (0x6000 < start + n) → Starts start n w limit.Window 5 0
    out some (inl h) = below k some h
    out some (inr h) = beyond k some (omega arith)

    by : (t : Bool) → in_window start n ≡ t → (z : Bool) → eqb n 0 ≡ z → Holds limit.Window start n w (windowed start n)
    by false t z q = let h = without start n t in rw t (out h.0 h.1)
    by true t true q = rw (t, q) (nothing_to_do k (eqb-true n 0 q))
    by true t false q = rw (t, q) tt

commanded_holds : (input start n w : ℕ) → 39 ≤ w → Holds (limit.Command input) start n w (commanded input n)
unfolding commanded when◌then◌else◌
commanded_holds input start n w k = by (ltb 32 input) refl (ltb 32 n) refl (eqb input 0) refl
  where
    by : (a : Bool) → ltb 32 input ≡ a → (b : Bool) → ltb 32 n ≡ b → (c : Bool) → eqb input 0 ≡ c → Holds (limit.Command input) start n w (commanded input n)
    by true a b p c q = rw a (large_input input k (ltb-true _ _ a))
    by false a true p c q = rw (a, p) (large_output input k (ltb-true _ _ p))
    by false a false p true q = rw (a, p, q) tt
    by false a false p false q = let h = eqb-false input 0 q in rw (a, p, q) (input_given input k (omega arith) (ltb-false _ _ a) (ltb-false _ _ p))

measured_holds : (l : Limit) (start n w : ℕ) → 39 ≤ w → Holds l start n w (measured l start n)
unfolding measured when◌then◌else◌
measured_holds limit.Free start n w k = tt
measured_holds (limit.AtMost most) start n w k = by (ltb most n) refl
  where
    by : (t : Bool) → ltb most n ≡ t → Holds (limit.AtMost most) start n w (measured (limit.AtMost most) start n)
    by true t = rw t (too_large most k (ltb-true _ _ t))
    by false t = rw t tt
measured_holds (limit.Exactly size) start n w k = by (eqb n size) refl
  where
    by : (t : Bool) → eqb n size ≡ t → Holds (limit.Exactly size) start n w (measured (limit.Exactly size) start n)
    by true t = rw t tt
    by false t = rw t (wrong_size size k (eqb-false _ _ t))
measured_holds limit.Window start n w k = windowed_holds start n w k
measured_holds (limit.Command input) start n w k = commanded_holds input start n w k

admitted_holds : (l : Limit) (start n w : ℕ) → Holds l start n w (admitted l start n w)
unfolding admitted when◌then◌else◌
admitted_holds l start n w = by (ltb w 39) refl
  where
    by : (t : Bool) → ltb w 39 ≡ t → Holds l start n w (admitted l start n w)
    by true t = rw t (short_work l (ltb-true _ _ t))
    by false t = rw t (measured_holds l start n w (ltb-false _ _ t))

-- ---- and a row that holds is answered

module _ (start n w : ℕ) where
  large : (t : Bool) → Says 4 0 (when t then phase.Ended answer.DataTooLarge else phase.Ended answer.DataTooLarge)
  unfolding when◌then◌else◌
  large true = (refl, refl)
  large false = (refl, refl)

  admitted_row : (l : Limit) (k d : ℕ) → Starts start n w l k d → Says k d (admitted l start n w)
  unfolding admitted measured windowed commanded when◌then◌else◌
  admitted_row l k d (nothing_to_do room none) = rw (le-ltb w 39 room, empty start n none, eq-eqb n 0 none) (refl, refl)
  admitted_row l k d (too_large most room h) = rw (le-ltb w 39 room, lt-ltb most n h) (refl, refl)
  admitted_row l k d (large_input input room h) = rw (le-ltb w 39 room, lt-ltb 32 input h) (refl, refl)
  admitted_row l k d (large_output input room h) = rw (le-ltb w 39 room, lt-ltb 32 n h) (large (ltb 32 input))
  admitted_row l k d (below room some h) = rw (le-ltb w 39 room, outside start n some (inl h)) (refl, refl)
  admitted_row l k d (beyond room some h) = rw (le-ltb w 39 room, outside start n some (inr (omega arith))) (refl, refl)
  admitted_row l k d (input_given input room some h j) =
      let p : input ≡ 0 → ⊥ = λ e. omega arith in
      rw (le-ltb w 39 room, le-ltb 32 input h, le-ltb 32 n j, ne_eqb input 0 p) (refl, refl)
  admitted_row l k d (wrong_size size room h) = rw (le-ltb w 39 room, ne_eqb n size h) (refl, refl)
  admitted_row l k d (short_work any h) = rw (lt-ltb w 39 h) (refl, refl)

-- THE TABLE AT THE START
pub starts : (l : Limit) (start n w k d : ℕ) → Says k d (admitted l start n w) ↔ Starts start n w l k d
starts l start n w k d = (row_of (Starts start n w l) (admitted l start n w) (admitted_holds l start n w) k d, admitted_row start n w l k d)
