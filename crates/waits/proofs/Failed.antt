-- A failed attempt of a call whose waits are few: the counts are nowhere near their largest number, so that they grow by what is added to them.
-- Assumes nothing.
use Prim.Native.Nat.{ℕ, ◌+◌, ◌-◌, ◌*◌, ◌≤◌}
use mathlib.Core.Path.{◌≡◌}
use mathlib.Core.Bool.{Bool, false}
use mathlib.Core.Logic.{◌⊎◌, inl, inr}
use native.Mathlib.Omega.{arith}
use Rattle.engine.specs.Budget.{wait_of}
use Rattle.engine.proofs.Laws.{laws}
use Rattle.engine.specs.declared.budget.Budget.{Budget}
use Rattle.engine.specs.declared.budget.Tally.{Tally}
use Rattle.engine.specs.declared.bus.Phase.{Phase}
use Rattle.engine.specs.declared.bus.Phase.TheVariants as phase
use Rattle.answers.specs.Steps.{Unwaited, FailedOnce}
use Rattle.waits.specs.Waits.{Growth, none, one}
use Rattle.waits.proofs.Costs.{wait_length, length_most}

-- the waits of a call are at most those of 256 frames with 65,535 retries each
abbrev pub Few : Tally → Type 0
Few tally = tally.waits ≤ 256 * 65535

-- and each is 80 ms at the most
abbrev pub Short : Tally → Type 0
Short tally = tally.waited_ms ≤ 80 * tally.waits

-- with waits of one length the total is ten times their count
abbrev pub Tens : Bool → Tally → Type 0
Tens growing tally = growing ≡ false → tally.waited_ms ≡ tally.waits * 10

-- one wait more, of its length; or the call has ended, with none
abbrev pub Missed : (r : ℕ) (growing : Bool) → Budget → Tally → Phase → Budget → Tally → Type 0
Missed r growing left tally p left' tally' =
    ((left'.left + 1 ≡ left.left) × (tally'.waits ≡ tally.waits + 1) × (tally'.waited_ms ≡ tally.waited_ms + wait_of growing (r - left.left)))
    ⊎ ((p ≡ phase.Waiting → ⊥) × (left.left ≡ 0) × Unwaited tally tally')

module _ (r : ℕ) (growing : Bool) (left left' : Budget) (tally tally' : Tally) (p : Phase) (short : Short tally) (few : Few tally') where
  pub missed : FailedOnce r growing left tally p left' tally' → Missed r growing left tally p left' tally'
  missed (inl (waits, less, more, grown)) =
      let most = length_most growing (wait_of growing (r - left.left)) (wait_length growing (r - left.left)) in
      inl (less, omega (arith, few, more), omega (arith, few, more, grown, short, most))
  missed (inr (over, last, kept, same)) = inr (over, last, same)

  pub misses_short : Missed r growing left tally p left' tally' → Short tally'
  misses_short (inl (less, more, grown)) =
      let most = length_most growing (wait_of growing (r - left.left)) (wait_length growing (r - left.left)) in
      omega (arith, more, grown, short, most)
  misses_short (inr (over, last, (waits, same))) = omega (arith, waits, same, short)

  pub misses_ten : Tens growing tally → Missed r growing left tally p left' tally' → Tens growing tally'
  misses_ten tens (inl (less, more, grown)) off =
      let ten : wait_of growing (r - left.left) ≡ 10 = rw off (laws.steady (r - left.left)) in
      let before = tens off in
      omega (arith, ten, before, more, grown)
  misses_ten tens (inr (over, last, (waits, same))) off = let before = tens off in omega (arith, before, waits, same)

  pub misses_grow : Missed r growing left tally p left' tally' → Growth growing tally tally'
  misses_grow (inl (less, more, grown)) = one (wait_of growing (r - left.left)) (wait_length growing (r - left.left)) more grown
  misses_grow (inr (over, last, (waits, same))) = none waits same
