-- What one wait more adds to what a budget's waits come to.
-- Assumes nothing.
use Prim.Native.Nat.{ℕ, zero, suc, ◌+◌, ◌*◌, ◌≤◌}
use mathlib.Core.Path.{◌≡◌, refl}
use mathlib.Core.Bool.{Bool, true, false}
use native.Mathlib.Omega.{arith}
use lib.Dec.{leb}
use borrow.Author.Tests.{leb-true, leb-false}
use Rattle.engine.specs.Budget.{wait_of}
use Rattle.engine.proofs.Laws.{laws}
use Rattle.waits.specs.Costs.{budget_cost}
use Rattle.waits.specs.Waits.{WaitLength, ten, twenty, forty, eighty}

-- the next wait of a budget
pub cost_step : (growing : Bool) (k : ℕ) → budget_cost growing (suc k) ≡ budget_cost growing k + wait_of growing k
unfolding budget_cost
cost_step false k = let ten = laws.steady k in omega (arith, ten)
cost_step true zero = let w = laws.grows.0 in omega (arith, w)
cost_step true (suc zero) = let w = laws.grows.1 in omega (arith, w)
cost_step true (suc (suc zero)) = let w = laws.grows.2 in omega (arith, w)
cost_step true (suc (suc (suc zero))) = let w = laws.grows.3 3 (omega arith) in omega (arith, w)
cost_step true (suc (suc (suc (suc k)))) = let w = laws.grows.3 (suc (suc (suc (suc k)))) (omega arith) in omega (arith, w)

-- no failure, no wait
pub cost_none : (growing : Bool) → budget_cost growing 0 ≡ 0
unfolding budget_cost
cost_none true = refl
cost_none false = refl

-- a wait is 80 ms at the most
pub cost_most : (growing : Bool) (k : ℕ) → budget_cost growing k ≤ 80 * k
unfolding budget_cost
cost_most false k = omega arith
cost_most true zero = omega arith
cost_most true (suc zero) = omega arith
cost_most true (suc (suc zero)) = omega arith
cost_most true (suc (suc (suc zero))) = omega arith
cost_most true (suc (suc (suc (suc k)))) = omega arith

-- more failures cost more
pub cost_mono : (growing : Bool) (j k : ℕ) → j ≤ k → budget_cost growing j ≤ budget_cost growing k
cost_mono growing j zero h = let z : j ≡ 0 = omega (arith, h) in rw z (omega arith)
cost_mono growing j (suc k) h = by (λ less. cost_mono growing j k less) (leb j k) refl
  where
    by : (j ≤ k → budget_cost growing j ≤ budget_cost growing k) → (t : Bool) → leb j k ≡ t → budget_cost growing j ≤ budget_cost growing (suc k)
    by before true t =
        let less = before (leb-true j k t) in
        let step = cost_step growing k in
        omega (arith, less, step)
    by before false t =
        let same : j ≡ suc k = omega (arith, h, leb-false j k t) in
        rw same (omega arith)

-- a wait has one of its lengths
pub wait_length : (growing : Bool) (k : ℕ) → WaitLength growing (wait_of growing k)
wait_length false k = rw (laws.steady k) (ten false)
wait_length true zero = rw laws.grows.0 (ten true)
wait_length true (suc zero) = rw laws.grows.1 twenty
wait_length true (suc (suc zero)) = rw laws.grows.2 forty
wait_length true (suc (suc (suc k))) = rw (laws.grows.3 (suc (suc (suc k))) (omega arith)) eighty

pub length_most : (growing : Bool) (ms : ℕ) → WaitLength growing ms → ms ≤ 80
length_most growing ms (ten g) = omega arith
length_most growing ms twenty = omega arith
length_most growing ms forty = omega arith
length_most growing ms eighty = omega arith
