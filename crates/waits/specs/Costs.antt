-- What waits come to, in closed words. (02, W-203)
-- Assumes nothing.
use Rattle.std.specs.Prelude.{ℕ, zero, suc, ◌+◌, ◌*◌, min, Bool, true, false, List, [], ◌∷◌}
use Rattle.engine.specs.declared.bus.Outcome.{Outcome}
use Rattle.engine.specs.declared.bus.Outcome.TheVariants as outcome

-- the milliseconds of a budget's k retried failures: 10 for each; where waits grow, 10, 30, 70, 150, and then 80 more for each
unfoldable pub budget_cost : (growing : Bool) (k : ℕ) → ℕ
budget_cost false k = k * 10
budget_cost true zero = 0
budget_cost true (suc zero) = 10
budget_cost true (suc (suc zero)) = 30
budget_cost true (suc (suc (suc zero))) = 70
budget_cost true (suc (suc (suc (suc k)))) = 150 + k * 80

-- the milliseconds of a call with a budget of r retries for each frame, by the outcomes that it has taken. The failures between two acknowledged frames are of one
-- budget, and r of them at the most are retried. k failures of the present ones are counted already
unfoldable pub frames_cost : (growing : Bool) (r k : ℕ) → List Outcome → ℕ
frames_cost growing r k [] = budget_cost growing (min k r)
frames_cost growing r k (outcome.Acknowledged ∷ os) = budget_cost growing (min k r) + frames_cost growing r 0 os
frames_cost growing r k (outcome.BusError code ∷ os) = frames_cost growing r (suc k) os
frames_cost growing r k (outcome.Timeout ∷ os) = frames_cost growing r (suc k) os
