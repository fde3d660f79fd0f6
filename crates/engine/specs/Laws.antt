-- What a failed attempt and a count come to, number by number, and what is shown of a frame. (01, Frames and retries; The step machine;
-- 02, W-203)
-- Assumes nothing.
use Rattle.std.specs.Prelude.{ℕ, suc, ◌+◌, ◌-◌, ◌≤◌, ◌≡◌, Bool, true, false, Some, None}
use Rattle.protocol.specs.declared.error.Answer.TheVariants as answer
use Rattle.engine.specs.Budget.{wait_of, failed, plus_of, more_of}
use Rattle.engine.specs.Bus.{write_of}
use Rattle.engine.specs.declared.bus.Transfer.TheVariants.{Write, Refused}

pub record Laws : Type 0 where
  -- of a budget that began with r retries a failure takes one; with none left the budget is spent
  pub retries : (r n : ℕ) (growing : Bool) → failed r growing (record { left = suc n }) ≡ Some (record { left = n }, wait_of growing (r - suc n))
  pub spent : (r : ℕ) (growing : Bool) → failed r growing (record { left = 0 }) ≡ None
  -- a wait is 10 ms; where waits grow, a budget's first is 10, its second 20, its third 40, and every later one 80
  pub steady : (k : ℕ) → wait_of false k ≡ 10
  pub grows : (wait_of true 0 ≡ 10) × (wait_of true 1 ≡ 20) × (wait_of true 2 ≡ 40) × ((k : ℕ) → 3 ≤ k → wait_of true k ≡ 80)
  -- so many more, up to the largest number, at which a count stays; and one more is that with one
  pub plus : (n k : ℕ) → n + k ≤ 4294967295 → plus_of n k ≡ n + k
  pub most : (n k : ℕ) → 4294967295 ≤ n + k → plus_of n k ≡ 4294967295
  pub more : (n : ℕ) → more_of n ≡ plus_of n 1
  -- a frame that was laid is a write of its bytes; one that has no room is refused with 8
  pub shows : (n : ℕ) → write_of (Some n) ≡ Write n
  pub no_room : write_of None ≡ Refused answer.WrongBuffer
