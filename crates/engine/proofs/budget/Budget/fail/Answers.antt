-- `engine::budget::Budget::fail` meets its contract.
-- Assumes nothing.
use native.Mathlib.Omega.{arith}
use Rattle.protocol.proofs.Cases.{yes_eq, not_eq}
use Rattle.engine.specs.Budget.{failed}
use Rattle.engine.proofs.budget.Budget.fail.Goals as goal

pub returns-in_err-left : goal.returns-in_err-left
unfolding failed
returns-in_err-left c = let none = c.in_err-left.ensures in yes_eq _ _ _ _ _ (omega arith) c.from_residual.ensures

pub returns : goal.returns
unfolding failed
returns c =
    let some = c.in_ok-left.ensures in
    not_eq _ _ _ _ _ (λ z. omega arith) (rw (c.wait_after.ensures, c.saturating_sub-before.ensures, some.1))
