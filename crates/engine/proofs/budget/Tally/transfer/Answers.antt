-- `engine::budget::Tally::transfer` meets its contract.
-- Assumes nothing.
use Rattle.engine.specs.Budget.{tallied}
use Rattle.engine.proofs.budget.Tally.transfer.Goals as goal

pub returns : goal.returns
unfolding tallied
returns c = cc
