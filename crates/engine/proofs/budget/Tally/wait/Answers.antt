-- `engine::budget::Tally::wait` meets its contract.
-- Assumes nothing.
use Rattle.engine.specs.Budget.{waited}
use Rattle.engine.proofs.budget.Tally.wait.Goals as goal

pub returns : goal.returns
unfolding waited
returns c = cc
