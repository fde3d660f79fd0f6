-- `engine::budget::Tally::new` meets its contract: nothing is counted.
-- Assumes nothing.
use Rattle.engine.proofs.Cases.{cases}
use Rattle.engine.specs.Budget.{nothing}
use Rattle.engine.proofs.budget.Tally.new.Goals as goal

pub returns : goal.returns
unfolding nothing
returns c = search cases
