-- `reading::call::ReadPlan::plain` meets its contract: a plan with no head.
-- Assumes nothing.
use Rattle.reading.specs.Reading.{plain_plan}
use Rattle.reading.proofs.call.ReadPlan.plain.Goals as goal

pub returns : goal.returns
unfolding plain_plan
returns c = c.new.ensures
