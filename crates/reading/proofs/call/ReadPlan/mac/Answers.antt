-- `reading::call::ReadPlan::mac` meets its contract: a plan with the command as its head.
-- Assumes nothing.
use Rattle.reading.specs.Reading.{mac_plan}
use Rattle.reading.proofs.call.ReadPlan.mac.Goals as goal

pub returns : goal.returns
unfolding mac_plan
returns c = rw c.mac.ensures at c.new.ensures
