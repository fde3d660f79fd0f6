-- `r5::send_access_key` meets its contract: the plan is its own.
-- Assumes nothing.
use Rattle.r5.specs.Plans.{send_access_key}
use Rattle.r5.proofs.send_access_key.Goals as goal

pub returns : goal.returns
unfolding send_access_key
returns c = c.new.ensures
