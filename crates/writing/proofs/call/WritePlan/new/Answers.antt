-- `writing::call::WritePlan::new` meets its contract: the fields are those of `plan_of`.
-- Assumes nothing.
use Rattle.writing.specs.Writing.{plan_of}
use Rattle.writing.proofs.call.WritePlan.new.Goals as goal

pub returns : goal.returns
unfolding plan_of
returns c = rw (c.pec.ensures, c.retries.ensures)
