-- `writing::call::WriteCall::replied` meets its contract.
-- Assumes nothing.
use Rattle.engine.proofs.Cases.{cases}
use Rattle.writing.specs.Writing.{replied_of}
use Rattle.writing.proofs.Rest.{failed}
use Rattle.writing.proofs.call.WriteCall.replied.Goals as goal

pub returns-in-Acknowledged : goal.returns-in-Acknowledged
unfolding replied_of
returns-in-Acknowledged c = search cases

pub returns-in_default : goal.returns-in_default
returns-in_default c = failed _ c.in_default.not-Acknowledged _
