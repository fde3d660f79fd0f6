-- `writing::call::WriteCall::settle` meets its contract: each arm is a case of `settle_of`.
-- Assumes nothing.
use Rattle.engine.proofs.Cases.{cases}
use Rattle.writing.specs.Writing.{settle_of}
use Rattle.writing.proofs.call.WriteCall.settle.Goals as goal

pub returns-in-Acknowledged : goal.returns-in-Acknowledged
unfolding settle_of
returns-in-Acknowledged c = search cases

pub returns-in-BusError : goal.returns-in-BusError
unfolding settle_of
returns-in-BusError c = search cases

pub returns-in-Timeout : goal.returns-in-Timeout
unfolding settle_of
returns-in-Timeout c = search cases
