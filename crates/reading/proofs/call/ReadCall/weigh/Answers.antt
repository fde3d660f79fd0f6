-- `reading::call::ReadCall::weigh` meets its contract: each arm is a case of `weigh_of`.
-- Assumes nothing.
use Rattle.engine.proofs.Cases.{cases}
use Rattle.reading.specs.Reading.{weigh_of}
use Rattle.reading.proofs.call.ReadCall.weigh.Goals as goal

pub returns-in-Acknowledged : goal.returns-in-Acknowledged
unfolding weigh_of
returns-in-Acknowledged c = search cases

pub returns-in-BusError : goal.returns-in-BusError
unfolding weigh_of
returns-in-BusError c = search cases

pub returns-in-Timeout : goal.returns-in-Timeout
unfolding weigh_of
returns-in-Timeout c = search cases
