-- `reading::call::ReadCall::fail` meets its contract.
-- Assumes nothing.
use Rattle.engine.proofs.Cases.{cases}
use Rattle.reading.specs.Reading.{fail_of}
use Rattle.reading.proofs.call.ReadCall.fail.Goals as goal

pub returns-in-Some : goal.returns-in-Some
unfolding fail_of
returns-in-Some c = search cases

pub returns-in-None : goal.returns-in-None
unfolding fail_of
returns-in-None c = search cases
