-- `reading::call::ReadCall::judge` meets its contract.
-- Assumes nothing.
use Rattle.engine.proofs.Cases.{cases}
use Rattle.reading.specs.Reading.{judge_of}
use Rattle.reading.proofs.call.ReadCall.judge.Goals as goal

pub returns-in-Ended : goal.returns-in-Ended
unfolding judge_of
returns-in-Ended c = search cases

pub returns-then-fits : goal.returns-then-fits
unfolding judge_of
returns-then-fits c = search cases

pub returns-else-fits : goal.returns-else-fits
unfolding judge_of
returns-else-fits c = search cases
