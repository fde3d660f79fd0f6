-- `engine::limit::Limit::measure` meets its contract: each limit has its own test.
-- Assumes nothing.
use Rattle.engine.proofs.Cases.{cases}
use Rattle.engine.specs.Limit.{measured}
use Rattle.engine.proofs.limit.Limit.measure.Goals as goal

pub returns-in-Free : goal.returns-in-Free
unfolding measured
returns-in-Free c = search cases

pub returns-then-most-length : goal.returns-then-most-length
unfolding measured
returns-then-most-length c = rw c.in-AtMost.is (search cases)

pub returns-else-most-length : goal.returns-else-most-length
unfolding measured
returns-else-most-length c = rw c.in-AtMost.is (search cases)

pub returns-then-length-size : goal.returns-then-length-size
unfolding measured
returns-then-length-size c = rw c.in-Exactly.is (search cases)

pub returns-else-length-size : goal.returns-else-length-size
unfolding measured
returns-else-length-size c = rw c.in-Exactly.is (search cases)

pub returns-in-Window : goal.returns-in-Window
unfolding measured
returns-in-Window c = rw c.in-Window.is c.windowed.ensures

pub returns-in-Command : goal.returns-in-Command
unfolding measured
returns-in-Command c = rw c.in-Command.is c.commanded.ensures
