-- `engine::bus::Transfer::write` meets its contract: each arm is a case of `write_of`.
-- Assumes nothing.
use Rattle.engine.specs.Bus.{write_of}
use Rattle.engine.proofs.bus.Transfer.write.Goals as goal

pub returns-in-Some : goal.returns-in-Some
unfolding write_of
returns-in-Some c = cc

pub returns-in-None : goal.returns-in-None
unfolding write_of
returns-in-None c = cc
