-- `engine::bus::Phase::after` meets its contract: each return is a case of `phase_after`.
-- Assumes nothing.
use Rattle.engine.proofs.Cases.{cases}
use Rattle.engine.specs.Bus.{phase_after}
use Rattle.engine.proofs.bus.Phase.after.Goals as goal

pub returns-then-steps-made : goal.returns-then-steps-made
unfolding phase_after
returns-then-steps-made c = search cases

pub returns-else-steps-made : goal.returns-else-steps-made
unfolding phase_after
returns-else-steps-made c = search cases
