-- `dialogue::lent` meets its contract: each arm is a case of `room_for`.
-- Assumes nothing.
use Rattle.protocol.proofs.Cases.{cases}
use Rattle.dialogue.specs.Dialogue.{room_for}
use Rattle.dialogue.proofs.lent.Goals as goal

pub returns-then-len-room : goal.returns-then-len-room
unfolding room_for
returns-then-len-room c = search cases

pub returns-else-len-room : goal.returns-else-len-room
unfolding room_for
returns-else-len-room c = search cases
