-- `protocol::frame::lay_command` meets its contract: the parts that it hands to the builder are those of the frame.
-- Assumes nothing.
use Rattle.protocol.specs.Frame.{command_bytes}
use Rattle.protocol.proofs.frame.lay_command.Goals as goal

pub returns : goal.returns
unfolding command_bytes
returns c = rw c.to_le_bytes.ensures at c.lay.ensures
