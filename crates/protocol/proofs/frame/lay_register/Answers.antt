-- `protocol::frame::lay_register` meets its contract: the parts that it hands to the builder are those of the frame.
-- Assumes nothing.
use Rattle.protocol.specs.Frame.{register_bytes}
use Rattle.protocol.proofs.frame.lay_register.Goals as goal

pub returns : goal.returns
unfolding register_bytes
returns c = c.lay.ensures
