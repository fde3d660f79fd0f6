-- `protocol::frame::lay_mac` meets its contract: the parts that it hands to the builder are those of the frame.
-- Assumes nothing.
use Rattle.protocol.specs.Frame.{mac_bytes}
use Rattle.protocol.proofs.frame.lay_mac.Goals as goal

pub returns : goal.returns
unfolding mac_bytes
returns c = c.lay.ensures
