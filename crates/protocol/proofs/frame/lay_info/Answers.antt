-- `protocol::frame::lay_info` meets its contract: the parts that it hands to the builder are those of the frame.
-- Assumes nothing.
use Rattle.protocol.specs.Frame.{info_bytes}
use Rattle.protocol.proofs.frame.lay_info.Goals as goal

pub returns : goal.returns
unfolding info_bytes
returns c = c.lay.ensures
