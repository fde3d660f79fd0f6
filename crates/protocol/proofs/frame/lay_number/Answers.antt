-- `protocol::frame::lay_number` meets its contract: the pair is the number, low byte first.
-- Assumes nothing.
use Rattle.protocol.specs.Frame.{pair_of}
use Rattle.protocol.proofs.frame.lay_number.Goals as goal

pub returns : goal.returns
unfolding pair_of
returns c = rw c.to_le_bytes.ensures at c.lay_mac.ensures
