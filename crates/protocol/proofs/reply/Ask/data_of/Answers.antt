-- `protocol::reply::Ask::data_of` meets its contract: the part of the reply after what stands before the data.
-- Assumes nothing.
use Rattle.protocol.specs.Reply.{data_of}
use Rattle.protocol.proofs.reply.Ask.data_of.Goals as goal

pub returns : goal.returns
unfolding data_of
returns c = rw c.lead.ensures at c.block.ensures
