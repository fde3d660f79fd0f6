-- `protocol::reply::Ask::count` meets its contract.
-- Assumes nothing.
use Rattle.protocol.specs.Reply.{bytes_asked}
use Rattle.protocol.proofs.reply.Ask.count.Goals as goal

pub returns : goal.returns
unfolding bytes_asked
returns c = rw c.around.ensures at c.saturating_add.ensures
