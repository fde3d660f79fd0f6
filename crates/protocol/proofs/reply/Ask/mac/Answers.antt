-- `protocol::reply::Ask::mac` meets its contract: its fields are those of `mac_ask`.
-- Assumes nothing.
use borrow.Author.Rules.{rules}
use Rattle.protocol.specs.Reply.{mac_ask}
use Rattle.protocol.proofs.reply.Ask.mac.Goals as goal

pub returns : goal.returns
unfolding mac_ask
returns c = search rules
