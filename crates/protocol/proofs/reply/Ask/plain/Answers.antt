-- `protocol::reply::Ask::plain` meets its contract: its fields are those of `plain_ask`.
-- Assumes nothing.
use borrow.Author.Rules.{rules}
use Rattle.protocol.specs.Reply.{plain_ask}
use Rattle.protocol.proofs.reply.Ask.plain.Goals as goal

pub returns : goal.returns
unfolding plain_ask
returns c = search rules
