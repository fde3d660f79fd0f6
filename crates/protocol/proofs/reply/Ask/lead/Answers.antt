-- `protocol::reply::Ask::lead` meets its contract: each return is a case of `lead_of`.
-- Assumes nothing.
use Rattle.protocol.proofs.Cases.{cases}
use Rattle.protocol.specs.Reply.{lead_of}
use Rattle.protocol.proofs.reply.Ask.lead.Goals as goal

pub returns-then-self : goal.returns-then-self
unfolding lead_of
returns-then-self c = search cases

pub returns-else-self : goal.returns-else-self
unfolding lead_of
returns-else-self c = search cases
