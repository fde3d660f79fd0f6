-- `protocol::reply::Ask::hear` meets its contract, arm by arm.
-- Assumes nothing.
use Rattle.protocol.proofs.Cases.{cases}
use Rattle.protocol.specs.Reply.{heard_of}
use Rattle.protocol.proofs.reply.Ask.hear.Goals as goal
use Rattle.protocol.proofs.reply.Ask.hear.Goals.{else-self-via-then-self+else-not-checked, else-self-via-else-self}

pub returns-then-count-reply : goal.returns-then-count-reply
unfolding heard_of
returns-then-count-reply c = search cases

pub returns-then-not-checked : goal.returns-then-not-checked
unfolding heard_of
returns-then-not-checked c = search cases

pub returns : goal.returns
unfolding heard_of
returns c = elim c.else-self.branch [ else-self-via-then-self+else-not-checked w ↦ search cases | else-self-via-else-self w ↦ search cases ]
