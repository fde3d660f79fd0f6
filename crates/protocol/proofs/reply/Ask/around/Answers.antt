-- `protocol::reply::Ask::around` meets its contract: each return is a case of `around_of`.
-- Assumes nothing.
use Prim.Native.Nat.{◌≤◌}
use borrow.Author.Rules.{rules}
use Rattle.protocol.proofs.Cases.{cases}
use Rattle.protocol.proofs.Laws.{lead_small}
use Rattle.protocol.specs.Reply.{around_of}
use Rattle.protocol.proofs.reply.Ask.around.Goals as goal

pub overflow_add-result : goal.overflow_add-result
overflow_add-result c =
    let small : c.lead.result ≤ 3 = rw c.lead.ensures (lead_small c.args.self) in
    search rules

pub returns-then-self : goal.returns-then-self
unfolding around_of
returns-then-self c =
    let e = c.lead.ensures in rw c.lead.ensures (search cases)

pub returns-else-self : goal.returns-else-self
unfolding around_of
returns-else-self c = search cases
