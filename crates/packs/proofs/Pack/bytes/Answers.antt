-- `packs::Pack::bytes` meets its contract: each arm is a case of `used_by`.
-- Assumes nothing.
use Rattle.packs.specs.Ahead.{used_by}
use Rattle.packs.proofs.Pack.bytes.Goals as goal

pub returns-in-Read : goal.returns-in-Read
unfolding used_by
returns-in-Read c = rw c.in-Read.is

pub returns-in-Unread : goal.returns-in-Unread
unfolding used_by
returns-in-Unread c = rw c.in-Unread.is
