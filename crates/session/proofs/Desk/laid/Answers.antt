-- `session::Desk::laid` meets its contract: the bytes are those that `laid_bytes` takes.
-- Assumes nothing.
use Rattle.session.specs.Loop.{laid_bytes}
use Rattle.session.proofs.Desk.laid.Goals as goal

pub returns : goal.returns
unfolding laid_bytes
returns c = c.front.ensures
