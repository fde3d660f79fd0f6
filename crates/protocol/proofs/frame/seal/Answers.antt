-- `protocol::frame::seal` meets its contract: the PEC goes after the bytes that it covers.
-- Assumes nothing.
use Rattle.protocol.proofs.Laws.{sealed_on, sealed_off}
use Rattle.protocol.proofs.frame.seal.Goals as goal

pub returns-then-pec : goal.returns-then-pec
returns-then-pec c = sealed_on _ _ _ _ c.requires c.if-pec.true c.pec.ensures

pub returns-else-pec : goal.returns-else-pec
returns-else-pec c = sealed_off _ _ _ c.requires c.if-pec.false
