-- `model_gauge::gauge::replies` meets its contract: each return is a case of `replies_to`.
-- Assumes nothing.
use borrow.Author.Tests.{ne_eqb}
use Rattle.protocol.proofs.Cases.{not_eq}
use Rattle.engine.proofs.Cases.{cases}
use Rattle.model_gauge.specs.Gauge.{replies_to}
use Rattle.model_gauge.proofs.gauge.replies.Goals as goal

pub returns-then-command-eq-MAC_CMD : goal.returns-then-command-eq-MAC_CMD
unfolding replies_to
returns-then-command-eq-MAC_CMD c = search cases

pub returns-else-command-eq-MAC_CMD : goal.returns-else-command-eq-MAC_CMD
unfolding replies_to
returns-else-command-eq-MAC_CMD c = not_eq _ _ _ _ _ c.if-command-eq-MAC_CMD.false (ne_eqb _ _ c.if-command-eq-MAC_CMD.false)
