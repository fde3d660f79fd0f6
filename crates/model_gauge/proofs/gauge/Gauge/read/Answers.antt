-- `model_gauge::gauge::Gauge::read` meets its contract: what is told is how long the reply is whose front is lent.
-- Assumes nothing.
use Rattle.model_gauge.proofs.Laws.{read_lent}
use Rattle.model_gauge.proofs.gauge.Gauge.read.Goals as goal

pub returns : goal.returns
returns c = (c.asked-effect.ensures _, read_lent _ _ _ _ _ _ _ _ _ _ c.asked-effect.ensures c.reply-whole.ensures c.front.ensures c.copy_block.ensures)
