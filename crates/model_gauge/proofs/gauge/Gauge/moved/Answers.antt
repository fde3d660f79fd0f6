-- `model_gauge::gauge::Gauge::moved` meets its contract: the pointer is a block further on.
-- Assumes nothing.
use Rattle.model_gauge.specs.Gauge.{moved_of}
use Rattle.model_gauge.proofs.gauge.Gauge.moved.Goals as goal

pub returns : goal.returns
unfolding moved_of
returns c = cc
