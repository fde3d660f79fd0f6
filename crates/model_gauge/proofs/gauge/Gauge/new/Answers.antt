-- `model_gauge::gauge::Gauge::new` meets its contract: the pointer is 4000.
-- Assumes nothing.
use Rattle.model_gauge.specs.Gauge.{new_gauge}
use Rattle.model_gauge.proofs.gauge.Gauge.new.Goals as goal

pub returns : goal.returns
unfolding new_gauge
returns c = cc
