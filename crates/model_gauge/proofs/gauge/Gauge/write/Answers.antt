-- `model_gauge::gauge::Gauge::write` meets its contract: each arm is a case of `effect_of`.
-- Assumes nothing.
use mathlib.Core.Path.{refl}
use Rattle.model_gauge.specs.Gauge.{effect_of}
use Rattle.model_gauge.proofs.gauge.Gauge.write.Goals as goal

pub returns-in-Heard : goal.returns-in-Heard
unfolding effect_of
returns-in-Heard c = rw c.in-Heard.is c.hear.ensures

pub returns-in-LostBefore : goal.returns-in-LostBefore
unfolding effect_of
returns-in-LostBefore c = rw c.in-LostBefore.is (c.tells.ensures, refl)

pub returns-in-LostAfter : goal.returns-in-LostAfter
unfolding effect_of
returns-in-LostAfter c = rw c.in-LostAfter.is (rw c.hear-in-LostAfter.ensures.0 at c.unheard.ensures, c.hear-in-LostAfter.ensures.1)
