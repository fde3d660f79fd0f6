-- `model_gauge::gauge::Gauge::asked` meets its contract: each arm is a case of `effect_of`.
-- Assumes nothing.
use Rattle.model_gauge.specs.Gauge.{effect_of}
use Rattle.model_gauge.proofs.gauge.Gauge.asked.Goals as goal

pub returns-in-Heard : goal.returns-in-Heard
unfolding effect_of
returns-in-Heard c = rw c.in-Heard.is c.ask.ensures

pub returns-in-LostBefore : goal.returns-in-LostBefore
unfolding effect_of
returns-in-LostBefore c = rw c.in-LostBefore.is (λ flash. c.tells.ensures)

pub returns-in-LostAfter : goal.returns-in-LostAfter
unfolding effect_of
returns-in-LostAfter c = rw c.in-LostAfter.is (λ flash. rw (c.ask-in-LostAfter.ensures flash) at c.unheard.ensures)
