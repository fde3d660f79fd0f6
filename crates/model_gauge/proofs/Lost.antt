-- A lost transfer is one or the other arm of `effect_of`.
-- Assumes nothing.
use mathlib.Core.Path.{refl}
use Rattle.model_gauge.specs.Gauge.{effect_of}
use Rattle.model_gauge.specs.Lost.{Lost}

-- a lost transfer is a timeout, and does its work or none
pub lost : Lost
unfolding effect_of
lost = record { before = λ made gauge flash. refl; after = λ made gauge flash. refl }
