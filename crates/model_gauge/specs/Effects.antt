-- What a transfer that is heard may come to, in document 01's words. The laws of the gauge speak in these; its own definition does not.
-- Assumes nothing.
use Rattle.std.specs.Prelude.{ℕ, List, []}
use Rattle.engine.specs.declared.bus.Outcome.TheVariants as outcome
use Rattle.model_gauge.specs.Gauge.{Effect}
use Rattle.model_gauge.specs.declared.gauge.Gauge.{Gauge}

-- the host hears that it was acknowledged, with these bytes; the gauge and the flash are then these
abbrev pub acknowledged : List ℕ → Gauge → List ℕ → Effect
acknowledged reply gauge flash = record { outcome = outcome.Acknowledged; reply = reply; flash = flash; gauge = gauge }

-- a bus error with code 0, and nothing changes
abbrev pub refused : Gauge → List ℕ → Effect
refused gauge flash = record { outcome = outcome.BusError 0; reply = []; flash = flash; gauge = gauge }
