-- What becomes of a lost transfer: the host hears a timeout, and the gauge has acted in full or not at all. (01, The model gauge)
-- Assumes nothing.
use Rattle.std.specs.Prelude.{ℕ, ◌≡◌, List, []}
use Rattle.engine.specs.Made.{Made}
use Rattle.engine.specs.declared.bus.Outcome.TheVariants as outcome
use Rattle.model_gauge.specs.Gauge.{effect_of}
use Rattle.model_gauge.specs.declared.gauge.Fate.TheVariants as fate
use Rattle.model_gauge.specs.declared.gauge.Gauge.{Gauge}

pub record Lost : Type 0 where
  -- any write or read that is lost before the gauge acts is a timeout to the host, brings nothing, and leaves flash and gauge as they were
  pub before : (made : Made) (gauge : Gauge) (flash : List ℕ)
      → effect_of fate.LostBefore made gauge flash ≡ record { outcome = outcome.Timeout; reply = []; flash = flash; gauge = gauge }
  -- any that is lost after it is a timeout too, brings nothing, and leaves flash and gauge as where it is heard
  pub after : (made : Made) (gauge : Gauge) (flash : List ℕ)
      → effect_of fate.LostAfter made gauge flash
      ≡ record { outcome = outcome.Timeout; reply = []; flash = (effect_of fate.Heard made gauge flash).flash; gauge = (effect_of fate.Heard made gauge flash).gauge }
