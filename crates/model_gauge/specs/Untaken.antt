-- What the gauge does not take changes nothing. (01, The model gauge)
-- Assumes nothing.
use Rattle.std.specs.Prelude.{ℕ, ◌≡◌, List}
use Rattle.engine.specs.Made.{Made, write}
use Rattle.engine.specs.declared.bus.Outcome.TheVariants as outcome
use Rattle.model_gauge.specs.Frame.{read_frame}
use Rattle.model_gauge.specs.Gauge.{effect_of}
use Rattle.model_gauge.specs.Effects.{refused}
use Rattle.model_gauge.specs.declared.frame.Form.TheVariants as form
use Rattle.model_gauge.specs.declared.gauge.Fate.{Fate}
use Rattle.model_gauge.specs.declared.gauge.Fate.TheVariants as fate
use Rattle.model_gauge.specs.declared.gauge.Gauge.{Gauge}

pub record Untaken : Type 0 where
  -- a frame that is neither a block write nor an address is not taken
  pub other : (frame flash : List ℕ) (gauge : Gauge) → read_frame frame ≡ form.Other → effect_of fate.Heard (write frame) gauge flash ≡ refused gauge flash
  -- a write or read that is heard and not acknowledged is a bus error with code 0, brings nothing, and changes nothing
  pub heard : (made : Made) (gauge : Gauge) (flash : List ℕ) → ((effect_of fate.Heard made gauge flash).outcome ≡ outcome.Acknowledged → ⊥)
      → effect_of fate.Heard made gauge flash ≡ refused gauge flash
  -- and leaves flash and gauge as they were whatever becomes of it
  pub still : (f : Fate) (made : Made) (gauge : Gauge) (flash : List ℕ) → ((effect_of fate.Heard made gauge flash).outcome ≡ outcome.Acknowledged → ⊥)
      → ((effect_of f made gauge flash).flash ≡ flash) × ((effect_of f made gauge flash).gauge ≡ gauge)
