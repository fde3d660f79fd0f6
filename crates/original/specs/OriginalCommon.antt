-- common.rs, Config: the settings as the Rust has them, but for `timeout`, with one budget for all calls. (02, W-211)
-- Assumes nothing.
use Rattle.std.specs.Prelude.{ℕ, Bool}
use Rattle.protocol.specs.declared.common.Side.{Side}
use Rattle.protocol.specs.declared.common.Side.TheVariants as side
use Rattle.protocol.specs.declared.common.Config as driver

pub record Config : Type 0 where
  pub max_bus_retries : ℕ
  pub pec_write : Bool
  pub pec_read : Bool

-- what the Rust is set to for a call on a side: the budget of that side is its `max_bus_retries`
abbrev pub set_for : Side → driver.Config → Config
set_for side.Write config = record { max_bus_retries = config.max_write_retries; pec_write = config.pec_write; pec_read = config.pec_read }
set_for side.Read config = record { max_bus_retries = config.max_read_retries; pec_write = config.pec_write; pec_read = config.pec_read }
