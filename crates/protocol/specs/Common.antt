-- The settings of a call. (common.rs, Config; 02, W-203: `growing_waits`, off by default; 02, W-211: a budget for what writes and one for what reads)
-- Assumes nothing.
use Rattle.std.specs.Prelude.{ℕ, ◌≤◌, Bool, false}
use Rattle.protocol.specs.declared.common.Side.{Side}
use Rattle.protocol.specs.declared.common.Side.TheVariants as side
use Rattle.protocol.specs.declared.common.Config.{Config}

-- what a driver starts with (Config::new)
abbrev pub default_config : Config
default_config = record { max_write_retries = 3; max_read_retries = 3; pec_write = false; pec_read = false; growing_waits = false }

-- the retries of a call on a side
abbrev pub retries_on : Config → Side → ℕ
retries_on config side.Write = config.max_write_retries
retries_on config side.Read = config.max_read_retries

-- whether its frames carry a PEC
abbrev pub pec_on : Config → Side → Bool
pec_on config side.Write = config.pec_write
pec_on config side.Read = config.pec_read

-- each budget is 0 to 65,535
abbrev pub TwoByteBudgets : Config → Type 0
TwoByteBudgets config = (config.max_write_retries ≤ 65535) × (config.max_read_retries ≤ 65535)
