-- Which of the two budgets a call goes by, and that it goes by no other. (02, W-211)
-- Assumes nothing.
use Rattle.std.specs.Prelude.{ℕ, zero, suc, ◌≡◌}
use Rattle.protocol.specs.Common.{retries_on}
use Rattle.protocol.specs.declared.common.Side.{Side}
use Rattle.protocol.specs.declared.common.Side.TheVariants as side
use Rattle.protocol.specs.declared.common.Config.{Config}
use Rattle.reading.specs.declared.parts.Reads.{Reads}
use Rattle.reading.specs.declared.parts.Reads.TheVariants as reads
use Rattle.calls.specs.Kind.{plan_of}
use Rattle.calls.specs.declared.kind.Kind.{Kind}
use Rattle.calls.specs.declared.kind.Kind.TheVariants as kind
use Rattle.calls.specs.declared.kind.Plan.{Plan}
use Rattle.calls.specs.declared.kind.Plan.TheVariants as plan

-- the side of a call with a buffer of n bytes: all of a writing call is on the one, all of a reading call on the other, its command or its address too. A command
-- with no output is a write
abbrev pub side_of : Kind → ℕ → Side
side_of kind.WriteWithRetries n = side.Write
side_of (kind.WriteRegister address) n = side.Write
side_of (kind.ReadRegister address) n = side.Read
side_of (kind.DispatchCommand address) zero = side.Write
side_of (kind.DispatchCommand address) (suc n) = side.Read
side_of (kind.WriteBuffer address) n = side.Write
side_of (kind.ReadBuffer address) n = side.Read
side_of kind.WriteSecurityKeys n = side.Write
side_of kind.ReadSecurityKeys n = side.Read
side_of kind.WriteAuthenticationKey n = side.Write
side_of kind.ReadAuthenticationKey n = side.Read
side_of kind.WriteChargingVoltageOverride n = side.Write
side_of kind.ReadChargingVoltageOverride n = side.Read
side_of (kind.SendAccessKey lower upper) n = side.Write
side_of (kind.UnsealFg lower upper) n = side.Write
side_of (kind.WriteMfgInfoC lower upper) n = side.Write
side_of kind.ReadMfgInfoC n = side.Read
side_of kind.WriteMfgInfo n = side.Write
side_of kind.ReadMfgInfo n = side.Read
side_of (kind.WriteDataflash address) n = side.Write
side_of (kind.ReadDataflash address) n = side.Read

-- its retries
abbrev pub budget_of : Kind → Config → ℕ → ℕ
budget_of kind config n = retries_on config (side_of kind n)

abbrev pub other_side : Side → Side
other_side side.Write = side.Read
other_side side.Read = side.Write

-- the same settings with another budget on a side
abbrev pub with_budget : Side → ℕ → Config → Config
with_budget side.Write r config = record {
  max_write_retries = r;
  max_read_retries = config.max_read_retries;
  pec_write = config.pec_write;
  pec_read = config.pec_read;
  growing_waits = config.growing_waits;
}
with_budget side.Read r config = record {
  max_write_retries = config.max_write_retries;
  max_read_retries = r;
  pec_write = config.pec_write;
  pec_read = config.pec_read;
  growing_waits = config.growing_waits;
}

-- the retries that a plan is made with
abbrev pub retries_in : Plan → ℕ
retries_in (plan.Write its) = its.retries
retries_in (plan.Read its) = its.retries

-- by what a plan does: one that reads nothing writes
abbrev pub reading_retries : Config → Reads → ℕ
reading_retries config reads.Nothing = config.max_write_retries
reading_retries config (reads.Once ask) = config.max_read_retries
reading_retries config (reads.Blocks pec) = config.max_read_retries

abbrev pub retries_due : Config → Plan → ℕ
retries_due config (plan.Write its) = config.max_write_retries
retries_due config (plan.Read its) = reading_retries config its.reads

pub record Sides : Type 0 where
  -- a call is made with the budget of its side
  pub own : (kind : Kind) (config : Config) (p n : ℕ) → retries_in (plan_of kind config p n) ≡ budget_of kind config n
  -- that is by what it does, without the table: with the write budget if it reads nothing, else with the read budget
  pub does : (kind : Kind) (config : Config) (p n : ℕ) → retries_in (plan_of kind config p n) ≡ retries_due config (plan_of kind config p n)
  -- and depends on no other: whatever the budget of the other side, it is the same call
  pub alone : (kind : Kind) (config : Config) (p n r : ℕ) → plan_of kind (with_budget (other_side (side_of kind n)) r config) p n ≡ plan_of kind config p n
