-- Demand 2 is what `original` proves, with `calls` of the budget that a call does not look at, and `waits` of the setting that the Rust does not know.
-- Assumes nothing.
use Prim.Native.Nat.{ℕ}
use mathlib.Core.Path.{◌≡◌}
use Rattle.protocol.specs.declared.common.Side.{Side}
use Rattle.protocol.specs.declared.common.Side.TheVariants as side
use Rattle.protocol.specs.declared.common.Config.{Config}
use Rattle.calls.proofs.Sides.{sides}
use Rattle.original.specs.OriginalCommon.{set_for}
use Rattle.original.proofs.Equal.{equal}
use Rattle.original.proofs.ByKind.{equal_by_kind}
use Rattle.waits.proofs.Alike.{alike}
use Rattle.promises.proofs.FedTraffic.{count_by_kind, rust_ceilings}
use Rattle.promises.specs.Demand2.{Demand2}

one_setting : (config : Config) (r : ℕ) → config.max_write_retries ≡ r → config.max_read_retries ≡ r → (s : Side)
    → set_for s config ≡ record { max_bus_retries = r; pec_write = config.pec_write; pec_read = config.pec_read }
one_setting config r w e side.Write = rw w
one_setting config r w e side.Read = rw e

pub demand2 : Demand2
demand2 = record { sides = sides; one_setting = one_setting; equal = equal; by_kind = equal_by_kind; counts = count_by_kind; alike = alike; ceilings = rust_ceilings }
