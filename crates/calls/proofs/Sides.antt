-- Each call goes by the budget of its side alone: its plan looks at no other.
-- Assumes nothing.
use Prim.Native.Nat.{ℕ, zero, suc}
use mathlib.Core.Path.{◌≡◌, refl}
use mathlib.Core.Bool.{false}
use native.Mathlib.Omega.{arith}
use lib.Dec.{eqb}
use borrow.Author.Tests.{ne_eqb}
use Rattle.protocol.specs.Pick.{when◌then◌else◌}
use Rattle.protocol.specs.declared.common.Config.{Config}
use Rattle.writing.specs.Writing as writing
use Rattle.reading.specs.Reading as reading
use Rattle.interface.specs.Plans.{plain_limit, write_with_retries, write_register, read_register, command_reads, dispatch_command, read_buffer, write_buffer}
use Rattle.r5.specs.Plans.{mac_read, mac_write, send_access_key, write_mfg_info_c, whole_ask, read_mfg_info_c, write_mfg_info, read_mfg_info, read_dataflash, write_dataflash}
use Rattle.calls.specs.Kind.{plan_of}
use Rattle.calls.specs.Sides.{side_of, budget_of, other_side, with_budget, retries_in, retries_due, Sides}
use Rattle.calls.specs.declared.kind.Kind.{Kind}
use Rattle.calls.specs.declared.kind.Kind.TheVariants as kind

-- a command has an output, or none
some : (n : ℕ) → eqb (suc n) 0 ≡ false
some n = ne_eqb (suc n) 0 (λ e. omega arith)

by_kind : (kind : Kind) (config : Config) (p n : ℕ)
    → (retries_in (plan_of kind config p n) ≡ budget_of kind config n) × ((r : ℕ) → plan_of kind (with_budget (other_side (side_of kind n)) r config) p n ≡ plan_of kind config p n)
    × (retries_in (plan_of kind config p n) ≡ retries_due config (plan_of kind config p n))
unfolding when◌then◌else◌ plan_of writing.plan_of reading.plain_plan reading.mac_plan plain_limit write_with_retries write_register read_register command_reads dispatch_command read_buffer write_buffer
    mac_read mac_write send_access_key write_mfg_info_c whole_ask read_mfg_info_c write_mfg_info read_mfg_info read_dataflash write_dataflash
by_kind kind.WriteWithRetries config p n = (refl, λ r. refl, refl)
by_kind (kind.WriteRegister address) config p n = (refl, λ r. refl, refl)
by_kind (kind.ReadRegister address) config p n = (refl, λ r. refl, refl)
by_kind (kind.DispatchCommand address) config p zero = (refl, λ r. refl, refl)
by_kind (kind.DispatchCommand address) config p (suc n) = (rw (some n), λ r. rw (some n), rw (some n))
by_kind (kind.WriteBuffer address) config p n = (refl, λ r. refl, refl)
by_kind (kind.ReadBuffer address) config p n = (refl, λ r. refl, refl)
by_kind kind.WriteSecurityKeys config p n = (refl, λ r. refl, refl)
by_kind kind.ReadSecurityKeys config p n = (refl, λ r. refl, refl)
by_kind kind.WriteAuthenticationKey config p n = (refl, λ r. refl, refl)
by_kind kind.ReadAuthenticationKey config p n = (refl, λ r. refl, refl)
by_kind kind.WriteChargingVoltageOverride config p n = (refl, λ r. refl, refl)
by_kind kind.ReadChargingVoltageOverride config p n = (refl, λ r. refl, refl)
by_kind (kind.SendAccessKey lower upper) config p n = (refl, λ r. refl, refl)
by_kind (kind.UnsealFg lower upper) config p n = (refl, λ r. refl, refl)
by_kind (kind.WriteMfgInfoC lower upper) config p n = (refl, λ r. refl, refl)
by_kind kind.ReadMfgInfoC config p n = (refl, λ r. refl, refl)
by_kind kind.WriteMfgInfo config p n = (refl, λ r. refl, refl)
by_kind kind.ReadMfgInfo config p n = (refl, λ r. refl, refl)
by_kind (kind.WriteDataflash address) config p n = (refl, λ r. refl, refl)
by_kind (kind.ReadDataflash address) config p n = (refl, λ r. refl, refl)

pub sides : Sides
sides = record {
  own = λ kind config p n. (by_kind kind config p n).0;
  does = λ kind config p n. (by_kind kind config p n).2;
  alone = λ kind config p n r. (by_kind kind config p n).1 r;
}
