-- Each call by its kind waits by the settings: its retries, whether its waits grow, and nothing else of its plan depends on that.
-- Assumes nothing.
use Prim.Native.Nat.{ℕ}
use mathlib.Core.Path.{◌≡◌, refl}
use mathlib.Core.Bool.{Bool, true, false}
use lib.Dec.{eqb}
use Rattle.protocol.specs.Pick.{when◌then◌else◌}
use Rattle.protocol.specs.declared.common.Config.{Config}
use Rattle.writing.specs.Writing as writing
use Rattle.writing.specs.declared.call.WritePlan.{WritePlan}
use Rattle.reading.specs.Reading as reading
use Rattle.reading.specs.declared.call.ReadPlan.{ReadPlan}
use Rattle.interface.specs.Plans.{plain_limit, write_with_retries, write_register, read_register, command_reads, dispatch_command, read_buffer, write_buffer}
use Rattle.r5.specs.Plans.{mac_read, mac_write, whole_ask, send_access_key, write_mfg_info_c, read_mfg_info_c, write_mfg_info, read_mfg_info, read_dataflash, write_dataflash}
use Rattle.calls.specs.Kind.{plan_of}
use Rattle.calls.specs.Sides.{budget_of}
use Rattle.calls.specs.declared.kind.Kind.{Kind}
use Rattle.calls.specs.declared.kind.Kind.TheVariants as kind
use Rattle.calls.specs.declared.kind.Plan.{Plan}
use Rattle.calls.specs.declared.kind.Plan.TheVariants as plan
use Rattle.calls.proofs.Sides.{sides}
use Rattle.waits.specs.Waits.{with_growing}

-- a plan, with waits that grow or do not
abbrev pub paced_w : Bool → WritePlan → WritePlan
paced_w growing its = record { retries = its.retries; growing = growing; pec = its.pec; limit = its.limit; frames = its.frames }

abbrev pub paced_r : Bool → ReadPlan → ReadPlan
paced_r growing its = record { retries = its.retries; growing = growing; limit = its.limit; head = its.head; head_pec = its.head_pec; reads = its.reads }

abbrev pub paced : Bool → Plan → Plan
paced growing (plan.Write its) = plan.Write (paced_w growing its)
paced growing (plan.Read its) = plan.Read (paced_r growing its)

-- so many retries, and waits that grow or do not
abbrev pub Waits : (r : ℕ) (growing : Bool) → Plan → Type 0
Waits r growing (plan.Write its) = (its.retries ≡ r) × (its.growing ≡ growing)
Waits r growing (plan.Read its) = (its.retries ≡ r) × (its.growing ≡ growing)

module _ (config : Config) (p n : ℕ) where
  abbrev Set : Kind → Type 0
  Set k = Waits (budget_of k config n) config.growing_waits (plan_of k config p n) × ((growing : Bool) → plan_of k (with_growing growing config) p n ≡ paced growing (plan_of k config p n))

  -- a command is a write or a read, with waits that grow or do not
  command_paced : (address : ℕ) (growing : Bool) → plan_of (kind.DispatchCommand address) (with_growing growing config) p n ≡ paced growing (plan_of (kind.DispatchCommand address) config p n)
  unfolding plan_of command_reads dispatch_command when◌then◌else◌
  command_paced address growing = by (eqb n 0) refl
    where
      by : (t : Bool) → eqb n 0 ≡ t → plan_of (kind.DispatchCommand address) (with_growing growing config) p n ≡ paced growing (plan_of (kind.DispatchCommand address) config p n)
      by true e = rw e
      by false e = rw e

  pub by_settings : (k : Kind) → Set k
  unfolding plan_of writing.plan_of write_with_retries plain_limit write_register write_buffer mac_write write_mfg_info send_access_key write_mfg_info_c write_dataflash
      reading.plain_plan reading.mac_plan read_register read_buffer read_mfg_info mac_read read_mfg_info_c whole_ask read_dataflash command_reads dispatch_command
  by_settings kind.WriteWithRetries = ((refl, refl), λ g. refl)
  by_settings (kind.WriteRegister address) = ((refl, refl), λ g. refl)
  by_settings (kind.ReadRegister address) = ((refl, refl), λ g. refl)
  by_settings (kind.DispatchCommand address) = ((sides.own (kind.DispatchCommand address) config p n, refl), command_paced address)
  by_settings (kind.WriteBuffer address) = ((refl, refl), λ g. refl)
  by_settings (kind.ReadBuffer address) = ((refl, refl), λ g. refl)
  by_settings kind.WriteSecurityKeys = ((refl, refl), λ g. refl)
  by_settings kind.ReadSecurityKeys = ((refl, refl), λ g. refl)
  by_settings kind.WriteAuthenticationKey = ((refl, refl), λ g. refl)
  by_settings kind.ReadAuthenticationKey = ((refl, refl), λ g. refl)
  by_settings kind.WriteChargingVoltageOverride = ((refl, refl), λ g. refl)
  by_settings kind.ReadChargingVoltageOverride = ((refl, refl), λ g. refl)
  by_settings (kind.SendAccessKey lower upper) = ((refl, refl), λ g. refl)
  by_settings (kind.UnsealFg lower upper) = ((refl, refl), λ g. refl)
  by_settings (kind.WriteMfgInfoC lower upper) = ((refl, refl), λ g. refl)
  by_settings kind.ReadMfgInfoC = ((refl, refl), λ g. refl)
  by_settings kind.WriteMfgInfo = ((refl, refl), λ g. refl)
  by_settings kind.ReadMfgInfo = ((refl, refl), λ g. refl)
  by_settings (kind.WriteDataflash address) = ((refl, refl), λ g. refl)
  by_settings (kind.ReadDataflash address) = ((refl, refl), λ g. refl)
