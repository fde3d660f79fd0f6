-- A ceiling on bus traffic: however it is fed, a call makes at most so many transfers and waits at most so often, and after as many it has ended. The budget is that
-- of the call's side. (02, W-208, W-211)
-- Assumes nothing.
use Rattle.std.specs.Prelude.{ℕ, ◌+◌, ◌*◌, ◌≤◌, ◌<◌, ◌≡◌, true, false, List}
use Rattle.protocol.specs.Common.{TwoByteBudgets}
use Rattle.protocol.specs.declared.common.Config.{Config}
use Rattle.protocol.specs.declared.error.Answer.{Answer}
use Rattle.engine.specs.declared.bus.Phase.TheVariants as phase
use Rattle.writing.specs.Frames.{frame_count}
use Rattle.writing.specs.declared.call.WritePlan.{WritePlan}
use Rattle.reading.specs.Parts.{has_head, read_count}
use Rattle.reading.specs.declared.call.ReadPlan.{ReadPlan}
use Rattle.calls.specs.Sides.{budget_of}
use Rattle.calls.specs.Call.{start_with, start_of, phase_of, tally_of}
use Rattle.calls.specs.declared.call.Call.{Call}
use Rattle.calls.specs.declared.kind.Kind.{Kind}
use Rattle.calls.specs.declared.kind.Kind.TheVariants as kind
use Rattle.calls.specs.declared.kind.Plan.TheVariants as plan
use Rattle.ceilings.specs.Reports.{Report, feed, accepted}

-- what holds of a call and a list of reports to it: at most so many transfers and so many waits
pub record Ceiling (most waits : ℕ) (call : Call) (es : List Report) : Type 0 where
  -- the call counts the outcomes that it accepts
  pub counts : (tally_of (feed call es)).transfers ≡ accepted call es
  -- there are at most so many
  pub highest : accepted call es ≤ most
  -- EVERY CALL ENDS: once it has accepted as many, it no longer waits
  pub ends : most ≤ accepted call es → phase_of (feed call es) ≡ phase.Waiting → ⊥
  -- so often at the most it has waited
  pub waits_most : (tally_of (feed call es)).waits ≤ waits

-- so many transfers and so many waits, reached by one list of reports to a call
pub record Reached (most waits : ℕ) (call : Call) : Type 0 where
  pub reports : List Report
  pub takes : accepted call reports ≡ most
  pub waits_all : (tally_of (feed call reports)).waits ≡ waits

-- ---- by engine and shape, for every plan whose ceiling is at most 4,294,967,295, the largest that a count can be. p, n and w are the lengths of payload, buffer and work
-- buffer at the start, f the frames, b the reads. (A plan that waits with no frame, or with neither head nor read, is left out: no call by name has one)

pub record Shapes : Type 0 where
  -- frames, each with a budget of its own
  pub frames : (its : WritePlan) (p n w f : ℕ) → frame_count its.frames p ≡ f → 0 < f → f * (its.retries + 1) ≤ 4294967295
      → (es : List Report) → Ceiling (f * (its.retries + 1)) (f * its.retries) (start_with (plan.Write its) p n w) es
  -- reads with no head, from one budget
  pub bare : (its : ReadPlan) (p n w b : ℕ) → has_head its.head ≡ false → read_count its.reads n ≡ b → 0 < b → b + its.retries ≤ 4294967295
      → (es : List Report) → Ceiling (b + its.retries) its.retries (start_with (plan.Read its) p n w) es
  -- a head and reads, from one budget: a failure costs the failed transfer and the head again
  pub headed : (its : ReadPlan) (p n w b : ℕ) → has_head its.head ≡ true → read_count its.reads n ≡ b → 0 < b → b + 1 + 2 * its.retries ≤ 4294967295
      → (es : List Report) → Ceiling (b + 1 + 2 * its.retries) its.retries (start_with (plan.Read its) p n w) es
  -- a head that no read follows
  pub alone : (its : ReadPlan) (p n w : ℕ) → has_head its.head ≡ true → read_count its.reads n ≡ 0 → its.retries + 1 ≤ 4294967295
      → (es : List Report) → Ceiling (its.retries + 1) its.retries (start_with (plan.Read its) p n w) es

-- ---- by name

-- b blocks of k bytes for n: n over k, rounded up
abbrev pub Blocks : (k n b : ℕ) → Type 0
Blocks k n b = (n ≤ b * k) × (b * k < n + k)

-- with r retries, a payload of p bytes and a buffer of n: the most transfers of each call, and the most waits
pub data CeilingOf (r p n : ℕ) : Kind → (most waits : ℕ) → Type 0 where
  -- one frame
  write_with_retries_lem : CeilingOf r p n kind.WriteWithRetries (r + 1) r
  write_register_lem : (address : ℕ) → CeilingOf r p n (kind.WriteRegister address) (r + 1) r
  write_buffer_lem : (address : ℕ) → CeilingOf r p n (kind.WriteBuffer address) (r + 1) r
  write_security_keys_lem : CeilingOf r p n kind.WriteSecurityKeys (r + 1) r
  write_authentication_key_lem : CeilingOf r p n kind.WriteAuthenticationKey (r + 1) r
  write_charging_voltage_override_lem : CeilingOf r p n kind.WriteChargingVoltageOverride (r + 1) r
  write_mfg_info_lem : CeilingOf r p n kind.WriteMfgInfo (r + 1) r
  -- an access key, two; manufacturer info C, three
  send_access_key_lem : (lower upper : ℕ) → CeilingOf r p n (kind.SendAccessKey lower upper) (2 * (r + 1)) (2 * r)
  unseal_fg_lem : (lower upper : ℕ) → CeilingOf r p n (kind.UnsealFg lower upper) (2 * (r + 1)) (2 * r)
  write_mfg_info_c_lem : (lower upper : ℕ) → CeilingOf r p n (kind.WriteMfgInfoC lower upper) (3 * (r + 1)) (3 * r)
  -- data flash: one for each of b blocks; an empty write makes none
  write_dataflash_lem : (address b : ℕ) → 0 < b → Blocks 32 p b → CeilingOf r p n (kind.WriteDataflash address) (b * (r + 1)) (b * r)
  nothing_written : (address : ℕ) → p ≡ 0 → CeilingOf r p n (kind.WriteDataflash address) 0 0
  -- a plain read
  read_register_lem : (address : ℕ) → CeilingOf r p n (kind.ReadRegister address) (r + 1) r
  read_buffer_lem : (address : ℕ) → CeilingOf r p n (kind.ReadBuffer address) (r + 1) r
  read_mfg_info_lem : CeilingOf r p n kind.ReadMfgInfo (r + 1) r
  -- a MAC read: its command and one read; a command with no output is one frame
  read_security_keys_lem : CeilingOf r p n kind.ReadSecurityKeys (2 * (r + 1)) r
  read_authentication_key_lem : CeilingOf r p n kind.ReadAuthenticationKey (2 * (r + 1)) r
  read_charging_voltage_override_lem : CeilingOf r p n kind.ReadChargingVoltageOverride (2 * (r + 1)) r
  read_mfg_info_c_lem : CeilingOf r p n kind.ReadMfgInfoC (2 * (r + 1)) r
  command_read : (address : ℕ) → 0 < n → CeilingOf r p n (kind.DispatchCommand address) (2 * (r + 1)) r
  command_alone : (address : ℕ) → n ≡ 0 → CeilingOf r p n (kind.DispatchCommand address) (r + 1) r
  -- data flash: the address and b blocks; an empty read makes none
  read_dataflash_lem : (address b : ℕ) → 0 < b → Blocks 32 n b → CeilingOf r p n (kind.ReadDataflash address) (b + 1 + 2 * r) r
  nothing_read : (address : ℕ) → n ≡ 0 → CeilingOf r p n (kind.ReadDataflash address) 0 0

pub record Ceilings : Type 0 where
  pub shapes : Shapes
  -- each call by its name, started with a payload of p bytes, a buffer of n and a work buffer of w
  pub named : (config : Config) → TwoByteBudgets config → (kind : Kind) (p n w most waits : ℕ) → CeilingOf (budget_of kind config n) p n kind most waits
      → (es : List Report) → Ceiling most waits (start_of kind config p n w) es
  -- and no lower: some list of reports reaches it, where the call is not refused or done at its start
  pub reached : (config : Config) → TwoByteBudgets config → (kind : Kind) (p n w most waits : ℕ) → CeilingOf (budget_of kind config n) p n kind most waits
      → phase_of (start_of kind config p n w) ≡ phase.Waiting → Reached most waits (start_of kind config p n w)
  -- a call that is refused at its start, or done at once, makes none
  pub none : (config : Config) (kind : Kind) (p n w : ℕ) (a : Answer) → phase_of (start_of kind config p n w) ≡ phase.Ended a
      → (es : List Report) → Ceiling 0 0 (start_of kind config p n w) es
  -- every call has a ceiling, and one only
  pub some : (r p n : ℕ) (kind : Kind) → (most : ℕ) × (waits : ℕ) × CeilingOf r p n kind most waits
  pub one : (r p n : ℕ) (kind : Kind) (most waits most' waits' : ℕ) → CeilingOf r p n kind most waits → CeilingOf r p n kind most' waits'
      → (most ≡ most') × (waits ≡ waits')
  -- blocks of any length: n bytes have some number of them, and one only
  pub blocks : (k n : ℕ) → 0 < k → (b : ℕ) × Blocks k n b
  pub blocks_one : (k n b c : ℕ) → Blocks k n b → Blocks k n c → b ≡ c
