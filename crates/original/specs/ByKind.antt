-- Demand 2 as a host has it: a call that is started by its kind and fed is the Rust's function of that name, whatever is lent beside what the call looks at.
-- Assumes nothing.
use Rattle.std.specs.Prelude.{ℕ, ◌≤◌, ◌<◌, ◌≡◌, true, false, List, [], length, get_or}
use Rattle.protocol.specs.declared.common.Config.{Config}
use Rattle.protocol.specs.declared.error.Answer.{Answer}
use Rattle.protocol.specs.declared.error.Answer.TheVariants as answer
use Rattle.r5.specs.Voltage.{override_of}
use Rattle.calls.specs.Sides.{side_of}
use Rattle.calls.specs.Call.{start_of}
use Rattle.calls.specs.declared.kind.Kind.{Kind}
use Rattle.calls.specs.declared.kind.Kind.TheVariants as kind
use Rattle.original.specs.OriginalCommon as common
use Rattle.original.specs.OriginalCommon.{set_for}
use Rattle.original.specs.Bus.{BusOutcome, begun, Err, Read, ◌leaving◌}
use Rattle.original.specs.Fed.{Lending, fed}
use Rattle.original.specs.OriginalInterface as rust
use Rattle.original.specs.OriginalR5 as rust-r5

-- ---- the Rust

-- its function of a kind's name; a writing one leaves the buffer as it was, and the override's figures are those of the ten bytes
abbrev pub function_of : Kind → common.Config → (payload buffer : List ℕ) → List BusOutcome → Read
function_of kind.WriteWithRetries config payload buffer os = rust.write_with_retries config payload config.pec_write begun os leaving buffer
function_of (kind.WriteRegister address) config payload buffer os = rust.write_register config address payload begun os leaving buffer
function_of (kind.ReadRegister address) config payload buffer os = rust.read_register config address buffer begun os
function_of (kind.DispatchCommand address) config payload buffer os = rust.dispatch_command config address payload buffer begun os
function_of (kind.WriteBuffer address) config payload buffer os = rust.buffer_write config address payload begun os leaving buffer
function_of (kind.ReadBuffer address) config payload buffer os = rust.buffer_read config address buffer begun os
function_of kind.WriteSecurityKeys config payload buffer os = rust-r5.write_security_keys config payload begun os leaving buffer
function_of kind.ReadSecurityKeys config payload buffer os = rust-r5.read_security_keys config buffer begun os
function_of kind.WriteAuthenticationKey config payload buffer os = rust-r5.write_authentication_key config payload begun os leaving buffer
function_of kind.ReadAuthenticationKey config payload buffer os = rust-r5.read_authentication_key config buffer begun os
function_of kind.WriteChargingVoltageOverride config payload buffer os = rust-r5.write_charging_voltage_override config (override_of payload) begun os leaving buffer
function_of kind.ReadChargingVoltageOverride config payload buffer os = rust-r5.read_charging_voltage_override config buffer begun os
function_of (kind.SendAccessKey lower upper) config payload buffer os = rust-r5.send_access_key config lower upper begun os leaving buffer
function_of (kind.UnsealFg lower upper) config payload buffer os = rust-r5.unseal_fg config lower upper begun os leaving buffer
function_of (kind.WriteMfgInfoC lower upper) config payload buffer os = rust-r5.write_mfg_info_c config lower upper payload begun os leaving buffer
function_of kind.ReadMfgInfoC config payload buffer os = rust-r5.read_mfg_info_c config buffer begun os
function_of kind.WriteMfgInfo config payload buffer os = rust-r5.write_mfg_info config payload begun os leaving buffer
function_of kind.ReadMfgInfo config payload buffer os = rust-r5.read_mfg_info config buffer begun os
function_of (kind.WriteDataflash address) config payload buffer os = rust-r5.write_dataflash config address payload begun os leaving buffer
function_of (kind.ReadDataflash address) config payload buffer os = rust-r5.read_dataflash config address buffer begun os

-- set with the budget of the call's side as `max_bus_retries` (02, W-211)
abbrev pub rust_of : Kind → Config → (payload buffer : List ℕ) → List BusOutcome → Read
rust_of kind config payload buffer os = function_of kind (set_for (side_of kind (length buffer)) config) payload buffer os

-- where the Rust has such a call and does not panic: a key, an override and an access key have their own lengths, and a length is one of the machine's
-- 64-bit numbers
abbrev pub Defined : Kind → Config → (payload buffer : List ℕ) → Type 0
Defined kind.WriteWithRetries config payload buffer = rust.write_panics config.pec_write payload ≡ false
Defined (kind.WriteRegister address) config payload buffer = Unit {0}
Defined (kind.ReadRegister address) config payload buffer = Unit {0}
Defined (kind.DispatchCommand address) config payload buffer = rust.dispatch_panics payload buffer ≡ false
Defined (kind.WriteBuffer address) config payload buffer = Unit {0}
Defined (kind.ReadBuffer address) config payload buffer = length buffer ≤ 18446744073709551615
Defined kind.WriteSecurityKeys config payload buffer = length payload ≡ 28
Defined kind.ReadSecurityKeys config payload buffer = length buffer ≡ 28
Defined kind.WriteAuthenticationKey config payload buffer = length payload ≡ 16
Defined kind.ReadAuthenticationKey config payload buffer = length buffer ≡ 16
Defined kind.WriteChargingVoltageOverride config payload buffer = (length payload ≡ 10) × ((i : ℕ) → get_or payload i 0 < 256)
Defined kind.ReadChargingVoltageOverride config payload buffer = length buffer ≡ 10
Defined (kind.SendAccessKey lower upper) config payload buffer = payload ≡ []
Defined (kind.UnsealFg lower upper) config payload buffer = payload ≡ []
Defined (kind.WriteMfgInfoC lower upper) config payload buffer = Unit {0}
Defined kind.ReadMfgInfoC config payload buffer = Unit {0}
Defined kind.WriteMfgInfo config payload buffer = Unit {0}
Defined kind.ReadMfgInfo config payload buffer = Unit {0}
Defined (kind.WriteDataflash address) config payload buffer = Unit {0}
Defined (kind.ReadDataflash address) config payload buffer = Unit {0}

-- where it panics, or has no call of those lengths: the added refusal
pub data Added (config : Config) (payload buffer : List ℕ) : Kind → Answer → Type 0 where
  long_frame : rust.write_panics config.pec_write payload ≡ true → Added config payload buffer kind.WriteWithRetries answer.DataTooLarge
  input_given : (address : ℕ) → rust.dispatch_panics payload buffer ≡ true → Added config payload buffer (kind.DispatchCommand address) answer.NotACommand
  keys_written : (length payload ≡ 28 → ⊥) → Added config payload buffer kind.WriteSecurityKeys answer.WrongBuffer
  keys_read : (length buffer ≡ 28 → ⊥) → Added config payload buffer kind.ReadSecurityKeys answer.WrongBuffer
  key_written : (length payload ≡ 16 → ⊥) → Added config payload buffer kind.WriteAuthenticationKey answer.WrongBuffer
  key_read : (length buffer ≡ 16 → ⊥) → Added config payload buffer kind.ReadAuthenticationKey answer.WrongBuffer
  override_written : (length payload ≡ 10 → ⊥) → Added config payload buffer kind.WriteChargingVoltageOverride answer.WrongBuffer
  override_read : (length buffer ≡ 10 → ⊥) → Added config payload buffer kind.ReadChargingVoltageOverride answer.WrongBuffer
  key_sent : (lower upper : ℕ) → (length payload ≡ 0 → ⊥) → Added config payload buffer (kind.SendAccessKey lower upper) answer.WrongBuffer
  unsealed : (lower upper : ℕ) → (length payload ≡ 0 → ⊥) → Added config payload buffer (kind.UnsealFg lower upper) answer.WrongBuffer

-- every kind, by the budget of its side, for these settings, a work buffer of w bytes at each step, what is lent and these outcomes
pub record EqualByKind (config : Config) (w : ℕ) (lent : ℕ → Lending) (outcomes : List BusOutcome) : Type 0 where
  pub same : (kind : Kind) (payload buffer : List ℕ) → Defined kind config payload buffer
      → fed (start_of kind config (length payload) (length buffer) w) payload buffer lent [] outcomes ≡ rust_of kind config payload buffer outcomes
  -- with no transfer, and the buffer as it was
  pub added : (kind : Kind) (payload buffer : List ℕ) (a : Answer) → Added config payload buffer kind a
      → fed (start_of kind config (length payload) (length buffer) w) payload buffer lent [] outcomes ≡ (Err a begun outcomes leaving buffer)
