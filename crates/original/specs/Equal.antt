-- Demand 2: frames, order, waits, answers and buffers equal the Rust's wherever it does not panic. (01, How far each statement must reach)
-- On the left a call of the step machine, fed; on the right the Rust's function. Both give the transfers made, the waits, Ok or the error or that the call still waits, the outcomes not used, and of a reading call the buffer.
-- Each call goes by the budget of its own side: for any two budgets it is the Rust's function, set with that one (02, W-211).
-- Where the Rust panics, the added refusal stands, with no transfer. read_register_unchecked and write_register_unchecked were retired (02, W-210) and are not among
-- the calls. Assumes nothing.
use Rattle.std.specs.Prelude.{ℕ, ◌≤◌, ◌<◌, ◌≡◌, true, false, List, [], length}
use Rattle.protocol.specs.Window.{in_window}
use Rattle.r5.specs.Voltage.{override_bytes, override_of}
use Rattle.protocol.specs.declared.common.Side.TheVariants as side
use Rattle.protocol.specs.declared.common.Config.{Config}
use Rattle.protocol.specs.declared.error.Answer.TheVariants as answer
use Rattle.r5.specs.declared.voltage.ChargingVoltageOverride.{ChargingVoltageOverride}
use Rattle.interface.specs.Plans as machine
use Rattle.r5.specs.Plans as machine-r5
use Rattle.original.specs.OriginalCommon.{set_for}
use Rattle.original.specs.Bus.{BusOutcome, begun, Err, ◌leaving◌}
use Rattle.original.specs.Fed.{Lending, writes, reads}
use Rattle.original.specs.OriginalInterface as rust
use Rattle.original.specs.OriginalR5 as rust-r5

-- every call, for these settings, a work buffer of w bytes at each step, what is lent and these outcomes
pub record Equal (config : Config) (w : ℕ) (lent : ℕ → Lending) (outcomes : List BusOutcome) : Type 0 where
  -- interface.rs
  pub check_df_range_lem : (start len : ℕ) → in_window start len ≡ rust.check_df_range start len
  pub plain_write : (bytes : List ℕ) → rust.write_panics config.pec_write bytes ≡ false
      → writes (machine.write_with_retries config) bytes w lent outcomes ≡ rust.write_with_retries (set_for side.Write config) bytes config.pec_write begun outcomes
  pub plain_write_refused : (bytes : List ℕ) → rust.write_panics config.pec_write bytes ≡ true
      → writes (machine.write_with_retries config) bytes w lent outcomes ≡ Err answer.DataTooLarge begun outcomes
  pub write_register_lem : (address : ℕ) (bytes : List ℕ)
      → writes (machine.write_register config address) bytes w lent outcomes ≡ rust.write_register (set_for side.Write config) address bytes begun outcomes
  pub read_register_lem : (address : ℕ) (buffer : List ℕ)
      → reads (machine.read_register config address (length buffer)) buffer w lent outcomes ≡ rust.read_register (set_for side.Read config) address buffer begun outcomes
  pub dispatch_command_lem : (address : ℕ) (input output : List ℕ) → rust.dispatch_panics input output ≡ false → 0 < length output
      → reads (machine.dispatch_command config address (length input) (length output)) output w lent outcomes ≡ rust.dispatch_command (set_for side.Read config) address input output begun outcomes
  -- with no output it is a write
  pub dispatch_command_alone : (address : ℕ) (input : List ℕ) → rust.dispatch_panics input [] ≡ false
      → reads (machine.dispatch_command config address (length input) 0) [] w lent outcomes ≡ rust.dispatch_command (set_for side.Write config) address input [] begun outcomes
  pub dispatch_command_refused : (address : ℕ) (input output : List ℕ) → rust.dispatch_panics input output ≡ true
      → reads (machine.dispatch_command config address (length input) (length output)) output w lent outcomes ≡ Err answer.NotACommand begun outcomes leaving output
  -- a length is one of the machine's 64-bit numbers
  pub buffer_read_lem : (address : ℕ) (buffer : List ℕ) → length buffer ≤ 18446744073709551615
      → reads (machine.read_buffer config address (length buffer)) buffer w lent outcomes ≡ rust.buffer_read (set_for side.Read config) address buffer begun outcomes
  pub buffer_write_lem : (address : ℕ) (bytes : List ℕ)
      → writes (machine.write_buffer config address) bytes w lent outcomes ≡ rust.buffer_write (set_for side.Write config) address bytes begun outcomes
  -- versions/r5.rs
  pub read_security_keys_lem : (buffer : List ℕ) → length buffer ≡ 28
      → reads (machine-r5.read_security_keys config) buffer w lent outcomes ≡ rust-r5.read_security_keys (set_for side.Read config) buffer begun outcomes
  pub write_security_keys_lem : (keys : List ℕ) → length keys ≡ 28
      → writes (machine-r5.write_security_keys config) keys w lent outcomes ≡ rust-r5.write_security_keys (set_for side.Write config) keys begun outcomes
  pub read_authentication_key_lem : (buffer : List ℕ) → length buffer ≡ 16
      → reads (machine-r5.read_authentication_key config) buffer w lent outcomes ≡ rust-r5.read_authentication_key (set_for side.Read config) buffer begun outcomes
  pub write_authentication_key_lem : (key : List ℕ) → length key ≡ 16
      → writes (machine-r5.write_authentication_key config) key w lent outcomes ≡ rust-r5.write_authentication_key (set_for side.Write config) key begun outcomes
  pub unseal_fg_lem : (lower upper : ℕ)
      → writes (machine-r5.unseal_fg config lower upper) [] w lent outcomes ≡ rust-r5.unseal_fg (set_for side.Write config) lower upper begun outcomes
  pub send_access_key_lem : (lower upper : ℕ)
      → writes (machine-r5.send_access_key config lower upper) [] w lent outcomes ≡ rust-r5.send_access_key (set_for side.Write config) lower upper begun outcomes
  pub write_mfg_info_c_lem : (lower upper : ℕ) (bytes : List ℕ)
      → writes (machine-r5.write_mfg_info_c config lower upper) bytes w lent outcomes ≡ rust-r5.write_mfg_info_c (set_for side.Write config) lower upper bytes begun outcomes
  pub read_mfg_info_c_lem : (buffer : List ℕ)
      → reads (machine-r5.read_mfg_info_c config (length buffer)) buffer w lent outcomes ≡ rust-r5.read_mfg_info_c (set_for side.Read config) buffer begun outcomes
  pub write_mfg_info_lem : (bytes : List ℕ)
      → writes (machine-r5.write_mfg_info config) bytes w lent outcomes ≡ rust-r5.write_mfg_info (set_for side.Write config) bytes begun outcomes
  pub read_mfg_info_lem : (buffer : List ℕ)
      → reads (machine-r5.read_mfg_info config (length buffer)) buffer w lent outcomes ≡ rust-r5.read_mfg_info (set_for side.Read config) buffer begun outcomes
  -- the payload is what `to_bytes` makes of the figures, and `from_bytes` makes the figures of the buffer
  pub write_charging_voltage_override_lem : (figures : ChargingVoltageOverride)
      → writes (machine-r5.write_charging_voltage_override config) (override_bytes figures) w lent outcomes ≡ rust-r5.write_charging_voltage_override (set_for side.Write config) figures begun outcomes
  pub read_charging_voltage_override_lem : (buffer : List ℕ) → length buffer ≡ 10
      → reads (machine-r5.read_charging_voltage_override config) buffer w lent outcomes ≡ rust-r5.read_charging_voltage_override (set_for side.Read config) buffer begun outcomes
  pub override_figures_lem : (buffer : List ℕ) → override_of buffer ≡ rust-r5.override_figures buffer
  pub read_dataflash_lem : (start : ℕ) (buffer : List ℕ)
      → reads (machine-r5.read_dataflash config start) buffer w lent outcomes ≡ rust-r5.read_dataflash (set_for side.Read config) start buffer begun outcomes
  pub write_dataflash_lem : (start : ℕ) (bytes : List ℕ)
      → writes (machine-r5.write_dataflash config start) bytes w lent outcomes ≡ rust-r5.write_dataflash (set_for side.Write config) start bytes begun outcomes
