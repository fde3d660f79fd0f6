-- Demand 2 holds, for any settings, any work buffers of one length that is large enough, anything beside a failure and any outcomes.
-- Assumes nothing.
use Prim.Native.Nat.{ℕ, ◌≤◌}
use mathlib.Core.Path.{sym}
use mathlib.Core.List.{List}
use Rattle.protocol.specs.Common.{TwoByteBudgets}
use Rattle.protocol.specs.declared.common.Config.{Config}
use Rattle.original.specs.Bus.{BusOutcome}
use Rattle.original.specs.Fed.{Lending, Lends}
use Rattle.original.specs.Equal.{Equal}
use Rattle.original.proofs.Range.{range_window}
use Rattle.original.proofs.WriteCalls as write-calls
use Rattle.original.proofs.ReadCalls as read-calls

-- each budget is 0 to 65,535, and every work buffer has the same length, of at least 39 bytes
pub equal : (config : Config) → TwoByteBudgets config → (w : ℕ) → 39 ≤ w → (lent : ℕ → Lending) → Lends w lent → (outcomes : List BusOutcome) → Equal config w lent outcomes
equal config small w roomy lent steady outcomes = record {
  check_df_range_lem = λ start len. sym (range_window start len);
  plain_write = write-calls.plain_write config small.0 w roomy lent steady outcomes;
  plain_write_refused = write-calls.plain_write_refused config small.0 w roomy lent steady outcomes;
  write_register_lem = write-calls.write_register_lem config small.0 w roomy lent steady outcomes;
  read_register_lem = read-calls.read_register_lem config small.0 small.1 w roomy lent steady outcomes;
  dispatch_command_lem = read-calls.dispatch_command_lem config small.0 small.1 w roomy lent steady outcomes;
  dispatch_command_alone = read-calls.dispatch_command_alone config small.0 small.1 w roomy lent steady outcomes;
  dispatch_command_refused = read-calls.dispatch_command_refused config small.0 small.1 w roomy lent steady outcomes;
  buffer_read_lem = read-calls.buffer_read_lem config small.0 small.1 w roomy lent steady outcomes;
  buffer_write_lem = write-calls.buffer_write_lem config small.0 w roomy lent steady outcomes;
  read_security_keys_lem = read-calls.read_security_keys_lem config small.0 small.1 w roomy lent steady outcomes;
  write_security_keys_lem = write-calls.write_security_keys_lem config small.0 w roomy lent steady outcomes;
  read_authentication_key_lem = read-calls.read_authentication_key_lem config small.0 small.1 w roomy lent steady outcomes;
  write_authentication_key_lem = write-calls.write_authentication_key_lem config small.0 w roomy lent steady outcomes;
  unseal_fg_lem = write-calls.unseal_fg_lem config small.0 w roomy lent steady outcomes;
  send_access_key_lem = write-calls.send_access_key_lem config small.0 w roomy lent steady outcomes;
  write_mfg_info_c_lem = write-calls.write_mfg_info_c_lem config small.0 w roomy lent steady outcomes;
  read_mfg_info_c_lem = read-calls.read_mfg_info_c_lem config small.0 small.1 w roomy lent steady outcomes;
  write_mfg_info_lem = write-calls.write_mfg_info_lem config small.0 w roomy lent steady outcomes;
  read_mfg_info_lem = read-calls.read_mfg_info_lem config small.0 small.1 w roomy lent steady outcomes;
  write_charging_voltage_override_lem = write-calls.write_charging_voltage_override_lem config small.0 w roomy lent steady outcomes;
  read_charging_voltage_override_lem = read-calls.read_charging_voltage_override_lem config small.0 small.1 w roomy lent steady outcomes;
  override_figures_lem = read-calls.override_figures_lem;
  read_dataflash_lem = read-calls.read_dataflash_lem config small.0 small.1 w roomy lent steady outcomes;
  write_dataflash_lem = write-calls.write_dataflash_lem config small.0 w roomy lent steady outcomes;
}
