-- Which call each kind is: the plan of its name. (interface.rs and versions/r5.rs)
-- Assumes nothing.
use Rattle.std.specs.Prelude.{ℕ}
use Rattle.protocol.specs.declared.common.Config.{Config}
use Rattle.interface.specs.Plans.{write_with_retries, write_register, read_register, dispatch_command, read_buffer, write_buffer}
use Rattle.r5.specs.Plans.{read_security_keys, write_security_keys, read_authentication_key, write_authentication_key, read_charging_voltage_override, write_charging_voltage_override, send_access_key, unseal_fg, write_mfg_info_c, read_mfg_info_c, write_mfg_info, read_mfg_info, read_dataflash, write_dataflash}
use Rattle.calls.specs.declared.kind.Kind.{Kind}
use Rattle.calls.specs.declared.kind.Kind.TheVariants as kind
use Rattle.calls.specs.declared.kind.Plan.{Plan}
use Rattle.calls.specs.declared.kind.Plan.TheVariants as plan

-- with a payload of p bytes and a buffer of n
unfoldable pub plan_of : Kind → Config → ℕ → ℕ → Plan
plan_of kind.WriteWithRetries config p n = plan.Write (write_with_retries config)
plan_of (kind.WriteRegister address) config p n = plan.Write (write_register config address)
plan_of (kind.ReadRegister address) config p n = plan.Read (read_register config address n)
plan_of (kind.DispatchCommand address) config p n = plan.Read (dispatch_command config address p n)
plan_of (kind.WriteBuffer address) config p n = plan.Write (write_buffer config address)
plan_of (kind.ReadBuffer address) config p n = plan.Read (read_buffer config address n)
plan_of kind.WriteSecurityKeys config p n = plan.Write (write_security_keys config)
plan_of kind.ReadSecurityKeys config p n = plan.Read (read_security_keys config)
plan_of kind.WriteAuthenticationKey config p n = plan.Write (write_authentication_key config)
plan_of kind.ReadAuthenticationKey config p n = plan.Read (read_authentication_key config)
plan_of kind.WriteChargingVoltageOverride config p n = plan.Write (write_charging_voltage_override config)
plan_of kind.ReadChargingVoltageOverride config p n = plan.Read (read_charging_voltage_override config)
plan_of (kind.SendAccessKey lower upper) config p n = plan.Write (send_access_key config lower upper)
plan_of (kind.UnsealFg lower upper) config p n = plan.Write (unseal_fg config lower upper)
plan_of (kind.WriteMfgInfoC lower upper) config p n = plan.Write (write_mfg_info_c config lower upper)
plan_of kind.ReadMfgInfoC config p n = plan.Read (read_mfg_info_c config n)
plan_of kind.WriteMfgInfo config p n = plan.Write (write_mfg_info config)
plan_of kind.ReadMfgInfo config p n = plan.Read (read_mfg_info config n)
plan_of (kind.WriteDataflash address) config p n = plan.Write (write_dataflash config address)
plan_of (kind.ReadDataflash address) config p n = plan.Read (read_dataflash config address)
