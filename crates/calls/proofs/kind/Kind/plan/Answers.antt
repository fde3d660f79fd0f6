-- `calls::kind::Kind::plan` meets its contract: each kind has the plan of its name.
-- Assumes nothing.
use Rattle.calls.specs.Kind.{plan_of}
use Rattle.calls.proofs.kind.Kind.plan.Goals as goal

pub returns-in-WriteWithRetries : goal.returns-in-WriteWithRetries
unfolding plan_of
returns-in-WriteWithRetries c = rw (c.in-WriteWithRetries.is, c.write_with_retries.ensures)

pub returns-in-WriteRegister : goal.returns-in-WriteRegister
unfolding plan_of
returns-in-WriteRegister c = rw (c.in-WriteRegister.is, c.write_register.ensures)

pub returns-in-ReadRegister : goal.returns-in-ReadRegister
unfolding plan_of
returns-in-ReadRegister c = rw (c.in-ReadRegister.is, c.read_register.ensures)

pub returns-in-DispatchCommand : goal.returns-in-DispatchCommand
unfolding plan_of
returns-in-DispatchCommand c = rw (c.in-DispatchCommand.is, c.dispatch_command.ensures)

pub returns-in-WriteBuffer : goal.returns-in-WriteBuffer
unfolding plan_of
returns-in-WriteBuffer c = rw (c.in-WriteBuffer.is, c.write_buffer.ensures)

pub returns-in-ReadBuffer : goal.returns-in-ReadBuffer
unfolding plan_of
returns-in-ReadBuffer c = rw (c.in-ReadBuffer.is, c.read_buffer.ensures)

pub returns-in-WriteSecurityKeys : goal.returns-in-WriteSecurityKeys
unfolding plan_of
returns-in-WriteSecurityKeys c = rw (c.in-WriteSecurityKeys.is, c.write_security_keys.ensures)

pub returns-in-ReadSecurityKeys : goal.returns-in-ReadSecurityKeys
unfolding plan_of
returns-in-ReadSecurityKeys c = rw (c.in-ReadSecurityKeys.is, c.read_security_keys.ensures)

pub returns-in-WriteAuthenticationKey : goal.returns-in-WriteAuthenticationKey
unfolding plan_of
returns-in-WriteAuthenticationKey c = rw (c.in-WriteAuthenticationKey.is, c.write_authentication_key.ensures)

pub returns-in-ReadAuthenticationKey : goal.returns-in-ReadAuthenticationKey
unfolding plan_of
returns-in-ReadAuthenticationKey c = rw (c.in-ReadAuthenticationKey.is, c.read_authentication_key.ensures)

pub returns-in-WriteChargingVoltageOverride : goal.returns-in-WriteChargingVoltageOverride
unfolding plan_of
returns-in-WriteChargingVoltageOverride c = rw (c.in-WriteChargingVoltageOverride.is, c.write_charging_voltage_override.ensures)

pub returns-in-ReadChargingVoltageOverride : goal.returns-in-ReadChargingVoltageOverride
unfolding plan_of
returns-in-ReadChargingVoltageOverride c = rw (c.in-ReadChargingVoltageOverride.is, c.read_charging_voltage_override.ensures)

pub returns-in-SendAccessKey : goal.returns-in-SendAccessKey
unfolding plan_of
returns-in-SendAccessKey c = rw (c.in-SendAccessKey.is, c.send_access_key.ensures)

pub returns-in-UnsealFg : goal.returns-in-UnsealFg
unfolding plan_of
returns-in-UnsealFg c = rw (c.in-UnsealFg.is, c.unseal_fg.ensures)

pub returns-in-WriteMfgInfoC : goal.returns-in-WriteMfgInfoC
unfolding plan_of
returns-in-WriteMfgInfoC c = rw (c.in-WriteMfgInfoC.is, c.write_mfg_info_c.ensures)

pub returns-in-ReadMfgInfoC : goal.returns-in-ReadMfgInfoC
unfolding plan_of
returns-in-ReadMfgInfoC c = rw (c.in-ReadMfgInfoC.is, c.read_mfg_info_c.ensures)

pub returns-in-WriteMfgInfo : goal.returns-in-WriteMfgInfo
unfolding plan_of
returns-in-WriteMfgInfo c = rw (c.in-WriteMfgInfo.is, c.write_mfg_info.ensures)

pub returns-in-ReadMfgInfo : goal.returns-in-ReadMfgInfo
unfolding plan_of
returns-in-ReadMfgInfo c = rw (c.in-ReadMfgInfo.is, c.read_mfg_info.ensures)

pub returns-in-WriteDataflash : goal.returns-in-WriteDataflash
unfolding plan_of
returns-in-WriteDataflash c = rw (c.in-WriteDataflash.is, c.write_dataflash.ensures)

pub returns-in-ReadDataflash : goal.returns-in-ReadDataflash
unfolding plan_of
returns-in-ReadDataflash c = rw (c.in-ReadDataflash.is, c.read_dataflash.ensures)
