-- The calls of versions/r5.rs that are carried over, each as a plan: its retries, its limit, its PEC, its frames. (01, The step machine, length limits; Frames and retries)
-- Assumes nothing.
use Rattle.std.specs.Prelude.{ℕ, Bool}
use Rattle.protocol.specs.Pick.{when◌then◌else◌}
use Rattle.protocol.specs.Reply.{plain_ask}
use Rattle.protocol.specs.declared.common.Config.{Config}
use Rattle.protocol.specs.declared.frame.MacCommand.{MacCommand}
use Rattle.protocol.specs.declared.frame.MacCommand.TheVariants as mac
use Rattle.engine.specs.declared.limit.Limit.TheVariants as limit
use Rattle.writing.specs.Writing.{plan_of}
use Rattle.writing.specs.declared.frames.Frames.TheVariants as frames
use Rattle.writing.specs.declared.call.WritePlan.{WritePlan}
use Rattle.reading.specs.Reading as reading
use Rattle.reading.specs.declared.parts.Head.TheVariants as head
use Rattle.reading.specs.declared.parts.Reads.TheVariants as reads
use Rattle.reading.specs.declared.call.ReadPlan.{ReadPlan}

-- exactly so many bytes, behind a fixed pair
unfoldable pub mac_read : Config → MacCommand → ℕ → ReadPlan
mac_read config command size = reading.mac_plan config (limit.Exactly size) command size

unfoldable pub mac_write : Config → MacCommand → ℕ → WritePlan
mac_write config command size = plan_of config (limit.Exactly size) (frames.Mac command)

-- the security keys have 28 bytes, the authentication key 16, the charging voltage override ten
abbrev pub read_security_keys : Config → ReadPlan
read_security_keys config = mac_read config mac.SecurityKeys 28

abbrev pub write_security_keys : Config → WritePlan
write_security_keys config = mac_write config mac.SecurityKeys 28

abbrev pub read_authentication_key : Config → ReadPlan
read_authentication_key config = mac_read config mac.AuthenticationKey 16

abbrev pub write_authentication_key : Config → WritePlan
write_authentication_key config = mac_write config mac.AuthenticationKey 16

abbrev pub read_charging_voltage_override : Config → ReadPlan
read_charging_voltage_override config = mac_read config mac.ChargingVoltageOverride 10

abbrev pub write_charging_voltage_override : Config → WritePlan
write_charging_voltage_override config = mac_write config mac.ChargingVoltageOverride 10

-- both halves of an access key, and no payload
unfoldable pub send_access_key : Config → ℕ → ℕ → WritePlan
send_access_key config lower upper = plan_of config (limit.Exactly 0) (frames.AccessKey lower upper)

-- the gauge is unsealed by its access key
abbrev pub unseal_fg : Config → ℕ → ℕ → WritePlan
unseal_fg config lower upper = send_access_key config lower upper

-- both halves, then at most 32 bytes of info C
unfoldable pub write_mfg_info_c : Config → ℕ → ℕ → WritePlan
write_mfg_info_c config lower upper = plan_of config (limit.AtMost 32) (frames.MfgInfoC lower upper)

-- with PEC the whole register is asked for, and only the part wanted is handed over
unfoldable pub whole_ask : Bool → ℕ → ℕ → ℕ
whole_ask pec size wanted = when pec then size else wanted

-- at most 32 bytes of info C
unfoldable pub read_mfg_info_c : Config → ℕ → ReadPlan
read_mfg_info_c config n = reading.mac_plan config (limit.AtMost 32) mac.MfgInfoC (whole_ask config.pec_read 32 n)

-- at most 32 bytes of info
unfoldable pub write_mfg_info : Config → WritePlan
write_mfg_info config = plan_of config (limit.AtMost 32) frames.MfgInfo

-- at most 33 bytes of info, its size byte first
unfoldable pub read_mfg_info : Config → ℕ → ReadPlan
read_mfg_info config n = reading.plain_plan config (limit.AtMost 33) (plain_ask 0x70 (whole_ask config.pec_read 33 n) config.pec_read)

-- data flash inside the window, in blocks of 32
unfoldable pub read_dataflash : Config → ℕ → ReadPlan
read_dataflash config start = reading.plan_of config limit.Window (head.DataFlash start) (reads.Blocks config.pec_read)

unfoldable pub write_dataflash : Config → ℕ → WritePlan
write_dataflash config start = plan_of config limit.Window (frames.DataFlash start)
