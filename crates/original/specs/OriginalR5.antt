-- The calls of versions/r5.rs as they stand there; read_register_unchecked and write_register_unchecked, which were retired (02, W-210), are left out here.
-- Assumes nothing.
use Rattle.std.specs.Prelude.{ℕ, ◌+◌, ◌-◌, ◌*◌, true, false, List, [], ◌∷◌, ◌++◌, length, get_or, replicate, ℤ, pos, negsuc, ltb}
use Rattle.protocol.specs.Pick.{when◌then◌else◌}
use Rattle.protocol.specs.declared.error.Answer.TheVariants as answer
use Rattle.r5.specs.declared.voltage.ChargingVoltageOverride.{ChargingVoltageOverride}
use Rattle.original.specs.OriginalCommon.{Config}
use Rattle.original.specs.Bus.{BusOutcome, Log, Came, Err, Read, ◌leaving◌, and_then, copied}
use Rattle.original.specs.OriginalInterface.{to_le_bytes, mac_write_with_retries, mac_write_to_df_with_retries, read_with_retries, mac_read_with_retries, mac_read_from_df_with_retries, mac_read_from_df_with_retries_pec}

-- read_security_keys, of 28 bytes
unfoldable pub read_security_keys : Config → List ℕ → Log → List BusOutcome → Read
read_security_keys config buffer log outcomes = mac_read_with_retries config (0x44 ∷ 2 ∷ 0x35 ∷ 0x00 ∷ []) buffer log outcomes

-- write_security_keys, of 28 bytes
unfoldable pub write_security_keys : Config → List ℕ → Log → List BusOutcome → Came
write_security_keys config keys log outcomes = mac_write_with_retries config (0x44 ∷ (28 + 2) ∷ 0x35 ∷ 0x00 ∷ keys) log outcomes

-- read_authentication_key, of 16 bytes
unfoldable pub read_authentication_key : Config → List ℕ → Log → List BusOutcome → Read
read_authentication_key config buffer log outcomes = mac_read_with_retries config (0x44 ∷ 2 ∷ 0x37 ∷ 0x00 ∷ []) buffer log outcomes

-- write_authentication_key, of 16 bytes
unfoldable pub write_authentication_key : Config → List ℕ → Log → List BusOutcome → Came
write_authentication_key config key log outcomes = mac_write_with_retries config (0x44 ∷ (16 + 2) ∷ 0x37 ∷ 0x00 ∷ key) log outcomes

-- send_access_key
unfoldable pub send_access_key : Config → ℕ → ℕ → Log → List BusOutcome → Came
send_access_key config lower upper log outcomes =
    and_then (λ log outcomes. mac_write_with_retries config (0x44 ∷ 2 ∷ to_le_bytes upper) log outcomes)
    (mac_write_with_retries config (0x44 ∷ 2 ∷ to_le_bytes lower) log outcomes)

-- unseal_fg
unfoldable pub unseal_fg : Config → ℕ → ℕ → Log → List BusOutcome → Came
unseal_fg config unseal_key_lower unseal_key_upper log outcomes = send_access_key config unseal_key_lower unseal_key_upper log outcomes

-- write_mfg_info_c
unfoldable pub write_mfg_info_c : Config → ℕ → ℕ → List ℕ → Log → List BusOutcome → Came
write_mfg_info_c config lower upper bytes log outcomes =
    when ltb 32 (length bytes) then Err answer.DataTooLarge log outcomes else
    and_then (λ log outcomes. mac_write_with_retries config (0x44 ∷ (length bytes + 2) ∷ 0x7B ∷ 0x00 ∷ bytes) log outcomes)
    (send_access_key config lower upper log outcomes)

-- read_mfg_info_c: with PEC into 32 bytes of its own
unfoldable pub read_mfg_info_c : Config → List ℕ → Log → List BusOutcome → Read
read_mfg_info_c config buffer log outcomes =
    let buf : List ℕ = 0x44 ∷ 2 ∷ 0x7B ∷ 0x00 ∷ [] in
    when ltb 32 (length buffer) then Err answer.DataTooLarge log outcomes leaving buffer else
    when config.pec_read then copied buffer (mac_read_with_retries config buf (replicate 32 0) log outcomes)
    else mac_read_with_retries config buf buffer log outcomes

-- write_mfg_info
unfoldable pub write_mfg_info : Config → List ℕ → Log → List BusOutcome → Came
write_mfg_info config bytes log outcomes =
    when ltb 32 (length bytes) then Err answer.DataTooLarge log outcomes
    else mac_write_with_retries config (0x70 ∷ length bytes ∷ bytes) log outcomes

-- read_mfg_info: with PEC into 33 bytes of its own
unfoldable pub read_mfg_info : Config → List ℕ → Log → List BusOutcome → Read
read_mfg_info config buffer log outcomes =
    when ltb 33 (length buffer) then Err answer.DataTooLarge log outcomes leaving buffer else
    when config.pec_read then copied buffer (read_with_retries config 0x70 (replicate 33 0) true log outcomes)
    else read_with_retries config 0x70 buffer false log outcomes

-- i16::to_le_bytes
unfoldable pub i16_to_le_bytes : ℤ → List ℕ
i16_to_le_bytes (pos n) = to_le_bytes n
i16_to_le_bytes (negsuc n) = to_le_bytes (65535 - n)

-- write_charging_voltage_override
unfoldable pub write_charging_voltage_override : Config → ChargingVoltageOverride → Log → List BusOutcome → Came
write_charging_voltage_override config figures log outcomes =
    mac_write_with_retries config
    (0x44 ∷ (10 + 2) ∷ 0xB0 ∷ 0x00
    ∷ i16_to_le_bytes figures.low_temp_chrg_mv
    ++ i16_to_le_bytes figures.std_low_temp_chrg_mv
    ++ i16_to_le_bytes figures.std_hi_temp_chrg_mv
    ++ i16_to_le_bytes figures.hi_temp_chrg_mv
    ++ i16_to_le_bytes figures.recommended_temp_chrg_mv) log outcomes

-- i16::from_le_bytes
unfoldable pub i16_from_le_bytes : ℕ → ℕ → ℤ
i16_from_le_bytes low high = when ltb (low + 256 * high) 0x8000 then pos (low + 256 * high) else negsuc (0xFFFF - (low + 256 * high))

-- read_charging_voltage_override, with its ten bytes for a buffer
unfoldable pub read_charging_voltage_override : Config → List ℕ → Log → List BusOutcome → Read
read_charging_voltage_override config buffer log outcomes = mac_read_with_retries config (0x44 ∷ 2 ∷ 0xB0 ∷ 0x00 ∷ []) buffer log outcomes

-- and the figures that it makes of them
unfoldable pub override_figures : List ℕ → ChargingVoltageOverride
override_figures buffer = record {
  low_temp_chrg_mv = i16_from_le_bytes (get_or buffer 0 0) (get_or buffer 1 0);
  std_low_temp_chrg_mv = i16_from_le_bytes (get_or buffer 2 0) (get_or buffer 3 0);
  std_hi_temp_chrg_mv = i16_from_le_bytes (get_or buffer 4 0) (get_or buffer 5 0);
  hi_temp_chrg_mv = i16_from_le_bytes (get_or buffer 6 0) (get_or buffer 7 0);
  recommended_temp_chrg_mv = i16_from_le_bytes (get_or buffer 8 0) (get_or buffer 9 0);
}

-- read_dataflash
unfoldable pub read_dataflash : Config → ℕ → List ℕ → Log → List BusOutcome → Read
read_dataflash config starting_address buffer log outcomes =
    when config.pec_read then mac_read_from_df_with_retries_pec config starting_address buffer log outcomes
    else mac_read_from_df_with_retries config starting_address buffer log outcomes

-- write_dataflash
unfoldable pub write_dataflash : Config → ℕ → List ℕ → Log → List BusOutcome → Came
write_dataflash config starting_address bytes log outcomes = mac_write_to_df_with_retries config starting_address bytes log outcomes
