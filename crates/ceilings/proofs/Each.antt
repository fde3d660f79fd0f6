-- Every call has a ceiling, and one only.
-- Assumes nothing.
use Prim.Native.Nat.{ℕ, zero, suc, ◌+◌, ◌*◌, ◌<◌}
use mathlib.Core.Path.{◌≡◌, refl, ap}
use native.Mathlib.Omega.{arith}
use Rattle.calls.specs.declared.kind.Kind.{Kind}
use Rattle.calls.specs.declared.kind.Kind.TheVariants as kind
use Rattle.ceilings.specs.Ceilings.{Blocks, CeilingOf, write_with_retries_lem, write_register_lem, write_buffer_lem, write_security_keys_lem, write_authentication_key_lem, write_charging_voltage_override_lem, write_mfg_info_lem, send_access_key_lem, unseal_fg_lem, write_mfg_info_c_lem, write_dataflash_lem, nothing_written, read_register_lem, read_buffer_lem, read_mfg_info_lem, read_security_keys_lem, read_authentication_key_lem, read_charging_voltage_override_lem, read_mfg_info_c_lem, command_read, command_alone, read_dataflash_lem, nothing_read}
use Rattle.ceilings.proofs.Numbers.{blocks, blocks_one}

-- ---- every call has one

-- what is not empty has blocks
some_blocks : (n b : ℕ) → Blocks 32 (suc n) b → 0 < b
some_blocks n b (low, high) = omega arith

some_written : (r p n address : ℕ) → (most : ℕ) × (waits : ℕ) × CeilingOf r p n (kind.WriteDataflash address) most waits
some_written r zero n address = (0, 0, nothing_written address refl)
some_written r (suc p) n address =
    let split = blocks 32 (suc p) (omega arith) in
    (split.0 * (r + 1), split.0 * r, write_dataflash_lem address split.0 (some_blocks p split.0 split.1) split.1)

some_read : (r p n address : ℕ) → (most : ℕ) × (waits : ℕ) × CeilingOf r p n (kind.ReadDataflash address) most waits
some_read r p zero address = (0, 0, nothing_read address refl)
some_read r p (suc n) address =
    let split = blocks 32 (suc n) (omega arith) in
    (split.0 + 1 + 2 * r, r, read_dataflash_lem address split.0 (some_blocks n split.0 split.1) split.1)

some_command : (r p n address : ℕ) → (most : ℕ) × (waits : ℕ) × CeilingOf r p n (kind.DispatchCommand address) most waits
some_command r p zero address = (r + 1, r, command_alone address refl)
some_command r p (suc n) address = (2 * (r + 1), r, command_read address (omega arith))

pub some : (r p n : ℕ) (kind : Kind) → (most : ℕ) × (waits : ℕ) × CeilingOf r p n kind most waits
some r p n kind.WriteWithRetries = (r + 1, r, write_with_retries_lem)
some r p n (kind.WriteRegister address) = (r + 1, r, write_register_lem address)
some r p n (kind.ReadRegister address) = (r + 1, r, read_register_lem address)
some r p n (kind.DispatchCommand address) = some_command r p n address
some r p n (kind.WriteBuffer address) = (r + 1, r, write_buffer_lem address)
some r p n (kind.ReadBuffer address) = (r + 1, r, read_buffer_lem address)
some r p n kind.WriteSecurityKeys = (r + 1, r, write_security_keys_lem)
some r p n kind.ReadSecurityKeys = (2 * (r + 1), r, read_security_keys_lem)
some r p n kind.WriteAuthenticationKey = (r + 1, r, write_authentication_key_lem)
some r p n kind.ReadAuthenticationKey = (2 * (r + 1), r, read_authentication_key_lem)
some r p n kind.WriteChargingVoltageOverride = (r + 1, r, write_charging_voltage_override_lem)
some r p n kind.ReadChargingVoltageOverride = (2 * (r + 1), r, read_charging_voltage_override_lem)
some r p n (kind.SendAccessKey lower upper) = (2 * (r + 1), 2 * r, send_access_key_lem lower upper)
some r p n (kind.UnsealFg lower upper) = (2 * (r + 1), 2 * r, unseal_fg_lem lower upper)
some r p n (kind.WriteMfgInfoC lower upper) = (3 * (r + 1), 3 * r, write_mfg_info_c_lem lower upper)
some r p n kind.ReadMfgInfoC = (2 * (r + 1), r, read_mfg_info_c_lem)
some r p n kind.WriteMfgInfo = (r + 1, r, write_mfg_info_lem)
some r p n kind.ReadMfgInfo = (r + 1, r, read_mfg_info_lem)
some r p n (kind.WriteDataflash address) = some_written r p n address
some r p n (kind.ReadDataflash address) = some_read r p n address

-- ---- and one only

-- nothing has no blocks
no_blocks : (n b : ℕ) → n ≡ 0 → 0 < b → Blocks 32 n b → ⊥
no_blocks n b none some (low, high) = absurd (omega arith)

pub one : (r p n : ℕ) (kind : Kind) (most waits most' waits' : ℕ) → CeilingOf r p n kind most waits → CeilingOf r p n kind most' waits'
    → (most ≡ most') × (waits ≡ waits')
one r p n kind most waits most' waits' write_with_retries_lem write_with_retries_lem = (refl, refl)
one r p n kind most waits most' waits' (write_register_lem address) (write_register_lem address') = (refl, refl)
one r p n kind most waits most' waits' (write_buffer_lem address) (write_buffer_lem address') = (refl, refl)
one r p n kind most waits most' waits' write_security_keys_lem write_security_keys_lem = (refl, refl)
one r p n kind most waits most' waits' write_authentication_key_lem write_authentication_key_lem = (refl, refl)
one r p n kind most waits most' waits' write_charging_voltage_override_lem write_charging_voltage_override_lem = (refl, refl)
one r p n kind most waits most' waits' write_mfg_info_lem write_mfg_info_lem = (refl, refl)
one r p n kind most waits most' waits' (send_access_key_lem lower upper) (send_access_key_lem lower' upper') = (refl, refl)
one r p n kind most waits most' waits' (unseal_fg_lem lower upper) (unseal_fg_lem lower' upper') = (refl, refl)
one r p n kind most waits most' waits' (write_mfg_info_c_lem lower upper) (write_mfg_info_c_lem lower' upper') = (refl, refl)
one r p n kind most waits most' waits' (read_register_lem address) (read_register_lem address') = (refl, refl)
one r p n kind most waits most' waits' (read_buffer_lem address) (read_buffer_lem address') = (refl, refl)
one r p n kind most waits most' waits' read_mfg_info_lem read_mfg_info_lem = (refl, refl)
one r p n kind most waits most' waits' read_security_keys_lem read_security_keys_lem = (refl, refl)
one r p n kind most waits most' waits' read_authentication_key_lem read_authentication_key_lem = (refl, refl)
one r p n kind most waits most' waits' read_charging_voltage_override_lem read_charging_voltage_override_lem = (refl, refl)
one r p n kind most waits most' waits' read_mfg_info_c_lem read_mfg_info_c_lem = (refl, refl)
one r p n kind most waits most' waits' (write_dataflash_lem address b x split) (write_dataflash_lem address' c y parted) =
    let e = blocks_one 32 p b c split parted in
    (ap (λ (z : ℕ). z * (r + 1)) e, ap (λ (z : ℕ). z * r) e)
one r p n kind most waits most' waits' (write_dataflash_lem address b x split) (nothing_written address' none) = absurd (no_blocks p b none x split)
one r p n kind most waits most' waits' (nothing_written address none) (write_dataflash_lem address' c y parted) = absurd (no_blocks p c none y parted)
one r p n kind most waits most' waits' (nothing_written address none) (nothing_written address' again) = (refl, refl)
one r p n kind most waits most' waits' (command_read address x) (command_read address' y) = (refl, refl)
one r p n kind most waits most' waits' (command_read address x) (command_alone address' none) = absurd (omega arith)
one r p n kind most waits most' waits' (command_alone address none) (command_read address' y) = absurd (omega arith)
one r p n kind most waits most' waits' (command_alone address none) (command_alone address' again) = (refl, refl)
one r p n kind most waits most' waits' (read_dataflash_lem address b x split) (read_dataflash_lem address' c y parted) =
    let e = blocks_one 32 n b c split parted in
    (ap (λ (z : ℕ). z + 1 + 2 * r) e, refl)
one r p n kind most waits most' waits' (read_dataflash_lem address b x split) (nothing_read address' none) = absurd (no_blocks n b none x split)
one r p n kind most waits most' waits' (nothing_read address none) (read_dataflash_lem address' c y parted) = absurd (no_blocks n c none y parted)
one r p n kind most waits most' waits' (nothing_read address none) (nothing_read address' again) = (refl, refl)
