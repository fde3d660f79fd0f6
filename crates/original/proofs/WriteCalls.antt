-- Each writing call, fed, is the original's.
-- Assumes nothing.
use Prim.Native.Nat.{ℕ, ◌+◌, ◌-◌, ◌*◌, ◌/◌, ◌%◌, ◌≤◌, ◌<◌}
use mathlib.Core.Path.{◌≡◌, refl, ◌∙◌}
use mathlib.Core.List.{List, [], ◌∷◌, ◌++◌}
use mathlib.Core.Bool.{Bool, true, false}
use native.Mathlib.Omega.{arith}
use lib.IntN.{ℤ, pos, negsuc}
use lib.ListN.{length, drop, length-append, length-take}
use lib.Dec.{ltb, eqb}
use borrow.Author.Tests.{le-ltb, eq-eqb, ltb-false, eqb-true, eqb-false}
use Rattle.protocol.specs.Pick.{when◌then◌else◌}
use Rattle.protocol.specs.Frame.{sealed, register_bytes, mac_bytes, info_bytes, fixed_pair, pair_of}
use Rattle.r5.specs.Voltage.{bits_of, override_bytes}
use Rattle.r5.specs.declared.voltage.ChargingVoltageOverride.{ChargingVoltageOverride}
use Rattle.protocol.specs.declared.frame.MacCommand.{MacCommand}
use Rattle.protocol.specs.declared.frame.MacCommand.TheVariants as mac
use Rattle.protocol.specs.declared.common.Side.TheVariants as side
use Rattle.protocol.specs.declared.common.Config.{Config}
use Rattle.protocol.specs.declared.error.Answer.TheVariants as answer
use Rattle.engine.specs.Limit.{measured, admitted, windowed}
use Rattle.protocol.specs.Window.{in_window}
use Rattle.protocol.proofs.WindowLaws.{within}
use Rattle.engine.specs.declared.limit.Limit.TheVariants as limit
use Rattle.engine.specs.declared.bus.Phase.TheVariants as phase
use Rattle.writing.specs.Frames.{is_flash, is_plain, first_address, bytes_at, half_bytes, info_cbytes, block_bytes, frame_count}
use Rattle.writing.specs.Writing as writing
use Rattle.interface.specs.Plans as machine
use Rattle.r5.specs.Plans as machine-r5
use Rattle.original.specs.OriginalCommon as common
use Rattle.original.specs.OriginalCommon.{set_for}
use Rattle.original.specs.Bus.{BusOutcome, Log, begun, Came, Err, settle}
use Rattle.original.specs.Fed.{Lending, Lends, answered, writes}
use Rattle.original.specs.OriginalInterface as rust
use Rattle.original.specs.OriginalR5 as rust-r5
use Rattle.original.proofs.WriteTurns.{own, frame_at, each, frames_in_turn, no_frame}
use Rattle.original.proofs.Range.{range_window}
use Rattle.original.proofs.FlashWrite.{all_chunks}
use Rattle.original.proofs.OneFrame.{one_frame, limited}
use Rattle.original.proofs.Laws.{fixed_pair_lem, settle_by, settle_settle, settle_last}

i16_bytes : (x : ℤ) → pair_of (bits_of x) ≡ rust-r5.i16_to_le_bytes x
unfolding bits_of pair_of rust.to_le_bytes rust-r5.i16_to_le_bytes
i16_bytes (pos n) = refl
i16_bytes (negsuc n) = refl

override_bytes_lem : (v : ChargingVoltageOverride)
    → override_bytes v
    ≡ rust-r5.i16_to_le_bytes v.low_temp_chrg_mv
    ++ rust-r5.i16_to_le_bytes v.std_low_temp_chrg_mv
    ++ rust-r5.i16_to_le_bytes v.std_hi_temp_chrg_mv
    ++ rust-r5.i16_to_le_bytes v.hi_temp_chrg_mv
    ++ rust-r5.i16_to_le_bytes v.recommended_temp_chrg_mv
unfolding override_bytes
override_bytes_lem v = simp i16_bytes

override_length : (v : ChargingVoltageOverride) → length (override_bytes v) ≡ 10
unfolding override_bytes pair_of
override_length v = refl

half_length : (lower upper i : ℕ) → length (half_bytes lower upper i) ≡ 4
unfolding half_bytes mac_bytes pair_of when◌then◌else◌
half_length lower upper i = by (eqb i 0)
  where
    by : (t : Bool) → length (when t then mac_bytes (pair_of lower) [] else mac_bytes (pair_of upper) []) ≡ 4
    by true = refl
    by false = refl

-- a count of at most 34 is a byte
mac_bytes_lem : (pair bytes : List ℕ) → length bytes ≤ 32 → mac_bytes pair bytes ≡ 0x44 ∷ (length bytes + 2) ∷ pair ++ bytes
unfolding mac_bytes
mac_bytes_lem pair bytes h = let e : (length bytes + 2) % 256 ≡ length bytes + 2 = omega arith in rw e

info_bytes_lem : (bytes : List ℕ) → length bytes ≤ 32 → info_bytes bytes ≡ 0x70 ∷ length bytes ∷ bytes
unfolding info_bytes
info_bytes_lem bytes h = let e : length bytes % 256 ≡ length bytes = omega arith in rw e

info_c_length : (lower upper i : ℕ) (bytes : List ℕ) → length bytes ≤ 32 → length (info_cbytes lower upper i bytes) ≤ 36
unfolding info_cbytes when◌then◌else◌
info_c_length lower upper i bytes h = by (ltb i 2)
  where
    by : (t : Bool) → length (when t then half_bytes lower upper i else mac_bytes (fixed_pair mac.MfgInfoC) bytes) ≤ 36
    by true = omega (arith, half_length lower upper i)
    by false = rw (mac_bytes_lem (fixed_pair mac.MfgInfoC) bytes h) (omega arith)

block_length : (start i : ℕ) (bytes : List ℕ) → length (block_bytes start i bytes) ≤ 36
unfolding block_bytes mac_bytes pair_of
block_length start i bytes = omega (arith, length-take 32 (drop (i * 32) bytes))

module _ (config : Config) (small : config.max_write_retries ≤ 65535) (w : ℕ) (roomy : 39 ≤ w) (lent : ℕ → Lending) (steady : Lends w lent) (outcomes : List BusOutcome) where
  -- what the Rust is set to
  abbrev set : common.Config
  set = set_for side.Write config

  plain_write_by : (t : Bool) → config.pec_write ≡ t → (bytes : List ℕ) → rust.write_panics config.pec_write bytes ≡ false
      → writes (machine.write_with_retries config) bytes w lent outcomes ≡ rust.write_with_retries set bytes config.pec_write begun outcomes
  unfolding machine.write_with_retries machine.plain_limit writing.plan_of writing.own_bytes is_plain frame_count bytes_at frame_at sealed first_address measured when◌then◌else◌ rust.write_with_retries rust.with_pec
  plain_write_by true e bytes h =
      let short : ltb 38 (length bytes) ≡ false = rw e at h in
      let m : measured (machine.write_with_retries config).limit 0 (length bytes) ≡ phase.Waiting = rw (e, short) in
      one_frame (machine.write_with_retries config) bytes w lent steady small roomy refl outcomes m (λ o. omega (arith, ltb-false 38 (length bytes) short)) ∙ rw e
  plain_write_by false e bytes h =
      let m : measured (machine.write_with_retries config).limit 0 (length bytes) ≡ phase.Waiting = rw e in
      let never : (own (machine.write_with_retries config) bytes w ≡ false → length bytes < w) = λ o. (let clash : ◌≡◌ {A = Bool} true false = rw e at o in let z : ◌≡◌ {A = ℕ} 0 1 = cc in omega arith) in
      one_frame (machine.write_with_retries config) bytes w lent steady small roomy refl outcomes m never ∙ rw e

  pub plain_write : (bytes : List ℕ) → rust.write_panics config.pec_write bytes ≡ false
      → writes (machine.write_with_retries config) bytes w lent outcomes ≡ rust.write_with_retries set bytes config.pec_write begun outcomes
  plain_write bytes h = plain_write_by config.pec_write refl bytes h

  plain_write_refused_by : (t : Bool) → config.pec_write ≡ t → (bytes : List ℕ) → rust.write_panics config.pec_write bytes ≡ true → writes (machine.write_with_retries config) bytes w lent outcomes ≡ Err answer.DataTooLarge begun outcomes
  unfolding machine.write_with_retries machine.plain_limit writing.plan_of first_address measured admitted answered when◌then◌else◌
  plain_write_refused_by true e bytes h =
      let long : ltb 38 (length bytes) ≡ true = rw e at h in
      no_frame (machine.write_with_retries config) bytes w lent answer.DataTooLarge outcomes (rw (le-ltb w 39 roomy, e, long))
  plain_write_refused_by false e bytes h = let clash : ◌≡◌ {A = Bool} false true = rw e at h in cc

  pub plain_write_refused : (bytes : List ℕ) → rust.write_panics config.pec_write bytes ≡ true → writes (machine.write_with_retries config) bytes w lent outcomes ≡ Err answer.DataTooLarge begun outcomes
  plain_write_refused bytes h = plain_write_refused_by config.pec_write refl bytes h

  pub write_register_lem : (address : ℕ) (bytes : List ℕ) → writes (machine.write_register config address) bytes w lent outcomes ≡ rust.write_register set address bytes begun outcomes
  unfolding machine.write_register writing.plan_of writing.own_bytes is_plain frame_count bytes_at register_bytes frame_at sealed when◌then◌else◌ rust.write_register rust.write_with_retries rust.with_pec
  write_register_lem address bytes =
      limited (machine.write_register config address) bytes w lent steady small roomy refl 32 outcomes refl (λ h. omega arith) (ltb 32 (length bytes)) refl

  pub buffer_write_lem : (address : ℕ) (bytes : List ℕ) → writes (machine.write_buffer config address) bytes w lent outcomes ≡ rust.buffer_write set address bytes begun outcomes
  unfolding machine.write_buffer writing.plan_of writing.own_bytes is_plain frame_count bytes_at register_bytes frame_at sealed when◌then◌else◌ rust.buffer_write rust.write_with_retries rust.with_pec
  buffer_write_lem address bytes =
      limited (machine.write_buffer config address) bytes w lent steady small roomy refl 33 outcomes refl (λ h. omega arith) (ltb 33 (length bytes)) refl

  -- a MAC write of a fixed length
  keyed : (command : MacCommand) (size : ℕ) (bytes : List ℕ) → length bytes ≡ size → size ≤ 32
      → writes (machine-r5.mac_write config command size) bytes w lent outcomes ≡ rust.mac_write_with_retries set (0x44 ∷ (size + 2) ∷ fixed_pair command ++ bytes) begun outcomes
  unfolding machine-r5.mac_write writing.plan_of writing.own_bytes is_plain frame_count bytes_at frame_at sealed first_address measured when◌then◌else◌ rust.mac_write_with_retries rust.write_with_retries rust.with_pec
  keyed command size bytes e h =
      let m : measured (limit.Exactly size) 0 (length bytes) ≡ phase.Waiting = rw (eq-eqb (length bytes) size e) in
      let f : mac_bytes (fixed_pair command) bytes ≡ 0x44 ∷ (size + 2) ∷ fixed_pair command ++ bytes = mac_bytes_lem (fixed_pair command) bytes (omega arith) ∙ rw e in
      let short : length (mac_bytes (fixed_pair command) bytes) ≤ 36 = rw f (omega (arith, length-append (fixed_pair command) bytes, fixed_pair_lem command)) in
      one_frame (machine-r5.mac_write config command size) bytes w lent steady small roomy refl outcomes m (λ o. omega arith) ∙ rw f

  pub write_security_keys_lem : (keys : List ℕ) → length keys ≡ 28 → writes (machine-r5.write_security_keys config) keys w lent outcomes ≡ rust-r5.write_security_keys set keys begun outcomes
  unfolding rust-r5.write_security_keys
  write_security_keys_lem keys e = keyed mac.SecurityKeys 28 keys e (omega arith)

  pub write_authentication_key_lem : (key : List ℕ) → length key ≡ 16 → writes (machine-r5.write_authentication_key config) key w lent outcomes ≡ rust-r5.write_authentication_key set key begun outcomes
  unfolding rust-r5.write_authentication_key
  write_authentication_key_lem key e = keyed mac.AuthenticationKey 16 key e (omega arith)

  pub write_charging_voltage_override_lem : (figures : ChargingVoltageOverride)
      → writes (machine-r5.write_charging_voltage_override config) (override_bytes figures) w lent outcomes ≡ rust-r5.write_charging_voltage_override set figures begun outcomes
  unfolding rust-r5.write_charging_voltage_override
  write_charging_voltage_override_lem figures = keyed mac.ChargingVoltageOverride 10 (override_bytes figures) (override_length figures) (omega arith) ∙ rw (override_bytes_lem figures)

  pub write_mfg_info_lem : (bytes : List ℕ) → writes (machine-r5.write_mfg_info config) bytes w lent outcomes ≡ rust-r5.write_mfg_info set bytes begun outcomes
  unfolding machine-r5.write_mfg_info writing.plan_of writing.own_bytes is_plain frame_count bytes_at frame_at sealed when◌then◌else◌ rust-r5.write_mfg_info rust.mac_write_with_retries rust.write_with_retries rust.with_pec
  write_mfg_info_lem bytes = by (ltb 32 (length bytes)) refl
    where
      by : (t : Bool) → ltb 32 (length bytes) ≡ t → writes (machine-r5.write_mfg_info config) bytes w lent outcomes ≡ rust-r5.write_mfg_info set bytes begun outcomes
      by true t = limited (machine-r5.write_mfg_info config) bytes w lent steady small roomy refl 32 outcomes refl (λ h. rw (info_bytes_lem bytes h) (omega arith)) true t ∙ rw t
      by false t =
          limited (machine-r5.write_mfg_info config) bytes w lent steady small roomy refl 32 outcomes refl (λ h. rw (info_bytes_lem bytes h) (omega arith)) false t
          ∙ rw (t, info_bytes_lem bytes (ltb-false 32 (length bytes) t))

  pub send_access_key_lem : (lower upper : ℕ) → writes (machine-r5.send_access_key config lower upper) [] w lent outcomes ≡ rust-r5.send_access_key set lower upper begun outcomes
  unfolding machine-r5.send_access_key writing.plan_of writing.own_bytes writing.gave_up is_plain is_flash frame_count bytes_at half_bytes mac_bytes pair_of frame_at each sealed first_address measured admitted when◌then◌else◌ rust.to_le_bytes rust.mac_write_with_retries rust.write_with_retries rust.with_pec rust-r5.send_access_key
  send_access_key_lem lower upper =
      frames_in_turn (machine-r5.send_access_key config lower upper) [] w lent steady (λ i j o. omega (arith, half_length lower upper i)) (omega arith) small 1 outcomes refl (rw (le-ltb w 39 roomy))
      ∙ settle_by _ _ (λ e. e) (λ log outcomes. settle_last _) _

  pub unseal_fg_lem : (lower upper : ℕ) → writes (machine-r5.unseal_fg config lower upper) [] w lent outcomes ≡ rust-r5.unseal_fg set lower upper begun outcomes
  unfolding rust-r5.unseal_fg
  unseal_fg_lem lower upper = send_access_key_lem lower upper

  -- the third frame follows the two of the access key
  info_c_frames : (lower upper : ℕ) (bytes : List ℕ)
      → each (machine-r5.write_mfg_info_c config lower upper) bytes w 3 0 begun outcomes
      ≡ settle (rust.mac_write_with_retries set (mac_bytes (fixed_pair mac.MfgInfoC) bytes)) (λ e. e) (rust-r5.send_access_key set lower upper begun outcomes)
  unfolding machine-r5.write_mfg_info_c writing.plan_of writing.own_bytes writing.gave_up is_plain is_flash bytes_at info_cbytes half_bytes mac_bytes pair_of frame_at each sealed when◌then◌else◌ rust.to_le_bytes rust.mac_write_with_retries rust.write_with_retries rust.with_pec rust-r5.send_access_key
  info_c_frames lower upper bytes =
      let third : Log → List BusOutcome → Came = rust.mac_write_with_retries set (mac_bytes (fixed_pair mac.MfgInfoC) bytes) in
      let second : Log → List BusOutcome → Came = rust.mac_write_with_retries set (0x44 ∷ 2 ∷ rust.to_le_bytes upper) in
      let first : Came = rust.mac_write_with_retries set (0x44 ∷ 2 ∷ rust.to_le_bytes lower) begun outcomes in
      settle_by _ (λ log outcomes. settle third (λ e. e) (second log outcomes)) (λ e. e) (λ log outcomes. settle_by _ third (λ e. e) (λ log outcomes. settle_last _) (second log outcomes)) first
      ∙ settle_settle second third first

  pub write_mfg_info_c_lem : (lower upper : ℕ) (bytes : List ℕ) → writes (machine-r5.write_mfg_info_c config lower upper) bytes w lent outcomes ≡ rust-r5.write_mfg_info_c set lower upper bytes begun outcomes
  unfolding machine-r5.write_mfg_info_c writing.plan_of first_address measured admitted answered frame_count bytes_at when◌then◌else◌ rust-r5.write_mfg_info_c
  write_mfg_info_c_lem lower upper bytes = by (ltb 32 (length bytes)) refl
    where
      by : (t : Bool) → ltb 32 (length bytes) ≡ t → writes (machine-r5.write_mfg_info_c config lower upper) bytes w lent outcomes ≡ rust-r5.write_mfg_info_c set lower upper bytes begun outcomes
      by true t = no_frame (machine-r5.write_mfg_info_c config lower upper) bytes w lent answer.DataTooLarge outcomes (rw (le-ltb w 39 roomy, t)) ∙ rw t
      by false t =
          let h : length bytes ≤ 32 = ltb-false 32 (length bytes) t in
          frames_in_turn (machine-r5.write_mfg_info_c config lower upper) bytes w lent steady (λ i j o. omega (arith, info_c_length lower upper i bytes h)) (omega arith) small 2 outcomes refl (rw (le-ltb w 39 roomy, t))
          ∙ info_c_frames lower upper bytes
          ∙ rw (t, mac_bytes_lem (fixed_pair mac.MfgInfoC) bytes h)

  pub write_dataflash_lem : (start : ℕ) (bytes : List ℕ) → writes (machine-r5.write_dataflash config start) bytes w lent outcomes ≡ rust-r5.write_dataflash set start bytes begun outcomes
  unfolding machine-r5.write_dataflash writing.plan_of writing.own_bytes is_plain frame_count bytes_at first_address measured admitted windowed answered when◌then◌else◌ rust.mac_write_to_df_with_retries rust-r5.write_dataflash rust.write_chunks
  write_dataflash_lem start bytes = by (in_window start (length bytes)) refl (eqb (length bytes) 0) refl
    where
      by : (t : Bool) → in_window start (length bytes) ≡ t → (n : Bool) → eqb (length bytes) 0 ≡ n → writes (machine-r5.write_dataflash config start) bytes w lent outcomes ≡ rust-r5.write_dataflash set start bytes begun outcomes
      by false t n e = no_frame (machine-r5.write_dataflash config start) bytes w lent answer.DataFlashAddressOutOfRange outcomes (rw (le-ltb w 39 roomy, t)) ∙ rw (range_window, t)
      by true t true e =
          let z : length bytes ≡ 0 = eqb-true (length bytes) 0 e in
          no_frame (machine-r5.write_dataflash config start) bytes w lent answer.Done outcomes (rw (le-ltb w 39 roomy, t, e)) ∙ rw (range_window, t, z)
      by true t false e =
          let some : 0 < length bytes = omega (arith, eqb-false (length bytes) 0 e) in
          let far : (0x4000 ≤ start) × (start + length bytes ≤ 0x6000) = within start (length bytes) t some in
          frames_in_turn (machine-r5.write_dataflash config start) bytes w lent steady (λ i j o. omega (arith, block_length start i bytes)) (omega arith) small ((length bytes - 1) / 32) outcomes (omega arith) (rw (le-ltb w 39 roomy, t, e))
          ∙ all_chunks config start bytes w far.1 ((length bytes - 1) / 32) (length bytes) begun outcomes refl some (omega arith)
          ∙ rw (range_window, t)
