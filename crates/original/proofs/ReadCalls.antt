-- Each reading call, fed, is the original's.
-- Assumes nothing.
use Prim.Native.Nat.{ℕ, ◌+◌, ◌*◌, ◌/◌, ◌%◌, ◌≤◌, ◌<◌}
use mathlib.Core.Path.{◌≡◌, refl, sym, ap, ◌∙◌}
use mathlib.Core.List.{List, [], ◌∷◌}
use mathlib.Core.Bool.{Bool, true, false}
use native.Mathlib.Omega.{arith}
use lib.ListN.{length, replicate}
use lib.Dec.{ltb, eqb}
use borrow.Author.Tests.{le-ltb, eq-eqb, ltb-false, eqb-true, eqb-false, ne_eqb}
use Rattle.protocol.specs.Pick.{when◌then◌else◌}
use Rattle.protocol.specs.Frame.{mac_bytes, fixed_pair, command_bytes, sealed}
use Rattle.protocol.specs.Reply.{plain_ask, mac_ask}
use Rattle.r5.specs.Voltage.{figure_of, override_of}
use Rattle.protocol.specs.Window.{in_window}
use Rattle.protocol.specs.declared.common.Side.TheVariants as side
use Rattle.protocol.specs.declared.common.Config.{Config}
use Rattle.protocol.specs.declared.error.Answer.TheVariants as answer
use Rattle.protocol.specs.declared.frame.MacCommand.{MacCommand}
use Rattle.protocol.specs.declared.frame.MacCommand.TheVariants as mac
use Rattle.protocol.proofs.WindowLaws.{within}
use Rattle.engine.specs.Budget.{nothing}
use Rattle.engine.specs.Limit.{measured, admitted, windowed, commanded}
use Rattle.engine.specs.declared.limit.Limit.{Limit}
use Rattle.engine.specs.declared.limit.Limit.TheVariants as limit
use Rattle.engine.specs.declared.bus.Phase.TheVariants as phase
use Rattle.reading.specs.Parts as parts
use Rattle.reading.specs.Reading as reading
use Rattle.reading.specs.declared.parts.Head.TheVariants as head
use Rattle.reading.specs.declared.parts.Reads.TheVariants as Reads-of
use Rattle.interface.specs.Plans as machine
use Rattle.r5.specs.Plans as machine-r5
use Rattle.original.specs.OriginalCommon as common
use Rattle.original.specs.OriginalCommon.{set_for}
use Rattle.original.specs.Bus.{BusOutcome, begun, Err, ◌leaving◌, copied}
use Rattle.original.specs.Fed.{Lending, Lends, answered, reads}
use Rattle.original.specs.OriginalInterface as rust
use Rattle.original.specs.OriginalR5 as rust-r5
use Rattle.original.proofs.ReadTurns.{head_at, started, no_transfer}
use Rattle.original.proofs.PlainRead as plain-read
use Rattle.original.proofs.MacRead as mac_read_lem
use Rattle.original.proofs.OnlyHead as only_head
use Rattle.original.proofs.FlashRead as flash-read
use Rattle.original.proofs.Laws.{measure, fixed_pair_lem}
use Rattle.original.proofs.Range.{range_window}

-- the bytes of a figure, low byte first, taken either way round
figure_bytes : (low high : ℕ) → figure_of low high ≡ rust-r5.i16_from_le_bytes low high
unfolding figure_of rust-r5.i16_from_le_bytes
figure_bytes low high = let e : high * 256 + low ≡ low + 256 * high = omega arith in rw e

pub override_figures_lem : (buffer : List ℕ) → override_of buffer ≡ rust-r5.override_figures buffer
unfolding override_of rust-r5.override_figures
override_figures_lem buffer = simp figure_bytes

mac_head : (command : MacCommand) → mac_bytes (fixed_pair command) [] ≡ 0x44 ∷ 2 ∷ fixed_pair command
unfolding mac_bytes
mac_head mac.SecurityKeys = refl
mac_head mac.AuthenticationKey = refl
mac_head mac.ChargingVoltageOverride = refl
mac_head mac.MfgInfoC = refl

-- read_dataflash is one loop or the other
pub read_dataflash_by : (config : common.Config) (outcomes : List BusOutcome) (start : ℕ) (buffer : List ℕ) (pec : Bool) → config.pec_read ≡ pec
    → (when rust.check_df_range start (length buffer) then flash-read.loop start config.pec_read config.max_bus_retries buffer 0 true begun outcomes else Err answer.DataFlashAddressOutOfRange begun outcomes leaving buffer)
    ≡ rust-r5.read_dataflash config start buffer begun outcomes
unfolding flash-read.loop when◌then◌else◌ rust.mac_read_from_df_with_retries rust.mac_read_from_df_with_retries_pec rust-r5.read_dataflash
read_dataflash_by config outcomes start buffer true p = rw p
read_dataflash_by config outcomes start buffer false p = rw p

module _ (config : Config) (few : config.max_write_retries ≤ 65535) (small : config.max_read_retries ≤ 65535) (w : ℕ) (roomy : 39 ≤ w) (lent : ℕ → Lending) (steady : Lends w lent) (outcomes : List BusOutcome) where
  -- what the Rust is set to
  abbrev set : common.Config
  set = set_for side.Read config

  -- a plain read that is admitted, into bytes of its own that are copied
  plain : (l : Limit) (command : ℕ) (buffer inner : List ℕ) (pec : Bool) → measured l 0 (length buffer) ≡ phase.Waiting → length buffer ≤ length inner → (when pec then length inner + 1 else length inner) ≤ 18446744073709551615
      → reads (reading.plain_plan config l (plain_ask command (length inner) pec)) buffer w lent outcomes ≡ copied buffer (rust.read_with_retries set command inner pec begun outcomes)
  unfolding reading.plain_plan parts.has_head parts.first_address rust.read_with_retries nothing
  plain l command buffer inner pec m h few =
      started (reading.plain_plan config l (plain_ask command (length inner) pec)) (length buffer) w lent buffer outcomes (measure l 0 (length buffer) w roomy ∙ m)
      ∙ plain-read.same config l command buffer inner w lent steady h pec few outcomes config.max_read_retries nothing [] (omega arith)

  -- and one into the caller's own
  plain_own : (l : Limit) (command : ℕ) (buffer : List ℕ) (pec : Bool) → measured l 0 (length buffer) ≡ phase.Waiting → (when pec then length buffer + 1 else length buffer) ≤ 18446744073709551615
      → reads (reading.plain_plan config l (plain_ask command (length buffer) pec)) buffer w lent outcomes ≡ rust.read_with_retries set command buffer pec begun outcomes
  unfolding rust.read_with_retries
  plain_own l command buffer pec m few =
      plain l command buffer buffer pec m (omega arith) few ∙ plain-read.own command buffer pec outcomes config.max_read_retries begun

  -- a length that is small
  counts : (pec : Bool) (n : ℕ) → n ≤ 33 → (when pec then n + 1 else n) ≤ 18446744073709551615
  unfolding when◌then◌else◌
  counts true n h = omega arith
  counts false n h = omega arith

  read_register_by : (address : ℕ) (buffer : List ℕ) (t : Bool) → ltb 32 (length buffer) ≡ t → reads (machine.read_register config address (length buffer)) buffer w lent outcomes ≡ rust.read_register set address buffer begun outcomes
  unfolding machine.read_register reading.plain_plan parts.first_address measured admitted answered when◌then◌else◌ rust.read_register
  read_register_by address buffer true t =
      no_transfer (machine.read_register config address (length buffer)) (length buffer) w lent buffer answer.DataTooLarge outcomes (rw (le-ltb w 39 roomy, t)) ∙ rw t
  read_register_by address buffer false t =
      plain_own (limit.AtMost 32) address buffer config.pec_read (rw t) (counts config.pec_read (length buffer) (omega (arith, ltb-false 32 (length buffer) t))) ∙ rw t

  pub read_register_lem : (address : ℕ) (buffer : List ℕ) → reads (machine.read_register config address (length buffer)) buffer w lent outcomes ≡ rust.read_register set address buffer begun outcomes
  read_register_lem address buffer = read_register_by address buffer (ltb 32 (length buffer)) refl

  pub buffer_read_lem : (address : ℕ) (buffer : List ℕ) → length buffer ≤ 18446744073709551615 → reads (machine.read_buffer config address (length buffer)) buffer w lent outcomes ≡ rust.buffer_read set address buffer begun outcomes
  unfolding machine.read_buffer rust.buffer_read measured when◌then◌else◌
  buffer_read_lem address buffer h = plain_own limit.Free address buffer false refl h

  read_mfg_info_by : (buffer : List ℕ) (t : Bool) → ltb 33 (length buffer) ≡ t → (pec : Bool) → config.pec_read ≡ pec → reads (machine-r5.read_mfg_info config (length buffer)) buffer w lent outcomes ≡ rust-r5.read_mfg_info set buffer begun outcomes
  unfolding machine-r5.read_mfg_info machine-r5.whole_ask reading.plain_plan parts.first_address measured admitted answered when◌then◌else◌ rust.read_with_retries rust-r5.read_mfg_info
  read_mfg_info_by buffer true t pec p =
      no_transfer (machine-r5.read_mfg_info config (length buffer)) (length buffer) w lent buffer answer.DataTooLarge outcomes (rw (le-ltb w 39 roomy, t)) ∙ rw t
  read_mfg_info_by buffer false t true p =
      rw (p, t) (rw p at (plain (limit.AtMost 33) 0x70 buffer (replicate 33 0) true (rw t) (ltb-false 33 (length buffer) t) (counts true 33 (omega arith))))
  read_mfg_info_by buffer false t false p =
      rw (p, t) (rw p at (plain_own (limit.AtMost 33) 0x70 buffer false (rw t) (counts false (length buffer) (ltb-false 33 (length buffer) t))))

  pub read_mfg_info_lem : (buffer : List ℕ) → reads (machine-r5.read_mfg_info config (length buffer)) buffer w lent outcomes ≡ rust-r5.read_mfg_info set buffer begun outcomes
  read_mfg_info_lem buffer = read_mfg_info_by buffer (ltb 33 (length buffer)) refl config.pec_read refl

  -- a MAC read that is admitted, into bytes of its own that are copied
  behind : (l : Limit) (command : MacCommand) (buffer inner : List ℕ) → measured l 0 (length buffer) ≡ phase.Waiting → length buffer ≤ length inner → length inner ≤ 32
      → reads (reading.mac_plan config l command (length inner)) buffer w lent outcomes ≡ copied buffer (rust.mac_read_with_retries set (0x44 ∷ 2 ∷ fixed_pair command) inner begun outcomes)
  unfolding reading.mac_plan parts.has_head parts.first_address parts.head_bytes rust.mac_read_with_retries nothing
  behind l command buffer inner m h least =
      started (reading.mac_plan config l command (length inner)) (length buffer) w lent buffer outcomes (measure l 0 (length buffer) w roomy ∙ m)
      ∙ mac_read_lem.at_frame config.max_read_retries config.growing_waits l (head.Mac command) 0x44 (0x44 ∷ 2 ∷ fixed_pair command) buffer inner w lent steady refl (mac_head command) refl (omega (arith, fixed_pair_lem command)) h least
      outcomes config.pec_read config.max_read_retries nothing [] (omega arith)

  -- and one into the caller's own
  behind_own : (l : Limit) (command : MacCommand) (buffer : List ℕ) → measured l 0 (length buffer) ≡ phase.Waiting → length buffer ≤ 32
      → reads (reading.mac_plan config l command (length buffer)) buffer w lent outcomes ≡ rust.mac_read_with_retries set (0x44 ∷ 2 ∷ fixed_pair command) buffer begun outcomes
  unfolding rust.mac_read_with_retries
  behind_own l command buffer m least =
      behind l command buffer buffer m (omega arith) least ∙ mac_read_lem.own (0x44 ∷ 2 ∷ fixed_pair command) buffer config.pec_read outcomes config.max_read_retries begun

  -- a key of exactly so many bytes
  keyed : (command : MacCommand) (size : ℕ) (buffer : List ℕ) → length buffer ≡ size → size ≤ 32
      → reads (machine-r5.mac_read config command size) buffer w lent outcomes ≡ rust.mac_read_with_retries set (0x44 ∷ 2 ∷ fixed_pair command) buffer begun outcomes
  unfolding machine-r5.mac_read measured when◌then◌else◌
  keyed command size buffer e h =
      let m : measured (limit.Exactly size) 0 (length buffer) ≡ phase.Waiting = rw (eq-eqb (length buffer) size e) in
      ap (λ (k : ℕ). reads (reading.mac_plan config (limit.Exactly size) command k) buffer w lent outcomes) (sym e) ∙ behind_own (limit.Exactly size) command buffer m (omega arith)

  pub read_security_keys_lem : (buffer : List ℕ) → length buffer ≡ 28 → reads (machine-r5.read_security_keys config) buffer w lent outcomes ≡ rust-r5.read_security_keys set buffer begun outcomes
  unfolding rust-r5.read_security_keys
  read_security_keys_lem buffer e = keyed mac.SecurityKeys 28 buffer e (omega arith)

  pub read_authentication_key_lem : (buffer : List ℕ) → length buffer ≡ 16 → reads (machine-r5.read_authentication_key config) buffer w lent outcomes ≡ rust-r5.read_authentication_key set buffer begun outcomes
  unfolding rust-r5.read_authentication_key
  read_authentication_key_lem buffer e = keyed mac.AuthenticationKey 16 buffer e (omega arith)

  pub read_charging_voltage_override_lem : (buffer : List ℕ) → length buffer ≡ 10
      → reads (machine-r5.read_charging_voltage_override config) buffer w lent outcomes ≡ rust-r5.read_charging_voltage_override set buffer begun outcomes
  unfolding rust-r5.read_charging_voltage_override
  read_charging_voltage_override_lem buffer e = keyed mac.ChargingVoltageOverride 10 buffer e (omega arith)

  read_mfg_info_c_by : (buffer : List ℕ) (t : Bool) → ltb 32 (length buffer) ≡ t → (pec : Bool) → config.pec_read ≡ pec → reads (machine-r5.read_mfg_info_c config (length buffer)) buffer w lent outcomes ≡ rust-r5.read_mfg_info_c set buffer begun outcomes
  unfolding machine-r5.read_mfg_info_c machine-r5.whole_ask reading.mac_plan parts.first_address measured admitted answered when◌then◌else◌ rust-r5.read_mfg_info_c
  read_mfg_info_c_by buffer true t pec p =
      no_transfer (machine-r5.read_mfg_info_c config (length buffer)) (length buffer) w lent buffer answer.DataTooLarge outcomes (rw (le-ltb w 39 roomy, t)) ∙ rw t
  read_mfg_info_c_by buffer false t true p =
      let e : machine-r5.whole_ask config.pec_read 32 (length buffer) ≡ 32 = rw p in
      ap (λ (k : ℕ). reads (reading.mac_plan config (limit.AtMost 32) mac.MfgInfoC k) buffer w lent outcomes) e
      ∙ behind (limit.AtMost 32) mac.MfgInfoC buffer (replicate 32 0) (rw t) (ltb-false 32 (length buffer) t) (omega arith)
      ∙ rw (t, p)
  read_mfg_info_c_by buffer false t false p =
      let e : machine-r5.whole_ask config.pec_read 32 (length buffer) ≡ length buffer = rw p in
      ap (λ (k : ℕ). reads (reading.mac_plan config (limit.AtMost 32) mac.MfgInfoC k) buffer w lent outcomes) e
      ∙ behind_own (limit.AtMost 32) mac.MfgInfoC buffer (rw t) (ltb-false 32 (length buffer) t)
      ∙ rw (t, p)

  pub read_mfg_info_c_lem : (buffer : List ℕ) → reads (machine-r5.read_mfg_info_c config (length buffer)) buffer w lent outcomes ≡ rust-r5.read_mfg_info_c set buffer begun outcomes
  read_mfg_info_c_lem buffer = read_mfg_info_c_by buffer (ltb 32 (length buffer)) refl config.pec_read refl

  -- data flash, without and with PEC
  dataflash_by : (start : ℕ) (buffer : List ℕ) (t : Bool) → in_window start (length buffer) ≡ t → (n : Bool) → eqb (length buffer) 0 ≡ n
      → reads (machine-r5.read_dataflash config start) buffer w lent outcomes
      ≡ (when rust.check_df_range start (length buffer) then flash-read.loop start config.pec_read config.max_read_retries buffer 0 true begun outcomes else Err answer.DataFlashAddressOutOfRange begun outcomes leaving buffer)
  unfolding machine-r5.read_dataflash parts.has_head parts.first_address measured admitted windowed answered when◌then◌else◌ nothing
  dataflash_by start buffer false t n e =
      no_transfer (machine-r5.read_dataflash config start) (length buffer) w lent buffer answer.DataFlashAddressOutOfRange outcomes (rw (le-ltb w 39 roomy, t)) ∙ rw (range_window, t)
  dataflash_by start buffer true t true e =
      no_transfer (machine-r5.read_dataflash config start) (length buffer) w lent buffer answer.Done outcomes (rw (le-ltb w 39 roomy, t, e))
      ∙ rw (range_window, t) (sym (flash-read.loop_done start config.pec_read config.max_read_retries buffer 0 true begun outcomes (omega (arith, eqb-true (length buffer) 0 e))))
  dataflash_by start buffer true t false e =
      let some : 0 < length buffer = omega (arith, eqb-false (length buffer) 0 e) in
      let far : (0x4000 ≤ start) × (start + length buffer ≤ 0x6000) = within start (length buffer) t some in
      started (machine-r5.read_dataflash config start) (length buffer) w lent buffer outcomes (rw (le-ltb w 39 roomy, t, e))
      ∙ flash-read.same start config.max_read_retries config.growing_waits limit.Window (length buffer) w lent steady roomy far.0 far.1 outcomes config.pec_read true 0 config.max_read_retries nothing buffer [] refl some (omega arith)
      ∙ rw (range_window, t)

  pub read_dataflash_lem : (start : ℕ) (buffer : List ℕ) → reads (machine-r5.read_dataflash config start) buffer w lent outcomes ≡ rust-r5.read_dataflash set start buffer begun outcomes
  read_dataflash_lem start buffer = dataflash_by start buffer (in_window start (length buffer)) refl (eqb (length buffer) 0) refl ∙ read_dataflash_by set outcomes start buffer config.pec_read refl

  -- a command is a write where it has no output
  abbrev by_output : (none : Bool) → common.Config
  by_output true = set_for side.Write config
  by_output false = set

  -- one that is admitted: a write, or a read behind its frame
  dispatched : (address : ℕ) (input output : List ℕ) → measured (limit.Command (length input)) 0 (length output) ≡ phase.Waiting → length output ≤ 32 → (n : Bool) → eqb (length output) 0 ≡ n
      → reads (machine.dispatch_command config address (length input) (length output)) output w lent outcomes
      ≡ (when eqb (length output) 0 then rust.mac_write_with_retries (by_output n) (address / 65536 % 256 ∷ 2 ∷ address / 256 % 256 ∷ address % 256 ∷ []) begun outcomes leaving output
      else rust.mac_read_with_retries (by_output n) (address / 65536 % 256 ∷ 2 ∷ address / 256 % 256 ∷ address % 256 ∷ []) output begun outcomes)
  unfolding machine.dispatch_command machine.command_reads parts.has_head parts.first_address parts.head_bytes command_bytes head_at sealed when◌then◌else◌ rust.with_pec rust.write_with_retries rust.mac_write_with_retries rust.mac_read_with_retries nothing
  dispatched address input output m h true n =
      rw n (started (reading.plan_of config (limit.Command (length input)) (head.Command address) Reads-of.Nothing) (length output) w lent output outcomes (measure (limit.Command (length input)) 0 (length output) w roomy ∙ m)
      ∙ only_head.same (reading.plan_of config (limit.Command (length input)) (head.Command address) Reads-of.Nothing) output w lent steady refl refl (omega arith) outcomes config.max_write_retries nothing [] (omega arith))
  dispatched address input output m h false n =
      rw n (started (reading.plan_of config (limit.Command (length input)) (head.Command address) (Reads-of.Once (mac_ask (address / 65536 % 256) (length output) config.pec_read))) (length output) w lent output outcomes (measure (limit.Command (length input)) 0 (length output) w roomy ∙ m)
      ∙ mac_read_lem.at_frame config.max_read_retries config.growing_waits (limit.Command (length input)) (head.Command address) (address / 65536 % 256) (command_bytes address) output output w lent steady refl refl refl (omega arith) (omega arith) h
      outcomes config.pec_read config.max_read_retries nothing [] (omega arith)
      ∙ mac_read_lem.own (command_bytes address) output config.pec_read outcomes config.max_read_retries begun)

  dispatch_by : (address : ℕ) (input output : List ℕ) → rust.dispatch_panics input output ≡ false → (n : Bool) → eqb (length output) 0 ≡ n
      → reads (machine.dispatch_command config address (length input) (length output)) output w lent outcomes ≡ rust.dispatch_command (by_output n) address input output begun outcomes
  unfolding machine.dispatch_command parts.first_address measured admitted commanded answered when◌then◌else◌ rust.dispatch_command
  dispatch_by address input output safe n e = by (ltb 32 (length input)) refl (ltb 32 (length output)) refl (eqb (length input) 0) refl
    where
      by : (a : Bool) → ltb 32 (length input) ≡ a → (b : Bool) → ltb 32 (length output) ≡ b → (z : Bool) → eqb (length input) 0 ≡ z
          → reads (machine.dispatch_command config address (length input) (length output)) output w lent outcomes ≡ rust.dispatch_command (by_output n) address input output begun outcomes
      by true a b' b z' z =
          no_transfer (machine.dispatch_command config address (length input) (length output)) (length output) w lent output answer.DataTooLarge outcomes (rw (le-ltb w 39 roomy, a)) ∙ rw a
      by false a true b z' z =
          no_transfer (machine.dispatch_command config address (length input) (length output)) (length output) w lent output answer.DataTooLarge outcomes (rw (le-ltb w 39 roomy, a, b)) ∙ rw (a, b)
      by false a false b true z = dispatched address input output (rw (a, b, z)) (ltb-false 32 (length output) b) n e ∙ rw (a, b)
      by false a false b false z = let clash : ◌≡◌ {A = Bool} true false = rw (a, b, z) at safe in cc

  pub dispatch_command_lem : (address : ℕ) (input output : List ℕ) → rust.dispatch_panics input output ≡ false → 0 < length output
      → reads (machine.dispatch_command config address (length input) (length output)) output w lent outcomes ≡ rust.dispatch_command set address input output begun outcomes
  dispatch_command_lem address input output safe some = dispatch_by address input output safe false (ne_eqb (length output) 0 (λ e. omega arith))

  pub dispatch_command_alone : (address : ℕ) (input : List ℕ) → rust.dispatch_panics input [] ≡ false
      → reads (machine.dispatch_command config address (length input) 0) [] w lent outcomes ≡ rust.dispatch_command (set_for side.Write config) address input [] begun outcomes
  dispatch_command_alone address input safe = dispatch_by address input [] safe true refl

  pub dispatch_command_refused : (address : ℕ) (input output : List ℕ) → rust.dispatch_panics input output ≡ true
      → reads (machine.dispatch_command config address (length input) (length output)) output w lent outcomes ≡ Err answer.NotACommand begun outcomes leaving output
  unfolding machine.dispatch_command parts.first_address measured admitted commanded answered when◌then◌else◌
  dispatch_command_refused address input output panics = by (ltb 32 (length input)) refl (ltb 32 (length output)) refl (eqb (length input) 0) refl
    where
      by : (a : Bool) → ltb 32 (length input) ≡ a → (b : Bool) → ltb 32 (length output) ≡ b → (z : Bool) → eqb (length input) 0 ≡ z
          → reads (machine.dispatch_command config address (length input) (length output)) output w lent outcomes ≡ Err answer.NotACommand begun outcomes leaving output
      by a' a b' b true z = let clash : ◌≡◌ {A = Bool} false true = rw z at panics in cc
      by true a b' b false z = let clash : ◌≡◌ {A = Bool} false true = rw (z, a) at panics in cc
      by false a true b false z = let clash : ◌≡◌ {A = Bool} false true = rw (z, a, b) at panics in cc
      by false a false b false z =
          no_transfer (machine.dispatch_command config address (length input) (length output)) (length output) w lent output answer.NotACommand outcomes (rw (le-ltb w 39 roomy, a, b, z))
