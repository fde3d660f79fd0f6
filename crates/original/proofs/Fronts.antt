-- Every reading call leaves what was brought: the original's does, and the machine's is the original's.
-- Assumes nothing.
use Prim.Native.Nat.{ℕ, ◌+◌, ◌/◌, ◌%◌, ◌≤◌, ◌<◌}
use mathlib.Core.Path.{◌≡◌, refl, sym, ◌∙◌}
use mathlib.Core.List.{List, [], ◌∷◌}
use mathlib.Core.Bool.{Bool, true, false, ◌||◌}
use native.Mathlib.Omega.{arith}
use lib.ListN.{length, replicate}
use lib.Dec.{ltb, eqb}
use borrow.Author.Tests.{ltb-false, eqb-true, eqb-false}
use Rattle.protocol.specs.Pick.{when◌then◌else◌}
use Rattle.protocol.specs.Bytes.{over}
use Rattle.protocol.specs.Common.{TwoByteBudgets}
use Rattle.protocol.specs.declared.common.Side.TheVariants as side
use Rattle.protocol.specs.declared.common.Config.{Config}
use Rattle.protocol.specs.declared.error.Answer.{Answer}
use Rattle.protocol.specs.declared.error.Answer.TheVariants as answer
use Rattle.protocol.proofs.WindowLaws.{within}
use Rattle.interface.specs.Plans as machine
use Rattle.original.specs.OriginalCommon as common
use Rattle.original.specs.OriginalCommon.{set_for}
use Rattle.original.specs.Bus.{BusOutcome, begun, Err, Read, ◌leaving◌, copied, transfers_of}
use Rattle.original.specs.Fed.{Lending, Lends, reads}
use Rattle.original.specs.OriginalInterface as rust
use Rattle.original.specs.OriginalR5 as rust-r5
use Rattle.original.specs.Equal.{Equal}
use Rattle.original.specs.Fronts.{Layout, plain, mac, all_brought, buffer_left, Front, Fronts}
use Rattle.original.proofs.PlainRead as plain-read
use Rattle.original.proofs.MacRead as mac_read_lem
use Rattle.original.proofs.FlashRead as flash-read
use Rattle.original.proofs.Range.{range_window}
use Rattle.original.proofs.ReadCalls.{read_dataflash_by}
use Rattle.original.proofs.Brought.{Comes, stopped, in_front, in_blocks}
use Rattle.original.proofs.ReadFronts.{untouched, plain_comes, mac_comes, flash_comes}
use Rattle.original.proofs.Equal.{equal}

-- what equals a call leaves what it leaves
carried : (layout : Layout) (buffer : List ℕ) (outcomes : List BusOutcome) {x y : Read} → x ≡ y → Front layout buffer outcomes y → Front layout buffer outcomes x
carried layout buffer outcomes e f = rw e f

-- a refusal leaves the buffer as it was
refused : (layout : Layout) (buffer : List ℕ) (outcomes : List BusOutcome) (e : Answer) → Front layout buffer outcomes (Err e begun outcomes leaving buffer)
unfolding transfers_of buffer_left all_brought
refused layout buffer outcomes e = untouched buffer

-- so does a call whose buffer is empty
empty : (layout : Layout) (buffer : List ℕ) (outcomes : List BusOutcome) (r : Read) → length buffer ≡ 0 → buffer_left r ≡ buffer → Front layout buffer outcomes r
unfolding over
empty layout buffer outcomes r z e = e ∙ rw z refl

module _ (config : common.Config) (outcomes : List BusOutcome) where
  -- a plain read into bytes of its own that are copied, and into the caller's
  plain_front : (command : ℕ) (buffer inner : List ℕ) (pec : Bool) → length buffer ≤ length inner → Front (plain pec command) buffer outcomes (copied buffer (rust.read_with_retries config command inner pec begun outcomes))
  unfolding rust.read_with_retries
  plain_front command buffer inner pec room = in_front (plain pec command) buffer outcomes _ (plain_comes command buffer inner pec room outcomes config.max_bus_retries begun)

  plain_own : (command : ℕ) (buffer : List ℕ) (pec : Bool) → Front (plain pec command) buffer outcomes (rust.read_with_retries config command buffer pec begun outcomes)
  unfolding rust.read_with_retries
  plain_own command buffer pec =
      carried (plain pec command) buffer outcomes (sym (plain-read.own command buffer pec outcomes config.max_bus_retries begun)) (plain_front command buffer buffer pec (omega arith))

  -- a MAC read alike
  mac_front : (frame buffer inner : List ℕ) → length buffer ≤ length inner → Front (mac config.pec_read) buffer outcomes (copied buffer (rust.mac_read_with_retries config frame inner begun outcomes))
  unfolding rust.mac_read_with_retries
  mac_front frame buffer inner room =
      in_front (mac config.pec_read) buffer outcomes _ (mac_comes frame buffer inner config.pec_read room outcomes config.max_bus_retries begun)

  mac_own : (frame buffer : List ℕ) → Front (mac config.pec_read) buffer outcomes (rust.mac_read_with_retries config frame buffer begun outcomes)
  unfolding rust.mac_read_with_retries
  mac_own frame buffer =
      carried (mac config.pec_read) buffer outcomes (sym (mac_read_lem.own frame buffer config.pec_read outcomes config.max_bus_retries begun)) (mac_front frame buffer buffer (omega arith))

  register_front : (address : ℕ) (buffer : List ℕ) → Front (plain config.pec_read address) buffer outcomes (rust.read_register config address buffer begun outcomes)
  unfolding rust.read_register when◌then◌else◌
  register_front address buffer = by (ltb 32 (length buffer))
    where
      by : (t : Bool) → Front (plain config.pec_read address) buffer outcomes (when t then Err answer.DataTooLarge begun outcomes leaving buffer else rust.read_with_retries config address buffer config.pec_read begun outcomes)
      by true = refused (plain config.pec_read address) buffer outcomes answer.DataTooLarge
      by false = plain_own address buffer config.pec_read

  command_front : (address : ℕ) (input output : List ℕ) → Front (mac config.pec_read) output outcomes (rust.dispatch_command config address input output begun outcomes)
  unfolding rust.dispatch_command when◌then◌else◌ buffer_left
  command_front address input output = by (ltb 32 (length input) || ltb 32 (length output)) (eqb (length output) 0) refl
    where
      frame : List ℕ
      frame = address / 65536 % 256 ∷ 2 ∷ address / 256 % 256 ∷ address % 256 ∷ []

      by : (t z : Bool) → eqb (length output) 0 ≡ z
          → Front (mac config.pec_read) output outcomes (when t then Err answer.DataTooLarge begun outcomes leaving output else
          when z then rust.mac_write_with_retries config frame begun outcomes leaving output else rust.mac_read_with_retries config frame output begun outcomes)
      by true z e = refused (mac config.pec_read) output outcomes answer.DataTooLarge
      by false true e = empty (mac config.pec_read) output outcomes _ (eqb-true (length output) 0 e) refl
      by false false e = mac_own frame output

  info_front : (buffer : List ℕ) → Front (plain config.pec_read 0x70) buffer outcomes (rust-r5.read_mfg_info config buffer begun outcomes)
  unfolding rust-r5.read_mfg_info when◌then◌else◌
  info_front buffer = by (ltb 33 (length buffer)) refl config.pec_read
    where
      by : (t : Bool) → ltb 33 (length buffer) ≡ t → (pec : Bool)
          → Front (plain pec 0x70) buffer outcomes (when t then Err answer.DataTooLarge begun outcomes leaving buffer else
          when pec then copied buffer (rust.read_with_retries config 0x70 (replicate 33 0) true begun outcomes) else rust.read_with_retries config 0x70 buffer false begun outcomes)
      by true t pec = refused (plain pec 0x70) buffer outcomes answer.DataTooLarge
      by false t true = plain_front 0x70 buffer (replicate 33 0) true (ltb-false 33 (length buffer) t)
      by false t false = plain_own 0x70 buffer false

  info_c_front : (buffer : List ℕ) → Front (mac config.pec_read) buffer outcomes (rust-r5.read_mfg_info_c config buffer begun outcomes)
  unfolding rust-r5.read_mfg_info_c when◌then◌else◌
  info_c_front buffer = by (ltb 32 (length buffer)) refl config.pec_read
    where
      frame : List ℕ
      frame = 0x44 ∷ 2 ∷ 0x7B ∷ 0x00 ∷ []

      by : (t : Bool) → ltb 32 (length buffer) ≡ t → (pec : Bool)
          → Front (mac config.pec_read) buffer outcomes (when t then Err answer.DataTooLarge begun outcomes leaving buffer else
          when pec then copied buffer (rust.mac_read_with_retries config frame (replicate 32 0) begun outcomes) else rust.mac_read_with_retries config frame buffer begun outcomes)
      by true t pec = refused (mac config.pec_read) buffer outcomes answer.DataTooLarge
      by false t true = mac_front frame buffer (replicate 32 0) (ltb-false 32 (length buffer) t)
      by false t false = mac_own frame buffer

  -- data flash: refused, empty, or read in blocks
  dataflash_comes : (start : ℕ) (buffer : List ℕ) → Comes (mac config.pec_read) buffer [] [] outcomes (rust-r5.read_dataflash config start buffer begun outcomes)
  unfolding when◌then◌else◌ transfers_of buffer_left over
  dataflash_comes start buffer = rw (← read_dataflash_by config outcomes start buffer config.pec_read refl) (by (rust.check_df_range start (length buffer)) refl (eqb (length buffer) 0) refl)
    where
      by : (t : Bool) → rust.check_df_range start (length buffer) ≡ t → (z : Bool) → eqb (length buffer) 0 ≡ z
          → Comes (mac config.pec_read) buffer [] [] outcomes (when t then flash-read.loop start config.pec_read config.max_bus_retries buffer 0 true begun outcomes else Err answer.DataFlashAddressOutOfRange begun outcomes leaving buffer)
      by false t z e = stopped (mac config.pec_read) buffer [] [] outcomes _ refl (untouched buffer) (λ h. refl)
      by true t true e =
          rw (flash-read.loop_done start config.pec_read config.max_bus_retries buffer 0 true begun outcomes (omega (arith, eqb-true (length buffer) 0 e)))
          (stopped (mac config.pec_read) buffer [] [] outcomes _ refl (untouched buffer) (λ h. refl))
      by true t false e =
          let some : 0 < length buffer = omega (arith, eqb-false (length buffer) 0 e) in
          let far : (0x4000 ≤ start) × (start + length buffer ≤ 0x6000) = within start (length buffer) (sym (range_window start (length buffer)) ∙ t) some in
          flash_comes start config.pec_read buffer far.1 outcomes true config.max_bus_retries [] begun some refl

-- each budget is 0 to 65,535, and every work buffer has the same length, of at least 39 bytes
pub fronts : (config : Config) → TwoByteBudgets config → (w : ℕ) → 39 ≤ w → (lent : ℕ → Lending) → Lends w lent → (outcomes : List BusOutcome) → Fronts config w lent outcomes
unfolding rust.buffer_read rust-r5.read_security_keys rust-r5.read_authentication_key rust-r5.read_charging_voltage_override
fronts config small w roomy lent steady outcomes = record {
  read_register_lem = λ address buffer. carried _ buffer outcomes (same.read_register_lem address buffer) (register_front set outcomes address buffer);
  dispatch_command_lem = λ address input output. dispatched address input output (rust.dispatch_panics input output) refl;
  buffer_read_lem = λ address buffer h. carried _ buffer outcomes (same.buffer_read_lem address buffer h) (plain_own set outcomes address buffer false);
  read_security_keys_lem = λ buffer h. carried _ buffer outcomes (same.read_security_keys_lem buffer h) (mac_own set outcomes _ buffer);
  read_authentication_key_lem = λ buffer h. carried _ buffer outcomes (same.read_authentication_key_lem buffer h) (mac_own set outcomes _ buffer);
  read_mfg_info_c_lem = λ buffer. carried _ buffer outcomes (same.read_mfg_info_c_lem buffer) (info_c_front set outcomes buffer);
  read_mfg_info_lem = λ buffer. carried _ buffer outcomes (same.read_mfg_info_lem buffer) (info_front set outcomes buffer);
  read_charging_voltage_override_lem = λ buffer h. carried _ buffer outcomes (same.read_charging_voltage_override_lem buffer h) (mac_own set outcomes _ buffer);
  read_dataflash_lem = λ start buffer. carried _ buffer outcomes (same.read_dataflash_lem start buffer) (in_front _ buffer outcomes _ (dataflash_comes set outcomes start buffer));
  whole_blocks = λ start buffer. in_blocks _ buffer outcomes _ (rw (same.read_dataflash_lem start buffer) (dataflash_comes set outcomes start buffer));
}
  where
    set : common.Config
    set = set_for side.Read config

    same : Equal config w lent outcomes
    same = equal config small w roomy lent steady outcomes

    dispatched : (address : ℕ) (input output : List ℕ) (t : Bool) → rust.dispatch_panics input output ≡ t
        → Front (mac config.pec_read) output outcomes (reads (machine.dispatch_command config address (length input) (length output)) output w lent outcomes)
    dispatched address input output true t = carried _ output outcomes (same.dispatch_command_refused address input output t) (refused _ output outcomes answer.NotACommand)
    dispatched address input [] false t = carried (mac config.pec_read) [] outcomes (same.dispatch_command_alone address input t) (command_front (set_for side.Write config) outcomes address input [])
    dispatched address input (b ∷ output) false t = carried (mac config.pec_read) (b ∷ output) outcomes (same.dispatch_command_lem address input (b ∷ output) t (omega arith)) (command_front set outcomes address input (b ∷ output))
