-- A started call stays within its bounds: for each call by name and any list of reports no counter saturates (of the transfers: `ceilings`; of the milliseconds: `waits`), every frame has room, every
-- block lies in the window and in the buffer, and a call that has not ended well leaves the bytes of the buffer past the whole blocks as they were.
-- Assumes nothing.
use Rattle.std.specs.Prelude.{ℕ, ◌+◌, ◌-◌, ◌*◌, ◌≤◌, ◌<◌, min, ◌≡◌, true, false, List, ◌⊎◌, length, drop}
use Rattle.protocol.specs.Common.{TwoByteBudgets}
use Rattle.protocol.specs.Reply as reply
use Rattle.protocol.specs.declared.common.Config.{Config}
use Rattle.protocol.specs.declared.error.Answer.TheVariants as answer
use Rattle.engine.specs.declared.bus.Phase.TheVariants as phase
use Rattle.engine.specs.declared.bus.Transfer.TheVariants as transfer
use Rattle.engine.specs.declared.limit.Limit.{Limit}
use Rattle.engine.specs.declared.limit.Limit.TheVariants as limit
use Rattle.writing.specs.Frames as frames
use Rattle.writing.specs.Writing as writing
use Rattle.writing.specs.declared.call.WritePlan.{WritePlan}
use Rattle.writing.specs.declared.call.WriteCall.{WriteCall}
use Rattle.reading.specs.Parts as parts
use Rattle.reading.specs.Reading as reading
use Rattle.reading.specs.declared.call.ReadPlan.{ReadPlan}
use Rattle.reading.specs.declared.call.ReadCall.{ReadCall}
use Rattle.interface.specs.Plans.{write_with_retries, write_register, read_register, dispatch_command, read_buffer, write_buffer}
use Rattle.r5.specs.Plans.{read_security_keys, write_security_keys, read_authentication_key, write_authentication_key, read_charging_voltage_override, write_charging_voltage_override, send_access_key, unseal_fg, write_mfg_info_c, read_mfg_info_c, write_mfg_info, read_mfg_info, read_dataflash, write_dataflash}
use Rattle.answers.specs.Runs.{WriteReport, feed_w, TameW, ReadReport, Reader, feed_r, TameR}

-- block i of a data-flash transfer of n bytes from an address on lies in the window
abbrev pub Inside : Limit → ℕ → ℕ → ℕ → Type 0
Inside limit.Free start n i = Unit {0}
Inside (limit.AtMost most) start n i = Unit {0}
Inside (limit.Exactly size) start n i = Unit {0}
Inside limit.Window start n i = (0x4000 ≤ start + i * 32) × (start + i * 32 + (min 32 (n - i * 32) - 1) ≤ 0x5FFF)
Inside (limit.Command input) start n i = Unit {0}

-- ---- the writing calls

pub data WritesBy (config : Config) : WritePlan → Type 0 where
  write_with_retries_lem : WritesBy config (write_with_retries config)
  write_register_lem : (address : ℕ) → WritesBy config (write_register config address)
  write_buffer_lem : (address : ℕ) → WritesBy config (write_buffer config address)
  write_security_keys_lem : WritesBy config (write_security_keys config)
  write_authentication_key_lem : WritesBy config (write_authentication_key config)
  write_charging_voltage_override_lem : WritesBy config (write_charging_voltage_override config)
  send_access_key_lem : (lower upper : ℕ) → WritesBy config (send_access_key config lower upper)
  unseal_fg_lem : (lower upper : ℕ) → WritesBy config (unseal_fg config lower upper)
  write_mfg_info_c_lem : (lower upper : ℕ) → WritesBy config (write_mfg_info_c config lower upper)
  write_mfg_info_lem : WritesBy config (write_mfg_info config)
  write_dataflash_lem : (start : ℕ) → WritesBy config (write_dataflash config start)

-- a call that waits has a frame left, inside the window, and shows it where the lengths of the start are lent
pub record WritesOn (plan : WritePlan) (payload : List ℕ) (w : ℕ) (call : WriteCall) : Type 0 where
  pub due : call.sent < frames.frame_count plan.frames (length payload)
  pub inside : Inside plan.limit (frames.first_address plan.frames) (length payload) call.sent
  pub shows : (n : ℕ) × (writing.next_of call payload w ≡ transfer.Write n)

pub record WritesWithin (plan : WritePlan) (payload : List ℕ) (w : ℕ) (call : WriteCall) : Type 0 where
  pub counters : TameW call
  pub goes_on : call.phase ≡ phase.Waiting → WritesOn plan payload w call

-- ---- the reading calls, with a buffer of n bytes

pub data ReadsBy (config : Config) (n : ℕ) : ReadPlan → Type 0 where
  read_register_lem : (address : ℕ) → ReadsBy config n (read_register config address n)
  read_buffer_lem : (address : ℕ) → ReadsBy config n (read_buffer config address n)
  dispatch_command_lem : (address input : ℕ) → ReadsBy config n (dispatch_command config address input n)
  read_security_keys_lem : ReadsBy config n (read_security_keys config)
  read_authentication_key_lem : ReadsBy config n (read_authentication_key config)
  read_charging_voltage_override_lem : ReadsBy config n (read_charging_voltage_override config)
  read_mfg_info_c_lem : ReadsBy config n (read_mfg_info_c config n)
  read_mfg_info_lem : ReadsBy config n (read_mfg_info config n)
  read_dataflash_lem : (start : ℕ) → ReadsBy config n (read_dataflash config start)

-- a call that waits has a read left, or its head alone where it has none; it shows its head or a read, and the number asked is what is wanted and what stands around it
pub record ReadsOn (plan : ReadPlan) (n w : ℕ) (call : ReadCall) : Type 0 where
  pub due : (call.heading ≡ false) ⊎ (0 < parts.read_count plan.reads n) → call.received < parts.read_count plan.reads n
  pub inside : Inside plan.limit (parts.first_address plan.head) n call.received
  pub shows_head : call.heading ≡ true → (m : ℕ) × (reading.next_of call n w ≡ transfer.Write m)
  pub shows_read : call.heading ≡ false → reading.next_of call n w ≡ transfer.Read (reading.due_ask call).command (reply.bytes_asked (reading.due_ask call))
  -- for every buffer that a machine has: 2^63 - 1 bytes
  pub asks : n ≤ 9223372036854775807 → reply.bytes_asked (reading.due_ask call) ≡ (reading.due_ask call).wanted + reply.around_of (reading.due_ask call)

-- until it has ended well, the buffer past the whole blocks is as it was; with a single read, all of it
pub record ReadsWithin (plan : ReadPlan) (buffer : List ℕ) (w : ℕ) (now : Reader) : Type 0 where
  pub counters : TameR now.call
  pub goes_on : now.call.phase ≡ phase.Waiting → ReadsOn plan (length buffer) w now.call
  pub kept : (now.call.phase ≡ phase.Ended answer.Done → ⊥) → drop (now.call.received * 32) now.buffer ≡ drop (now.call.received * 32) buffer
  pub untouched : parts.read_count plan.reads (length buffer) ≤ 1 → (now.call.phase ≡ phase.Ended answer.Done → ⊥) → now.buffer ≡ buffer

-- ---- for each of them, however it is fed

pub record Within : Type 0 where
  pub writing : (config : Config) → TwoByteBudgets config → (plan : WritePlan) → WritesBy config plan → (payload : List ℕ) (w : ℕ) (es : List WriteReport)
      → WritesWithin plan payload w (feed_w (writing.start_of plan (length payload) w) es)
  pub reading : (config : Config) → TwoByteBudgets config → (buffer : List ℕ) (plan : ReadPlan) → ReadsBy config (length buffer) plan → (w : ℕ) (es : List ReadReport)
      → ReadsWithin plan buffer w (feed_r (record { call = reading.start_of plan (length buffer) w; buffer = buffer }) es)
