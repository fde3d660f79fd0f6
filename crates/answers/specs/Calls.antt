-- What each call asks of its lengths, by name: with `starts`, the refusals of every call at its start. (01, length limits)
-- Assumes nothing.
use Rattle.std.specs.Prelude.{ℕ, ◌≡◌, true, false, ◌↔◌}
use Rattle.protocol.specs.declared.common.Config.{Config}
use Rattle.engine.specs.Limit.{admitted}
use Rattle.engine.specs.declared.limit.Limit.TheVariants as limit
use Rattle.writing.specs.Frames as frames
use Rattle.writing.specs.Writing as writing
use Rattle.writing.specs.declared.call.WritePlan.{WritePlan}
use Rattle.writing.specs.declared.call.WriteCall.{WriteCall}
use Rattle.reading.specs.Parts as parts
use Rattle.reading.specs.Reading as reading
use Rattle.reading.specs.declared.parts.Head.TheVariants as head
use Rattle.reading.specs.declared.call.ReadPlan.{ReadPlan}
use Rattle.reading.specs.declared.call.ReadCall.{ReadCall}
use Rattle.interface.specs.Plans.{write_with_retries, write_register, read_register, dispatch_command, read_buffer, write_buffer}
use Rattle.r5.specs.Plans.{read_security_keys, write_security_keys, read_authentication_key, write_authentication_key, read_charging_voltage_override, write_charging_voltage_override, send_access_key, unseal_fg, write_mfg_info_c, read_mfg_info_c, write_mfg_info, read_mfg_info, read_dataflash, write_dataflash}

pub record BegunW (plan : WritePlan) (n w : ℕ) (call : WriteCall) : Type 0 where
  pub phase : call.phase ≡ admitted plan.limit (frames.first_address plan.frames) n w
  pub task : call.task ≡ record { plan = plan; lent = record { length = n; work = w } }
  pub sent : call.sent ≡ 0
  pub budget : call.budget.left ≡ plan.retries
  pub waits : (call.tally.waits ≡ 0) × (call.tally.waited_ms ≡ 0)
  pub transfers : call.tally.transfers ≡ 0

pub record BegunR (plan : ReadPlan) (n w : ℕ) (call : ReadCall) : Type 0 where
  pub phase : call.phase ≡ admitted plan.limit (parts.first_address plan.head) n w
  pub task : call.task ≡ record { plan = plan; lent = record { length = n; work = w } }
  pub heading : (call.heading ≡ false) ↔ (plan.head ≡ head.Bare)
  pub received : call.received ≡ 0
  pub budget : call.budget.left ≡ plan.retries
  pub waits : (call.tally.waits ≡ 0) × (call.tally.waited_ms ≡ 0)
  pub transfers : call.tally.transfers ≡ 0

-- a call starts as its limit says, for what it was started for, with nothing sent, received or counted; its first frame or its head is due, if it has one
pub record Admitted : Type 0 where
  pub writing : (plan : WritePlan) (n w : ℕ) → BegunW plan n w (writing.start_of plan n w)
  pub reading : (plan : ReadPlan) (n w : ℕ) → BegunR plan n w (reading.start_of plan n w)

-- the limit of each call, by its name, and where a data-flash transfer begins
pub record Limits (config : Config) : Type 0 where
  pub writes_with_pec : config.pec_write ≡ true → (write_with_retries config).limit ≡ limit.AtMost 38
  pub writes_plain : config.pec_write ≡ false → (write_with_retries config).limit ≡ limit.Free
  pub writes_register : (address : ℕ) → (write_register config address).limit ≡ limit.AtMost 32
  pub reads_register : (address n : ℕ) → (read_register config address n).limit ≡ limit.AtMost 32
  pub dispatches : (address input n : ℕ) → (dispatch_command config address input n).limit ≡ limit.Command input
  pub reads_buffer : (address n : ℕ) → (read_buffer config address n).limit ≡ limit.Free
  pub writes_buffer : (address : ℕ) → (write_buffer config address).limit ≡ limit.AtMost 33
  pub reads_security_keys : (read_security_keys config).limit ≡ limit.Exactly 28
  pub writes_security_keys : (write_security_keys config).limit ≡ limit.Exactly 28
  pub reads_authentication_key : (read_authentication_key config).limit ≡ limit.Exactly 16
  pub writes_authentication_key : (write_authentication_key config).limit ≡ limit.Exactly 16
  pub reads_override : (read_charging_voltage_override config).limit ≡ limit.Exactly 10
  pub writes_override : (write_charging_voltage_override config).limit ≡ limit.Exactly 10
  pub sends_key : (lower upper : ℕ) → (send_access_key config lower upper).limit ≡ limit.Exactly 0
  pub unseals : (lower upper : ℕ) → (unseal_fg config lower upper).limit ≡ limit.Exactly 0
  pub writes_info_c : (lower upper : ℕ) → (write_mfg_info_c config lower upper).limit ≡ limit.AtMost 32
  pub reads_info_c : (n : ℕ) → (read_mfg_info_c config n).limit ≡ limit.AtMost 32
  pub writes_info : (write_mfg_info config).limit ≡ limit.AtMost 32
  pub reads_info : (n : ℕ) → (read_mfg_info config n).limit ≡ limit.AtMost 33
  pub reads_flash : (start : ℕ) → ((read_dataflash config start).limit ≡ limit.Window) × (parts.first_address (read_dataflash config start).head ≡ start)
  pub writes_flash : (start : ℕ) → ((write_dataflash config start).limit ≡ limit.Window) × (frames.first_address (write_dataflash config start).frames ≡ start)
