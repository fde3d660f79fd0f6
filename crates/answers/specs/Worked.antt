-- Worked runs that reach each answer from 0 to 10, computed from the calls' own definitions.
-- Assumes nothing.
use Rattle.std.specs.Prelude.{ℕ, ◌≡◌, refl, true, false, List, [], ◌∷◌, map}
use Rattle.smbus_pec.specs.Pec.{bit_step, bit_steps, byte_step, pec_of}
use Rattle.protocol.specs.Pick.{when◌then◌else◌}
use Rattle.protocol.specs.Answer.{number_of, detail_of}
use Rattle.protocol.specs.Window.{in_window}
use Rattle.protocol.specs.Reply as reply
use Rattle.protocol.specs.declared.common.Config.{Config}
use Rattle.engine.specs.Pick.{case◌waiting◌ended◌, case◌acknowledged◌error◌timeout◌, case◌retry◌spent◌}
use Rattle.engine.specs.Budget.{failed, nothing, waited, tallied}
use Rattle.engine.specs.Bus.{phase_after, fits_of}
use Rattle.engine.specs.Limit.{windowed, commanded, measured, admitted}
use Rattle.engine.specs.declared.bus.Outcome.{Outcome}
use Rattle.engine.specs.declared.bus.Outcome.TheVariants as outcome
use Rattle.engine.specs.declared.bus.Phase.{Phase}
use Rattle.engine.specs.declared.bus.Phase.TheVariants as phase
use Rattle.writing.specs.Frames as frames
use Rattle.writing.specs.Writing as writing
use Rattle.writing.specs.declared.call.WriteCall.{WriteCall}
use Rattle.reading.specs.Pick.{case◌refused◌fault◌headed◌block◌}
use Rattle.reading.specs.Parts as parts
use Rattle.reading.specs.Reading as reading
use Rattle.reading.specs.declared.call.ReadCall.{ReadCall}
use Rattle.interface.specs.Plans.{write_register, read_register, dispatch_command}
use Rattle.r5.specs.Plans.{read_dataflash, write_dataflash}
use Rattle.answers.specs.Rows.{said_w, said_r}
use Rattle.answers.specs.Runs.{call_w, call_r}

-- no retries, PEC on reads alone
abbrev config : Config
config = record { max_write_retries = 0; max_read_retries = 0; pec_write = false; pec_read = true; growing_waits = false }

-- an outcome and the length of its reply, reported with the lengths of the start: what is said last
abbrev told_w : WriteCall → List (Outcome × ℕ) → Phase
told_w call [] = call.phase
told_w call ((o, r) ∷ []) = said_w (writing.report_of call o r call.task.lent.length call.task.lent.work)
told_w call ((o, r) ∷ (e ∷ es)) = told_w (call_w (writing.report_of call o r call.task.lent.length call.task.lent.work)) (e ∷ es)

abbrev told_r : ReadCall → List (Outcome × List ℕ) → Phase
told_r call [] = call.phase
told_r call ((o, s) ∷ []) = said_r (reading.report_of call o s call.task.lent.length call.task.lent.work)
told_r call ((o, s) ∷ (e ∷ es)) = told_r (call_r (reading.report_of call o s call.task.lent.length call.task.lent.work)) (e ∷ es)

-- the number and the detail of what was said
abbrev figures : Phase → List ℕ
figures phase.Waiting = []
figures (phase.Ended a) = number_of a ∷ detail_of a ∷ []

-- one byte to a register; 33 bytes to data flash
abbrev one : WriteCall
one = writing.start_of (write_register config 0x44) 1 39

abbrev two_blocks : WriteCall
two_blocks = writing.start_of (write_dataflash config 0x4000) 33 39

-- one byte of a register
abbrev read_one : ReadCall
read_one = reading.start_of (read_register config 0x44 1) 1 39

abbrev pub runs : List Phase
runs =
    told_w one ((outcome.Acknowledged, 0) ∷ [])
    ∷ told_w one ((outcome.BusError 5, 0) ∷ [])
    ∷ told_w one ((outcome.Timeout, 0) ∷ [])
    ∷ told_r read_one ((outcome.Acknowledged, 1 ∷ 2 ∷ []) ∷ [])
    ∷ told_w (writing.start_of (write_register config 0x44) 33 39) []
    ∷ told_r (reading.start_of (read_dataflash config 0x3FFF) 1 39) []
    ∷ told_w two_blocks ((outcome.Acknowledged, 0) ∷ (outcome.Timeout, 0) ∷ [])
    ∷ told_r (reading.start_of (dispatch_command config 0x443500 1 0) 0 39) []
    ∷ told_w (writing.start_of (write_register config 0x44) 1 38) []
    ∷ told_r read_one ((outcome.Acknowledged, 1 ∷ []) ∷ [])
    ∷ told_w one ((outcome.Acknowledged, 0) ∷ (outcome.Acknowledged, 0) ∷ [])
    ∷ []

-- 0 to 10, with the bus error's code and the 32 bytes committed
pub runs_reach : map figures runs
    ≡ (0 ∷ 0 ∷ []) ∷ (1 ∷ 5 ∷ []) ∷ (2 ∷ 0 ∷ []) ∷ (3 ∷ 0 ∷ []) ∷ (4 ∷ 0 ∷ []) ∷ (5 ∷ 0 ∷ []) ∷ (6 ∷ 32 ∷ []) ∷ (7 ∷ 0 ∷ []) ∷ (8 ∷ 0 ∷ []) ∷ (9 ∷ 0 ∷ []) ∷ (10 ∷ 0 ∷ []) ∷ []
unfolding bit_step bit_steps byte_step pec_of when◌then◌else◌ in_window case◌waiting◌ended◌ case◌acknowledged◌error◌timeout◌ case◌retry◌spent◌ failed nothing waited tallied phase_after fits_of windowed commanded measured admitted
    frames.is_flash frames.first_address frames.frame_count writing.plan_of writing.start_of writing.advance_of writing.gave_up writing.retry_of writing.end_of writing.fail_of writing.settle_of writing.replied_of writing.counted_of writing.report_of
    case◌refused◌fault◌headed◌block◌ parts.has_head parts.first_address parts.read_count parts.ask_of parts.block_ask reading.plain_plan reading.start_of reading.due_ask reading.headed_of reading.advance_of reading.retry_of reading.end_of reading.fail_of reading.heard_head reading.verdict_of reading.heard_block reading.acknowledged_of reading.weigh_of reading.judge_of reading.counted_of reading.report_of
    reply.plain_ask reply.mac_ask reply.lead_of reply.around_of reply.bytes_asked reply.checked_of reply.heard_of write_register read_register dispatch_command read_dataflash write_dataflash
runs_reach = refl
