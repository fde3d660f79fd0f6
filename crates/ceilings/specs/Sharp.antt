-- The ceilings are sharp: for each a run that reaches it exactly, with two blocks and one retry on the call's side and none on the other, computed from the calls' own
-- definitions.
-- Assumes nothing.
use Rattle.std.specs.Prelude.{ℕ, ◌≡◌, refl, false, List, [], ◌∷◌, map, replicate}
use Rattle.std.proofs.Common.{arith}
use Rattle.protocol.specs.Pick.{when◌then◌else◌}
use Rattle.protocol.specs.Window.{in_window}
use Rattle.protocol.specs.Reply as reply
use Rattle.protocol.specs.declared.common.Config.{Config}
use Rattle.engine.specs.Pick.{case◌waiting◌ended◌, case◌acknowledged◌error◌timeout◌, case◌retry◌spent◌}
use Rattle.engine.specs.Budget.{wait_of, failed, nothing, waited, tallied}
use Rattle.engine.specs.Bus.{phase_after, fits_of}
use Rattle.engine.specs.Limit.{windowed, commanded, measured, admitted}
use Rattle.engine.specs.declared.bus.Outcome.{Outcome}
use Rattle.engine.specs.declared.bus.Outcome.TheVariants as outcome
use Rattle.engine.specs.declared.bus.Phase.{Phase}
use Rattle.engine.specs.declared.bus.Phase.TheVariants as phase
use Rattle.writing.specs.Frames as frames
use Rattle.writing.specs.Writing as writing
use Rattle.reading.specs.Pick.{case◌refused◌fault◌headed◌block◌}
use Rattle.reading.specs.Parts as parts
use Rattle.reading.specs.Reading as reading
use Rattle.interface.specs.Plans.{plain_limit, write_with_retries, write_register, read_register, command_reads, dispatch_command, read_buffer, write_buffer}
use Rattle.r5.specs.Plans.{mac_read, mac_write, whole_ask, send_access_key, write_mfg_info_c, read_mfg_info_c, write_mfg_info, read_mfg_info, read_dataflash, write_dataflash}
use Rattle.calls.specs.Kind.{plan_of}
use Rattle.calls.specs.Call.{start_with, start_of, wrote_of, got_of, report_of, phase_of, tally_of}
use Rattle.calls.specs.declared.call.Call.{Call}
use Rattle.calls.specs.declared.kind.Kind.{Kind}
use Rattle.calls.specs.declared.kind.Kind.TheVariants as kind
use Rattle.ceilings.specs.Reports.{Report, feed, accepted}
use Rattle.ceilings.specs.Ceilings.{CeilingOf, write_with_retries_lem, write_register_lem, write_buffer_lem, write_security_keys_lem, write_authentication_key_lem, write_charging_voltage_override_lem, write_mfg_info_lem, send_access_key_lem, unseal_fg_lem, write_mfg_info_c_lem, write_dataflash_lem, nothing_written, read_register_lem, read_buffer_lem, read_mfg_info_lem, read_security_keys_lem, read_authentication_key_lem, read_charging_voltage_override_lem, read_mfg_info_c_lem, command_read, command_alone, read_dataflash_lem, nothing_read}

-- so many retries for what writes and for what reads, no PEC, waits of one length
abbrev retrying : (writes reads : ℕ) → Config
retrying writes reads = record { max_write_retries = writes; max_read_retries = reads; pec_write = false; pec_read = false; growing_waits = false }

-- a call with a payload of p bytes and a buffer of n; its ceiling, of transfers and of waits; the outcomes that it is told, each with its reply. It writes, or it reads
pub data Run : Type 0 where
  wrote : (kind : Kind) (p n most waits : ℕ) → CeilingOf 1 p n kind most waits → List (Outcome × List ℕ) → Run
  got : (kind : Kind) (p n most waits : ℕ) → CeilingOf 1 p n kind most waits → List (Outcome × List ℕ) → Run

-- each is reported with the lengths of the start
abbrev pub reports_of : (p n : ℕ) → List (Outcome × List ℕ) → List Report
reports_of p n [] = []
reports_of p n ((o, bytes) ∷ rest) = record { outcome = o; reply = bytes; payload = p; buffer = n; work = 39 } ∷ reports_of p n rest

abbrev ended_of : Phase → ℕ
ended_of phase.Waiting = 0
ended_of (phase.Ended a) = 1

-- what a call counts and where it stands: the outcomes accepted, the transfers and the waits counted, 1 where it has ended
abbrev counts_of : Call → List Report → List ℕ
counts_of call es = accepted call es ∷ (tally_of (feed call es)).transfers ∷ (tally_of (feed call es)).waits ∷ ended_of (phase_of (feed call es)) ∷ []

abbrev run : Config → Kind → (p n : ℕ) → List (Outcome × List ℕ) → List ℕ
run config kind p n es = counts_of (start_of kind config p n 39) (reports_of p n es)

-- what comes of a run, and what its ceiling says
abbrev pub figures : Run → List ℕ
figures (wrote kind p n most waits ceiling es) = run (retrying 1 0) kind p n es
figures (got kind p n most waits ceiling es) = run (retrying 0 1) kind p n es

abbrev pub bounds : Run → List ℕ
bounds (wrote kind p n most waits ceiling es) = most ∷ most ∷ waits ∷ 1 ∷ []
bounds (got kind p n most waits ceiling es) = most ∷ most ∷ waits ∷ 1 ∷ []

-- a transfer that fails, a frame or a head that is acknowledged, a read that brings so many bytes
abbrev fails : Outcome × List ℕ
fails = (outcome.Timeout, [])

abbrev pub goes : Outcome × List ℕ
goes = (outcome.Acknowledged, [])

abbrev pub brings : ℕ → Outcome × List ℕ
brings n = (outcome.Acknowledged, replicate n 0)

-- each ceiling once
abbrev pub runs : List Run
runs =
    wrote kind.WriteWithRetries 1 0 2 1 write_with_retries_lem (fails ∷ goes ∷ [])
    ∷ wrote (kind.WriteRegister 0x44) 1 0 2 1 (write_register_lem 0x44) (fails ∷ goes ∷ [])
    ∷ wrote (kind.WriteBuffer 0x44) 1 0 2 1 (write_buffer_lem 0x44) (fails ∷ goes ∷ [])
    ∷ wrote kind.WriteSecurityKeys 28 0 2 1 write_security_keys_lem (fails ∷ goes ∷ [])
    ∷ wrote kind.WriteAuthenticationKey 16 0 2 1 write_authentication_key_lem (fails ∷ goes ∷ [])
    ∷ wrote kind.WriteChargingVoltageOverride 10 0 2 1 write_charging_voltage_override_lem (fails ∷ goes ∷ [])
    ∷ wrote kind.WriteMfgInfo 1 0 2 1 write_mfg_info_lem (fails ∷ goes ∷ [])
    ∷ wrote (kind.SendAccessKey 1 2) 0 0 4 2 (send_access_key_lem 1 2) (fails ∷ goes ∷ fails ∷ goes ∷ [])
    ∷ wrote (kind.UnsealFg 1 2) 0 0 4 2 (unseal_fg_lem 1 2) (fails ∷ goes ∷ fails ∷ goes ∷ [])
    ∷ wrote (kind.WriteMfgInfoC 1 2) 1 0 6 3 (write_mfg_info_c_lem 1 2) (fails ∷ goes ∷ fails ∷ goes ∷ fails ∷ goes ∷ [])
    ∷ wrote (kind.WriteDataflash 0x4000) 33 0 4 2 (write_dataflash_lem 0x4000 2 (omega arith) (omega arith, omega arith)) (fails ∷ goes ∷ fails ∷ goes ∷ [])
    ∷ wrote (kind.WriteDataflash 0x4000) 0 0 0 0 (nothing_written 0x4000 refl) (goes ∷ [])
    ∷ got (kind.ReadRegister 0x44) 0 1 2 1 (read_register_lem 0x44) (fails ∷ brings 1 ∷ [])
    ∷ got (kind.ReadBuffer 0x44) 0 1 2 1 (read_buffer_lem 0x44) (fails ∷ brings 1 ∷ [])
    ∷ got kind.ReadMfgInfo 0 1 2 1 read_mfg_info_lem (fails ∷ brings 1 ∷ [])
    ∷ got kind.ReadSecurityKeys 0 28 4 1 read_security_keys_lem (goes ∷ fails ∷ goes ∷ brings 31 ∷ [])
    ∷ got kind.ReadAuthenticationKey 0 16 4 1 read_authentication_key_lem (goes ∷ fails ∷ goes ∷ brings 19 ∷ [])
    ∷ got kind.ReadChargingVoltageOverride 0 10 4 1 read_charging_voltage_override_lem (goes ∷ fails ∷ goes ∷ brings 13 ∷ [])
    ∷ got kind.ReadMfgInfoC 0 1 4 1 read_mfg_info_c_lem (goes ∷ fails ∷ goes ∷ brings 4 ∷ [])
    ∷ got (kind.DispatchCommand 0x443500) 0 1 4 1 (command_read 0x443500 (omega arith)) (goes ∷ fails ∷ goes ∷ brings 4 ∷ [])
    ∷ wrote (kind.DispatchCommand 0x443500) 0 0 2 1 (command_alone 0x443500 refl) (fails ∷ goes ∷ [])
    ∷ got (kind.ReadDataflash 0x4000) 0 33 5 1 (read_dataflash_lem 0x4000 2 (omega arith) (omega arith, omega arith)) (goes ∷ brings 35 ∷ fails ∷ goes ∷ brings 4 ∷ [])
    ∷ got (kind.ReadDataflash 0x4000) 0 0 0 0 (nothing_read 0x4000 refl) (goes ∷ [])
    ∷ []

-- each run accepts and counts as many transfers as its ceiling, and as many waits, and has ended
pub runs_reach : map figures runs ≡ map bounds runs
unfolding feed accepted
    start_with start_of plan_of wrote_of got_of report_of phase_of tally_of
    when◌then◌else◌ in_window case◌waiting◌ended◌ case◌acknowledged◌error◌timeout◌ case◌retry◌spent◌ wait_of failed nothing waited tallied phase_after fits_of windowed commanded measured admitted
    frames.first_address frames.frame_count writing.plan_of writing.start_of writing.advance_of writing.retry_of writing.fail_of writing.settle_of writing.replied_of writing.counted_of writing.report_of
    case◌refused◌fault◌headed◌block◌ parts.has_head parts.first_address parts.read_count parts.ask_of parts.block_ask reading.plain_plan reading.mac_plan reading.start_of reading.due_ask reading.headed_of reading.advance_of reading.retry_of reading.fail_of reading.heard_head reading.verdict_of reading.heard_block reading.acknowledged_of reading.weigh_of reading.judge_of reading.counted_of reading.report_of
    reply.plain_ask reply.mac_ask reply.lead_of reply.around_of reply.bytes_asked reply.heard_of
    plain_limit write_with_retries write_register read_register command_reads dispatch_command read_buffer write_buffer mac_read mac_write whole_ask send_access_key write_mfg_info_c read_mfg_info_c write_mfg_info read_mfg_info read_dataflash write_dataflash
runs_reach = refl
