-- Waits that grow, and the budget that they are of, in figures: runs computed from the calls' own definitions. (02, W-203, W-211)
-- Assumes nothing.
use Rattle.std.specs.Prelude.{ℕ, ◌≡◌, refl, Bool, true, false, List, [], ◌∷◌, ◌++◌, map, replicate}
use Rattle.protocol.specs.Pick.{when◌then◌else◌}
use Rattle.protocol.specs.Window.{in_window}
use Rattle.protocol.specs.Reply as reply
use Rattle.protocol.specs.declared.common.Config.{Config}
use Rattle.engine.specs.Pick.{case◌waiting◌ended◌, case◌acknowledged◌error◌timeout◌, case◌retry◌spent◌}
use Rattle.engine.specs.Budget.{wait_of, failed, nothing, waited, tallied}
use Rattle.engine.specs.Bus.{phase_after, fits_of}
use Rattle.engine.specs.Limit.{windowed, commanded, measured, admitted}
use Rattle.engine.specs.declared.bus.Outcome.{Outcome}
use Rattle.engine.specs.declared.bus.Outcome.TheVariants as outcome
use Rattle.writing.specs.Frames as frames
use Rattle.writing.specs.Writing as writing
use Rattle.reading.specs.Pick.{case◌refused◌fault◌headed◌block◌}
use Rattle.reading.specs.Parts as parts
use Rattle.reading.specs.Reading as reading
use Rattle.interface.specs.Plans.{read_register, command_reads, dispatch_command}
use Rattle.r5.specs.Plans.{mac_read, send_access_key, read_dataflash, write_dataflash}
use Rattle.calls.specs.Kind.{plan_of}
use Rattle.calls.specs.Call.{start_with, start_of, wrote_of, got_of, report_of, tally_of}
use Rattle.calls.specs.declared.kind.Kind.{Kind}
use Rattle.calls.specs.declared.kind.Kind.TheVariants as kind
use Rattle.ceilings.specs.Reports.{feed}
use Rattle.ceilings.specs.Sharp.{reports_of, goes, brings}

-- a call with a payload of p bytes and a buffer of n, v retries for what writes and r for what reads, and waits that grow or do not; the outcomes that it is told,
-- each with its reply; its waits and their milliseconds
pub data Run : Type 0 where
  told : (kind : Kind) (p n v r : ℕ) (growing : Bool) → List (Outcome × List ℕ) → (waits ms : ℕ) → Run

abbrev settings : (v r : ℕ) (growing : Bool) → Config
settings v r growing = record { max_write_retries = v; max_read_retries = r; pec_write = false; pec_read = false; growing_waits = growing }

-- what the call counts, and what the run says
abbrev pub counted : Run → ℕ × ℕ
counted (told kind p n v r growing es waits ms) =
    ((tally_of (feed (start_of kind (settings v r growing) p n 39) (reports_of p n es))).waits, (tally_of (feed (start_of kind (settings v r growing) p n 39) (reports_of p n es))).waited_ms)

abbrev pub expected : Run → ℕ × ℕ
expected (told kind p n v r growing es waits ms) = (waits, ms)

-- so many failures, before others
abbrev fails : ℕ → List (Outcome × List ℕ) → List (Outcome × List ℕ)
fails n rest = replicate n (outcome.Timeout, []) ++ rest

-- a data-flash write of three blocks
abbrev write : (v : ℕ) → Bool → List (Outcome × List ℕ) → (waits ms : ℕ) → Run
write v growing es waits ms = told (kind.WriteDataflash 0x4000) 65 0 v 0 growing es waits ms

abbrev pub runs : List Run
runs =
    -- by the failures of one block: 0, 1, 3, 4 and 6
    write 6 true (goes ∷ goes ∷ goes ∷ []) 0 0
    ∷ write 6 true (goes ∷ fails 1 (goes ∷ goes ∷ [])) 1 10
    ∷ write 6 true (goes ∷ fails 3 (goes ∷ goes ∷ [])) 3 70
    ∷ write 6 true (goes ∷ fails 4 (goes ∷ goes ∷ [])) 4 150
    ∷ write 6 true (goes ∷ fails 6 (goes ∷ goes ∷ [])) 6 310
    -- each block begins at 10 again
    ∷ write 6 true (fails 3 (goes ∷ fails 3 (goes ∷ fails 1 (goes ∷ [])))) 7 150
    -- as much as three budgets of six retries come to (`most` of `Waits`)
    ∷ write 6 true (fails 6 (goes ∷ fails 6 (goes ∷ fails 6 (goes ∷ [])))) 18 930
    -- the failure that ends the call is not waited for
    ∷ write 3 true (goes ∷ fails 4 []) 3 70
    ∷ write 0 true (fails 1 []) 0 0
    -- with the setting off each wait is 10
    ∷ write 6 false (fails 3 (goes ∷ fails 3 (goes ∷ fails 1 (goes ∷ [])))) 7 70
    -- the halves of an access key have a budget each
    ∷ told (kind.SendAccessKey 1 2) 0 0 6 0 true (fails 4 (goes ∷ fails 2 (goes ∷ []))) 6 180
    -- a reading call has one budget, through its head and all its blocks
    ∷ told (kind.ReadDataflash 0x4000) 0 33 0 6 true (fails 1 (goes ∷ fails 1 (goes ∷ brings 35 ∷ fails 2 (goes ∷ brings 4 ∷ [])))) 4 150
    ∷ told (kind.ReadDataflash 0x4000) 0 33 0 6 false (fails 1 (goes ∷ fails 1 (goes ∷ brings 35 ∷ fails 2 (goes ∷ brings 4 ∷ [])))) 4 40
    ∷ told kind.ReadSecurityKeys 0 28 0 6 true (fails 3 (goes ∷ fails 3 (goes ∷ brings 31 ∷ []))) 6 310
    ∷ told (kind.ReadRegister 0x44) 0 1 0 6 true (fails 6 (brings 1 ∷ [])) 6 310
    ∷ told (kind.ReadRegister 0x44) 0 1 0 3 true (fails 4 []) 3 70
    -- the address of a data-flash read and the command of a MAC read are of the reading: no budget of what writes helps them
    ∷ told (kind.ReadDataflash 0x4000) 0 33 2 0 false (fails 2 []) 0 0
    ∷ told (kind.ReadDataflash 0x4000) 0 33 0 2 false (fails 2 (goes ∷ brings 35 ∷ brings 4 ∷ [])) 2 20
    ∷ told kind.ReadSecurityKeys 0 28 2 0 false (fails 2 []) 0 0
    ∷ told (kind.DispatchCommand 0x443500) 0 1 2 0 false (fails 2 []) 0 0
    -- a command with no output is a write
    ∷ told (kind.DispatchCommand 0x443500) 0 0 2 0 false (fails 2 (goes ∷ [])) 2 20
    ∷ told (kind.DispatchCommand 0x443500) 0 0 0 2 false (fails 2 []) 0 0
    -- and no budget of what reads helps a write
    ∷ told (kind.WriteDataflash 0x4000) 65 0 0 2 false (fails 2 []) 0 0
    ∷ []

-- each run counts what it says
pub runs_count : map counted runs ≡ map expected runs
unfolding feed
    start_with start_of plan_of wrote_of got_of report_of tally_of
    when◌then◌else◌ in_window case◌waiting◌ended◌ case◌acknowledged◌error◌timeout◌ case◌retry◌spent◌ wait_of failed nothing waited tallied phase_after fits_of windowed commanded measured admitted
    frames.first_address frames.frame_count writing.plan_of writing.start_of writing.advance_of writing.retry_of writing.end_of writing.fail_of writing.settle_of writing.replied_of writing.counted_of writing.report_of
    case◌refused◌fault◌headed◌block◌ parts.has_head parts.first_address parts.read_count parts.ask_of parts.block_ask reading.plain_plan reading.mac_plan reading.start_of reading.due_ask reading.headed_of reading.advance_of reading.retry_of reading.end_of reading.fail_of reading.heard_head reading.verdict_of reading.heard_block reading.acknowledged_of reading.weigh_of reading.judge_of reading.counted_of reading.report_of
    reply.plain_ask reply.mac_ask reply.lead_of reply.around_of reply.bytes_asked reply.heard_of
    read_register command_reads dispatch_command mac_read send_access_key read_dataflash write_dataflash
runs_count = refl
