-- Demand 3 is about something: worked runs of a write of 33 bytes, without retries, that reach each answer such a call can give.
-- Assumes nothing.
use Rattle.std.specs.Prelude.{◌≡◌, refl, true, false, List, [], ◌∷◌, replicate}
use Rattle.protocol.specs.Pick.{when◌then◌else◌}
use Rattle.protocol.specs.Bytes.{over}
use Rattle.protocol.specs.Frame.{sealed, pair_of, mac_bytes, laid_of, work_laid}
use Rattle.protocol.specs.Window.{in_window}
use Rattle.protocol.specs.declared.error.Answer.TheVariants as answer
use Rattle.engine.specs.Pick.{case◌waiting◌ended◌, case◌acknowledged◌error◌timeout◌, case◌retry◌spent◌}
use Rattle.engine.specs.Budget.{failed as failedOf, nothing, tallied}
use Rattle.engine.specs.Bus.{write_of, phase_after, fits_of}
use Rattle.engine.specs.Limit.{windowed, measured, admitted}
use Rattle.engine.specs.declared.bus.Transfer.{Transfer}
use Rattle.engine.specs.declared.bus.Transfer.TheVariants as transfer
use Rattle.writing.specs.Frames.{is_plain, is_flash, frame_count, first_address, block_bytes, bytes_at}
use Rattle.writing.specs.Writing.{plan_of, start_of, own_bytes, due_bytes, shown_of, work_shown, next_of, work_after, part_of, advance_of, gave_up, retry_of, end_of, fail_of, settle_of, replied_of, counted_of, report_of}
use Rattle.r5.specs.Plans.{write_dataflash}
use Rattle.promises.specs.Events.{bus_error, timed_out, Event, acknowledged, failed, unheard, each}
use Rattle.promises.specs.Host.{makes}
use Rattle.promises.specs.Writes.{began, sent, shows, transfer_made, run}

-- what the machine shows of 33 bytes at 4000 hex, with a PEC, over a flash of FF
abbrev pub worked : List Event → Transfer
worked es =
    shows (replicate 33 7)
    (run (replicate 33 7) es (began (record { max_write_retries = 0; max_read_retries = 2; pec_write = true; pec_read = false; growing_waits = false }) 0x4000 (replicate 33 7) (replicate 39 0) (replicate 8192 0xFF)))

-- the first block's frame of 37 bytes, and the last block's of 6; then 0, 1, 2 and 6
pub worked_runs :
    (worked [] ≡ transfer.Write 37)
    × (worked ((acknowledged) ∷ []) ≡ transfer.Write 6)
    × (worked ((acknowledged) ∷ (acknowledged) ∷ []) ≡ transfer.Ended answer.Done)
    × (worked (failed (bus_error 5) ∷ []) ≡ transfer.Ended (answer.I2c 5))
    × (worked (unheard timed_out ∷ (acknowledged) ∷ []) ≡ transfer.Ended answer.Timeout)
    × (worked ((acknowledged) ∷ unheard timed_out ∷ []) ≡ transfer.Ended (answer.PartialDataFlashWrite 32))
unfolding began start_of first_address admitted measured windowed in_window plan_of write_dataflash each transfer_made sent next_of work_after shown_of work_shown due_bytes bytes_at block_bytes mac_bytes pair_of laid_of work_laid write_of sealed over own_bytes is_plain is_flash frame_count fits_of part_of report_of counted_of tallied replied_of settle_of advance_of fail_of failedOf retry_of end_of gave_up phase_after case◌waiting◌ended◌ case◌acknowledged◌error◌timeout◌ case◌retry◌spent◌ makes when◌then◌else◌ nothing
worked_runs = (refl, refl, refl, refl, refl, refl)
