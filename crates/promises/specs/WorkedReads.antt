-- The reader's promise is about something: worked runs of a read of 33 bytes with one retry, that reach each answer such a call can give.
-- Assumes nothing.
use Rattle.std.specs.Prelude.{◌≡◌, refl, Bool, true, false, List, [], ◌∷◌, ◌++◌, replicate}
use Rattle.smbus_pec.specs.Pec.{bit_step, bit_steps, byte_step, pec_of}
use Rattle.protocol.specs.Pick.{when◌then◌else◌}
use Rattle.protocol.specs.Bytes.{over, block_in, stored_at}
use Rattle.protocol.specs.Frame.{sealed, pair_of, mac_bytes, laid_of, work_laid}
use Rattle.protocol.specs.Reply.{mac_ask, lead_of, around_of, bytes_asked, checked_of, heard_of, data_of}
use Rattle.protocol.specs.Window.{in_window}
use Rattle.protocol.specs.declared.error.Answer.TheVariants as answer
use Rattle.engine.specs.Pick.{case◌waiting◌ended◌, case◌acknowledged◌error◌timeout◌, case◌retry◌spent◌}
use Rattle.engine.specs.Budget.{failed as failedOf, nothing, waited, tallied}
use Rattle.engine.specs.Bus.{write_of, phase_after, fits_of}
use Rattle.engine.specs.Limit.{windowed, measured, admitted}
use Rattle.engine.specs.declared.bus.Transfer.TheVariants as transfer
use Rattle.reading.specs.Pick.{case◌refused◌fault◌headed◌block◌}
use Rattle.reading.specs.Parts.{has_head, first_address, head_bytes, block_ask, ask_of, most_of}
use Rattle.reading.specs.Parts as parts
use Rattle.reading.specs.Reading.{start_of, due_ask, shown_head, work_head, shown_of, work_shown, next_of, work_after, headed_of, advance_of, retry_of, end_of, fail_of, heard_head, verdict_of, heard_block, acknowledged_of, weigh_of, judge_of, stored_of, counted_of, report_of, buffer_after}
use Rattle.r5.specs.Plans.{read_dataflash}
use Rattle.model_gauge.specs.Frame.{whole_of, form_of, read_frame}
use Rattle.model_gauge.specs.Gauge.{new_gauge, block_at, reply_front, reply_of, moved_of, replies_to, heard_frame, heard_read, acts, stored}
use Rattle.promises.specs.Events.{bus_error, timed_out, Event, acknowledged, failed, unheard, each}
use Rattle.promises.specs.Host.{makes}
use Rattle.promises.specs.Reads.{ReadWorld, read_began, heard, head_sent, asked, read_shows, read_made, read_run, Coming, comes, damaged, read_over, read_noisily}

-- a read of 33 bytes at 4000 hex into a buffer of A5; the flash has a block of 1 there and then 2, and the pointer stands elsewhere
abbrev pub worked_start : (pec : Bool) → ReadWorld
worked_start pec =
    read_began (record { pointer = 0x5000 }) (record { max_write_retries = 0; max_read_retries = 1; pec_write = false; pec_read = pec; growing_waits = false }) 0x4000 (replicate 33 0xA5) (replicate 39 0)
    (replicate 32 1 ++ replicate 8160 2)

-- without a PEC
abbrev pub worked_read : List Event → ReadWorld
worked_read es = read_run es (worked_start false)

-- with one, on a bus that damages replies
abbrev pub worked_noise : List Coming → ReadWorld
worked_noise cs = read_noisily cs (worked_start true)

-- the second block comes damaged, and then as it is
abbrev pub damaged_later : List Coming
damaged_later = comes (acknowledged) ∷ comes (acknowledged) ∷ damaged (replicate 35 0) 0 ∷ comes (acknowledged) ∷ comes (acknowledged) ∷ []

-- the address, the first block, the last; then 0, 1 and 2. A read that failed has the first block and nothing else; a block that was sent unheard is asked for
-- again, by its address. One that came damaged is read again, and the block that was due comes; at the last attempt it is 3, with nothing of it in the buffer
pub worked_reads :
    (read_shows (worked_read []) ≡ transfer.Write 4)
    × (read_shows (worked_read ((acknowledged) ∷ [])) ≡ transfer.Read 0x44 35)
    × (read_shows (worked_read ((acknowledged) ∷ (acknowledged) ∷ [])) ≡ transfer.Read 0x44 4)
    × (read_shows (worked_read ((acknowledged) ∷ (acknowledged) ∷ (acknowledged) ∷ [])) ≡ transfer.Ended answer.Done)
    × (read_shows (worked_read (failed timed_out ∷ failed (bus_error 5) ∷ [])) ≡ transfer.Ended (answer.I2c 5))
    × (read_shows (worked_read ((acknowledged) ∷ (acknowledged) ∷ unheard timed_out ∷ failed timed_out ∷ [])) ≡ transfer.Ended answer.Timeout)
    × ((worked_read ((acknowledged) ∷ (acknowledged) ∷ unheard timed_out ∷ failed timed_out ∷ [])).buffer ≡ replicate 32 1 ++ (0xA5 ∷ []))
    × ((worked_read ((acknowledged) ∷ unheard timed_out ∷ (acknowledged) ∷ (acknowledged) ∷ (acknowledged) ∷ [])).buffer ≡ replicate 32 1 ++ (2 ∷ []))
    × (read_shows (worked_noise (comes (acknowledged) ∷ [])) ≡ transfer.Read 0x44 36)
    × (read_shows (worked_noise (comes (acknowledged) ∷ damaged (replicate 35 0) 0 ∷ [])) ≡ transfer.Write 5)
    × (read_shows (worked_noise (comes (acknowledged) ∷ damaged (replicate 35 0) 0 ∷ comes (acknowledged) ∷ damaged (replicate 35 0) 0 ∷ [])) ≡ transfer.Ended answer.Pec)
    × ((worked_noise (comes (acknowledged) ∷ damaged (replicate 35 0) 0 ∷ comes (acknowledged) ∷ damaged (replicate 35 0) 0 ∷ [])).buffer ≡ replicate 33 0xA5)
    × (read_shows (worked_noise damaged_later) ≡ transfer.Ended answer.Done)
    × ((worked_noise damaged_later).buffer ≡ replicate 32 1 ++ (2 ∷ []))
unfolding bit_step bit_steps byte_step pec_of read_over checked_of read_began start_of first_address admitted measured windowed in_window read_dataflash has_head each read_made head_sent asked heard next_of work_after shown_of work_shown shown_head work_head head_bytes mac_bytes pair_of laid_of work_laid write_of sealed over fits_of due_ask ask_of block_ask mac_ask bytes_asked around_of lead_of heard_of data_of report_of counted_of buffer_after judge_of weigh_of acknowledged_of heard_head heard_block verdict_of headed_of advance_of stored_of stored_at block_in most_of parts.read_count fail_of failedOf retry_of end_of phase_after waited tallied nothing new_gauge stored acts heard_frame heard_read read_frame form_of whole_of replies_to moved_of reply_of reply_front block_at case◌waiting◌ended◌ case◌acknowledged◌error◌timeout◌ case◌retry◌spent◌ case◌refused◌fault◌headed◌block◌ makes when◌then◌else◌
worked_reads = (refl, refl, refl, refl, refl, refl, refl, refl, refl, refl, refl, refl, refl, refl)
