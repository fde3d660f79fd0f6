-- Four runs of the original's definitions, computed. By the theorem they are the step machine's too.
-- Assumes nothing.
use Rattle.std.specs.Prelude.{ℕ, ◌≡◌, refl, false, [], ◌∷◌, ◌++◌, replicate}
use Rattle.protocol.specs.Pick.{when◌then◌else◌}
use Rattle.protocol.specs.declared.error.Answer.TheVariants as answer
use Rattle.original.specs.OriginalCommon.{Config}
use Rattle.original.specs.Bus.{Acknowledged, BusError, Timeout, write, read, begun, Ok, Err, ◌leaving◌, bus_op◌err◌ok◌, settle}
use Rattle.original.specs.OriginalInterface as rust
use Rattle.original.specs.OriginalR5 as rust-r5

-- so many retries, no PEC
abbrev retrying : ℕ → Config
retrying n = record { max_bus_retries = n; pec_write = false; pec_read = false }

-- the whole case of document 01: a bus error, one wait, the same frame again
pub retried_write : rust-r5.write_dataflash (retrying 1) 0x4000 (0xAA ∷ 0xBB ∷ []) begun (BusError 5 ∷ Acknowledged [] ∷ [])
    ≡ Ok (record { transfers = write (0x44 ∷ 0x04 ∷ 0x00 ∷ 0x40 ∷ 0xAA ∷ 0xBB ∷ []) ∷ write (0x44 ∷ 0x04 ∷ 0x00 ∷ 0x40 ∷ 0xAA ∷ 0xBB ∷ []) ∷ []; waits = 1 }) []
unfolding when◌then◌else◌ bus_op◌err◌ok◌ settle rust.to_le_bytes rust.check_df_range rust.write_with_retries_internal rust.write_chunks rust.mac_write_to_df_with_retries rust-r5.write_dataflash
retried_write = refl

-- 33 bytes with one retry: the first block uses it up, the second has one of its own and dies of two failures, with 32 bytes committed
pub partial_write : rust-r5.write_dataflash (retrying 1) 0x4000 (replicate 33 0xAA) begun (Timeout ∷ Acknowledged [] ∷ Timeout ∷ BusError 7 ∷ [])
    ≡ Err (answer.PartialDataFlashWrite 32) (record {
      transfers = write (0x44 ∷ 34 ∷ 0x00 ∷ 0x40 ∷ replicate 32 0xAA) ∷ write (0x44 ∷ 34 ∷ 0x00 ∷ 0x40 ∷ replicate 32 0xAA) ∷ write (0x44 ∷ 3 ∷ 0x20 ∷ 0x40 ∷ 0xAA ∷ []) ∷ write (0x44 ∷ 3 ∷ 0x20 ∷ 0x40 ∷ 0xAA ∷ []) ∷ [];
      waits = 2;
    }) []
unfolding when◌then◌else◌ bus_op◌err◌ok◌ settle rust.to_le_bytes rust.check_df_range rust.write_with_retries_internal rust.write_chunks rust.mac_write_to_df_with_retries rust-r5.write_dataflash
partial_write = refl

-- 33 bytes read with one retry for all of it: the second block fails, its own address goes out again, and the next failure ends the call with the first block in the buffer
pub failed_read : rust-r5.read_dataflash (retrying 1) 0x4000 (replicate 33 0xA5) begun (Acknowledged [] ∷ Acknowledged (0x22 ∷ 0x00 ∷ 0x40 ∷ replicate 32 0xBB) ∷ Timeout ∷ Acknowledged [] ∷ Timeout ∷ [])
    ≡ Err answer.Timeout (record {
      transfers = write (0x44 ∷ 2 ∷ 0x00 ∷ 0x40 ∷ []) ∷ read 0x44 35 ∷ read 0x44 4 ∷ write (0x44 ∷ 2 ∷ 0x20 ∷ 0x40 ∷ []) ∷ read 0x44 4 ∷ [];
      waits = 1;
    }) [] leaving (replicate 32 0xBB ++ (0xA5 ∷ []))
unfolding when◌then◌else◌ bus_op◌err◌ok◌ rust.to_le_bytes rust.check_df_range rust.read_chunks rust.mac_read_from_df_with_retries rust-r5.read_dataflash
failed_read = refl

-- command 443500 goes out as 44 02 35 00
pub command : rust.dispatch_command (retrying 0) 0x443500 [] [] begun (Acknowledged [] ∷ [])
    ≡ Ok (record { transfers = write (0x44 ∷ 0x02 ∷ 0x35 ∷ 0x00 ∷ []) ∷ []; waits = 0 }) [] leaving []
unfolding when◌then◌else◌ bus_op◌err◌ok◌ rust.write_with_retries_internal rust.write_with_retries rust.mac_write_with_retries rust.dispatch_command
command = refl
