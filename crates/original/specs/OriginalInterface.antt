-- interface.rs, function by function as it stands there, over the list of what the bus does.
-- Each takes what was done so far and the outcomes to come, as `&mut self` has them. A loop takes its `retries`; the Rust starts them at `max_bus_retries`.
-- Assumes nothing.
use Rattle.std.specs.Prelude.{ℕ, zero, suc, ◌+◌, ◌-◌, ◌/◌, ◌%◌, min, Bool, true, false, not, ◌&&◌, ◌||◌, List, [], ◌∷◌, ◌++◌, length, take, drop, get_or, ltb, leb, eqb}
use Rattle.smbus_pec.specs.Pec.{pec_of}
use Rattle.protocol.specs.Pick.{when◌then◌else◌}
use Rattle.protocol.specs.declared.error.Answer.TheVariants as answer
use Rattle.original.specs.OriginalCommon.{Config}
use Rattle.original.specs.Bus.{BusOutcome, delivered, write, read, Log, made, delayed, Came, Ok, Err, Waiting, Read, ◌leaving◌, bus_op◌err◌ok◌, settle}

-- u16::to_le_bytes
unfoldable pub to_le_bytes : ℕ → List ℕ
to_le_bytes n = n % 256 ∷ n / 256 % 256 ∷ []

-- a frame and its PEC, which covers BQ_ADDR << 1 and the frame
unfoldable pub with_pec : List ℕ → List ℕ
with_pec frame = frame ++ (pec_of 0 (0x16 ∷ frame) ∷ [])

-- check_df_range: a sum that no u16 holds is refused too
unfoldable pub check_df_range : ℕ → ℕ → Bool
check_df_range starting_address len =
    when eqb len 0 then true else
    when ltb starting_address 0x4000 then false else
    when ltb 0xFFFF (starting_address + (len - 1)) then false else
    when ltb 0x5FFF (starting_address + (len - 1)) then false else true

-- write_with_retries_internal
unfoldable pub write_with_retries_internal : ℕ → List ℕ → Log → List BusOutcome → Came
write_with_retries_internal retries frame log [] = Waiting (made (write frame) log)
write_with_retries_internal retries frame log (o ∷ outcomes) =
    let now : Log = made (write frame) log in
    bus_op o
    err (λ e. when eqb retries 0 then Err e now outcomes else write_with_retries_internal (retries - 1) frame (delayed now) outcomes)
    ok (λ bytes. Ok now outcomes)

-- write_with_retries
unfoldable pub write_with_retries : Config → List ℕ → Bool → Log → List BusOutcome → Came
write_with_retries config frame use_pec log outcomes =
    write_with_retries_internal config.max_bus_retries (when use_pec then with_pec frame else frame) log outcomes

-- it panics over 38 bytes with PEC
abbrev pub write_panics : Bool → List ℕ → Bool
write_panics use_pec frame = use_pec && ltb 38 (length frame)

-- mac_write_with_retries
unfoldable pub mac_write_with_retries : Config → List ℕ → Log → List BusOutcome → Came
mac_write_with_retries config frame log outcomes = write_with_retries config frame config.pec_write log outcomes

-- the loop of mac_write_to_df_with_retries; each turn writes at least one byte, so that there are at most as many as bytes
unfoldable pub write_chunks : Config → ℕ → List ℕ → ℕ → ℕ → ℕ → Log → List BusOutcome → Came
write_chunks config starting_address bytes zero committed bytes_left log outcomes = Ok log outcomes
write_chunks config starting_address bytes (suc turns) committed bytes_left log outcomes =
    let output_buf_end_idx : ℕ = min 36 (bytes_left + 4) in
    let start_idx : ℕ = length bytes - bytes_left in
    let end_idx : ℕ = start_idx + output_buf_end_idx - 4 in
    let output_buf : List ℕ = 0x44 ∷ (output_buf_end_idx - 2) ∷ to_le_bytes (starting_address + start_idx) ++ take (end_idx - start_idx) (drop start_idx bytes) in
    when eqb bytes_left 0 then Ok log outcomes else
    when ltb 0xFFFF (starting_address + start_idx) then Err answer.DataFlashAddressOutOfRange log outcomes else
    settle (λ log outcomes. write_chunks config starting_address bytes turns (committed + (end_idx - start_idx)) (bytes_left - 32) log outcomes)
    (λ e. when eqb committed 0 then e else answer.PartialDataFlashWrite committed)
    (write_with_retries_internal config.max_bus_retries (when config.pec_write then with_pec output_buf else output_buf) log outcomes)

-- mac_write_to_df_with_retries
unfoldable pub mac_write_to_df_with_retries : Config → ℕ → List ℕ → Log → List BusOutcome → Came
mac_write_to_df_with_retries config starting_address bytes log outcomes =
    when check_df_range starting_address (length bytes) then write_chunks config starting_address bytes (length bytes) 0 (length bytes) log outcomes
    else Err answer.DataFlashAddressOutOfRange log outcomes

-- the loop of read_with_retries: one budget for bus failures and for wrong PECs
unfoldable pub read_loop : ℕ → ℕ → List ℕ → Bool → Log → List BusOutcome → Read
read_loop retries command buffer use_pec log [] = Waiting (made (read command (when use_pec then length buffer + 1 else length buffer)) log) leaving buffer
read_loop retries command buffer use_pec log (o ∷ outcomes) =
    let read_len : ℕ = length buffer in
    let count : ℕ = when use_pec then read_len + 1 else read_len in
    let now : Log = made (read command count) log in
    bus_op o
    err (λ e. when eqb retries 0 then Err e now outcomes leaving buffer else read_loop (retries - 1) command buffer use_pec (delayed now) outcomes)
    ok (λ bytes.
    let read_buf : List ℕ = delivered count bytes in
    when use_pec && not (eqb (get_or read_buf read_len 0) (pec_of 0 (0x16 ∷ command ∷ 0x17 ∷ take read_len read_buf))) then
    (when eqb retries 0 then Err answer.Pec now outcomes leaving buffer else read_loop (retries - 1) command buffer use_pec (delayed now) outcomes)
    else Ok now outcomes leaving take read_len read_buf)

-- read_with_retries
unfoldable pub read_with_retries : Config → ℕ → List ℕ → Bool → Log → List BusOutcome → Read
read_with_retries config command buffer use_pec log outcomes = read_loop config.max_bus_retries command buffer use_pec log outcomes

-- the loop of mac_read_with_retries: the command's frame, then the read, from one budget
unfoldable mutual
  pub mac_write_turn : ℕ → Bool → List ℕ → List ℕ → Log → List BusOutcome → Read
  mac_write_turn retries use_pec frame buffer log [] = Waiting (made (write (when use_pec then with_pec frame else frame)) log) leaving buffer
  mac_write_turn retries use_pec frame buffer log (o ∷ outcomes) =
      let now : Log = made (write (when use_pec then with_pec frame else frame)) log in
      bus_op o
      err (λ e. when eqb retries 0 then Err e now outcomes leaving buffer else mac_write_turn (retries - 1) use_pec frame buffer (delayed now) outcomes)
      ok (λ bytes. mac_read_turn retries use_pec frame buffer now outcomes)

  -- the frame's first byte is sent, and the PEC is worked out with MAC_CMD
  pub mac_read_turn : ℕ → Bool → List ℕ → List ℕ → Log → List BusOutcome → Read
  mac_read_turn retries use_pec frame buffer log [] =
      Waiting (made (read (get_or frame 0 0) (when use_pec then 1 + 2 + length buffer + 1 else 1 + 2 + length buffer)) log) leaving buffer
  mac_read_turn retries use_pec frame buffer log (o ∷ outcomes) =
      let reply_len : ℕ = 1 + 2 + length buffer in
      let count : ℕ = when use_pec then reply_len + 1 else reply_len in
      let now : Log = made (read (get_or frame 0 0) count) log in
      bus_op o
      err (λ e. when eqb retries 0 then Err e now outcomes leaving buffer else mac_write_turn (retries - 1) use_pec frame buffer (delayed now) outcomes)
      ok (λ bytes.
      let read_buf : List ℕ = delivered count bytes in
      when use_pec && not (eqb (get_or read_buf reply_len 0) (pec_of 0 (0x16 ∷ 0x44 ∷ 0x17 ∷ take reply_len read_buf))) then
      (when eqb retries 0 then Err answer.Pec now outcomes leaving buffer else mac_write_turn (retries - 1) use_pec frame buffer (delayed now) outcomes)
      else Ok now outcomes leaving take (length buffer) (drop (1 + 2) read_buf))

-- mac_read_with_retries
unfoldable pub mac_read_with_retries : Config → List ℕ → List ℕ → Log → List BusOutcome → Read
mac_read_with_retries config frame buffer log outcomes = mac_write_turn config.max_bus_retries config.pec_read frame buffer log outcomes

-- the loop of mac_read_from_df_with_retries: one budget for all of it
unfoldable pub read_chunks : ℕ → ℕ → List ℕ → ℕ → Bool → Log → List BusOutcome → Read
read_chunks retries starting_address buffer bytes_read send_address log [] =
    when leb (length buffer) bytes_read then Ok log [] leaving buffer else
    when send_address && ltb 0xFFFF (starting_address + bytes_read) then Err answer.DataFlashAddressOutOfRange log [] leaving buffer else
    when send_address then Waiting (made (write (0x44 ∷ 2 ∷ to_le_bytes (starting_address + bytes_read))) log) leaving buffer
    else Waiting (made (read 0x44 (min 35 (length buffer - bytes_read + 2 + 1))) log) leaving buffer
read_chunks retries starting_address buffer bytes_read send_address log (o ∷ outcomes) =
    let sent : Log = made (write (0x44 ∷ 2 ∷ to_le_bytes (starting_address + bytes_read))) log in
    let output_buf_end_idx : ℕ = min 35 (length buffer - bytes_read + 2 + 1) in
    let chunk_len : ℕ = output_buf_end_idx - 3 in
    let now : Log = made (read 0x44 output_buf_end_idx) log in
    when leb (length buffer) bytes_read then Ok log (o ∷ outcomes) leaving buffer else
    when send_address && ltb 0xFFFF (starting_address + bytes_read) then Err answer.DataFlashAddressOutOfRange log (o ∷ outcomes) leaving buffer else
    when send_address then
    (bus_op o
    err (λ e. when eqb retries 0 then Err e sent outcomes leaving buffer else read_chunks (retries - 1) starting_address buffer bytes_read true (delayed sent) outcomes)
    ok (λ bytes. read_chunks retries starting_address buffer bytes_read false sent outcomes))
    else
    (bus_op o
    err (λ e. when eqb retries 0 then Err e now outcomes leaving buffer else read_chunks (retries - 1) starting_address buffer bytes_read true (delayed now) outcomes)
    ok (λ bytes.
    let output_buf : List ℕ = delivered output_buf_end_idx bytes in
    read_chunks retries starting_address (take bytes_read buffer ++ take chunk_len (drop 3 output_buf) ++ drop (bytes_read + chunk_len) buffer) (bytes_read + chunk_len) false now outcomes))

-- mac_read_from_df_with_retries
unfoldable pub mac_read_from_df_with_retries : Config → ℕ → List ℕ → Log → List BusOutcome → Read
mac_read_from_df_with_retries config starting_address buffer log outcomes =
    when check_df_range starting_address (length buffer) then read_chunks config.max_bus_retries starting_address buffer 0 true log outcomes
    else Err answer.DataFlashAddressOutOfRange log outcomes leaving buffer

-- the loop of mac_read_from_df_with_retries_pec: always 36 bytes; after a wrong PEC the chunk's own address goes out again
unfoldable pub read_chunks_pec : ℕ → ℕ → List ℕ → ℕ → Bool → Log → List BusOutcome → Read
read_chunks_pec retries starting_address buffer bytes_read send_address log [] =
    when leb (length buffer) bytes_read then Ok log [] leaving buffer else
    when send_address && ltb 0xFFFF (starting_address + bytes_read) then Err answer.DataFlashAddressOutOfRange log [] leaving buffer else
    when send_address then Waiting (made (write (with_pec (0x44 ∷ 2 ∷ to_le_bytes (starting_address + bytes_read)))) log) leaving buffer
    else Waiting (made (read 0x44 36) log) leaving buffer
read_chunks_pec retries starting_address buffer bytes_read send_address log (o ∷ outcomes) =
    let sent : Log = made (write (with_pec (0x44 ∷ 2 ∷ to_le_bytes (starting_address + bytes_read)))) log in
    let chunk_len : ℕ = min (length buffer - bytes_read) 32 in
    let now : Log = made (read 0x44 36) log in
    when leb (length buffer) bytes_read then Ok log (o ∷ outcomes) leaving buffer else
    when send_address && ltb 0xFFFF (starting_address + bytes_read) then Err answer.DataFlashAddressOutOfRange log (o ∷ outcomes) leaving buffer else
    when send_address then
    (bus_op o
    err (λ e. when eqb retries 0 then Err e sent outcomes leaving buffer else read_chunks_pec (retries - 1) starting_address buffer bytes_read true (delayed sent) outcomes)
    ok (λ bytes. read_chunks_pec retries starting_address buffer bytes_read false sent outcomes))
    else
    (bus_op o
    err (λ e. when eqb retries 0 then Err e now outcomes leaving buffer else read_chunks_pec (retries - 1) starting_address buffer bytes_read true (delayed now) outcomes)
    ok (λ bytes.
    let output_buf : List ℕ = delivered 36 bytes in
    when not (eqb (get_or output_buf 35 0) (pec_of 0 (0x16 ∷ 0x44 ∷ 0x17 ∷ take 35 output_buf))) then
    (when eqb retries 0 then Err answer.Pec now outcomes leaving buffer
    else read_chunks_pec (retries - 1) starting_address buffer bytes_read true (delayed now) outcomes)
    else read_chunks_pec retries starting_address (take bytes_read buffer ++ take chunk_len (drop 3 output_buf) ++ drop (bytes_read + chunk_len) buffer) (bytes_read + chunk_len) false now outcomes))

-- mac_read_from_df_with_retries_pec
unfoldable pub mac_read_from_df_with_retries_pec : Config → ℕ → List ℕ → Log → List BusOutcome → Read
mac_read_from_df_with_retries_pec config starting_address buffer log outcomes =
    when check_df_range starting_address (length buffer) then read_chunks_pec config.max_bus_retries starting_address buffer 0 true log outcomes
    else Err answer.DataFlashAddressOutOfRange log outcomes leaving buffer

-- write_register
unfoldable pub write_register : Config → ℕ → List ℕ → Log → List BusOutcome → Came
write_register config address bytes log outcomes =
    when ltb 32 (length bytes) then Err answer.DataTooLarge log outcomes
    else write_with_retries config (address ∷ bytes) config.pec_write log outcomes

-- AsyncBufferInterface::write
unfoldable pub buffer_write : Config → ℕ → List ℕ → Log → List BusOutcome → Came
buffer_write config address bytes log outcomes =
    when ltb 33 (length bytes) then Err answer.DataTooLarge log outcomes
    else write_with_retries config (address ∷ bytes) config.pec_write log outcomes

-- read_register
unfoldable pub read_register : Config → ℕ → List ℕ → Log → List BusOutcome → Read
read_register config address buffer log outcomes =
    when ltb 32 (length buffer) then Err answer.DataTooLarge log outcomes leaving buffer
    else read_with_retries config address buffer config.pec_read log outcomes

-- dispatch_command
unfoldable pub dispatch_command : Config → ℕ → List ℕ → List ℕ → Log → List BusOutcome → Read
dispatch_command config address input output log outcomes =
    let buf : List ℕ = address / 65536 % 256 ∷ 2 ∷ address / 256 % 256 ∷ address % 256 ∷ [] in
    when ltb 32 (length input) || ltb 32 (length output) then Err answer.DataTooLarge log outcomes leaving output else
    when eqb (length output) 0 then mac_write_with_retries config buf log outcomes leaving output
    else mac_read_with_retries config buf output log outcomes

-- it panics where there is an input and neither is too large
abbrev pub dispatch_panics : List ℕ → List ℕ → Bool
dispatch_panics input output = not (eqb (length input) 0) && not (ltb 32 (length input) || ltb 32 (length output))

-- AsyncBufferInterface::read
unfoldable pub buffer_read : Config → ℕ → List ℕ → Log → List BusOutcome → Read
buffer_read config address buffer log outcomes = read_with_retries config address buffer false log outcomes
