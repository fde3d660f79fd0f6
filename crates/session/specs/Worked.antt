-- Worked runs of the bench program, document 01's own first, as one table under one statement. (01, The bench program)
-- Assumes nothing.
use Rattle.std.specs.Prelude.{ℕ, ◌*◌, ◌≡◌, refl, List, [], ◌∷◌, ◌++◌, replicate}
use Prim.Native.String.{String}
use Rattle.hexadecimal.specs.Line.{feeds}
use Rattle.hexadecimal.specs.Text.{ascii}
use Rattle.smbus_pec.specs.Pec.{bit_step, bit_steps, byte_step, pec_of}
use Rattle.protocol.specs.Pick.{when◌then◌else◌}
use Rattle.protocol.specs.Bytes as bytes
use Rattle.protocol.specs.Frame as frame
use Rattle.protocol.specs.Reply as reply
use Rattle.protocol.specs.Window.{in_window}
use Rattle.engine.specs.Pick.{case◌waiting◌ended◌, case◌acknowledged◌error◌timeout◌, case◌retry◌spent◌}
use Rattle.engine.specs.Budget as budget
use Rattle.engine.specs.Bus as bus
use Rattle.engine.specs.Limit as limit
use Rattle.writing.specs.Frames as frames
use Rattle.writing.specs.Writing as writing
use Rattle.reading.specs.Pick.{case◌refused◌fault◌headed◌block◌}
use Rattle.reading.specs.Parts as parts
use Rattle.reading.specs.Reading as reading
use Rattle.interface.specs.Plans as interface
use Rattle.r5.specs.Plans as r5
use Rattle.hexadecimal.specs.Hex as hex
use Rattle.hexadecimal.specs.Line as line
use Rattle.lines.specs.Input as input
use Rattle.requests.specs.Fields as fields
use Rattle.requests.specs.Request as request
use Rattle.requests.specs.Retired.{retired_kind}
use Rattle.requests.specs.Outcome as outcome
use Rattle.calls.specs.Kind as kind
use Rattle.calls.specs.Call as calls
use Rattle.printing.specs.Printing as printing
use Rattle.dialogue.specs.Dialogue as dialogue
use Rattle.dialogue.specs.Bench as bench
use Rattle.session.specs.Output.{printed}

pub data Run : Type 0 where
  -- the input and the output as they are read and written
  text : String → String → Run
  -- whole lines of the input as bytes, the text that follows them, and the lines that are printed, as bytes
  run : List (List ℕ) → List ℕ → List (List ℕ) → Run

-- a data-flash write of two bytes with one retry, and its frame
abbrev write : List ℕ
write = 0x01 ∷ 0x00 ∷ 0x01 ∷ 0x00 ∷ 0x00 ∷ 0x40 ∷ 0xAA ∷ 0xBB ∷ []

abbrev sent : List ℕ
sent = 0x00 ∷ 0x44 ∷ 0x04 ∷ 0x00 ∷ 0x40 ∷ 0xAA ∷ 0xBB ∷ []

-- a read of two bytes of register 12
abbrev read : List ℕ
read = 0x04 ∷ 0x00 ∷ 0x00 ∷ 0x00 ∷ 0x12 ∷ 0x02 ∷ 0x00 ∷ []

-- an end: the answer, its detail, and waits of 10 ms; each of them, and how long the waits were, is below 256
abbrev over : ℕ → ℕ → ℕ → List ℕ
over answer detail waits = 0xFF ∷ answer ∷ detail ∷ 0x00 ∷ waits ∷ 0x00 ∷ 0x00 ∷ 0x00 ∷ 10 * waits ∷ 0x00 ∷ 0x00 ∷ 0x00 ∷ []

-- no outcomes left: waits of 10 ms, likewise
abbrev cut : ℕ → List ℕ
cut waits = 0xFE ∷ waits ∷ 0x00 ∷ 0x00 ∷ 0x00 ∷ 10 * waits ∷ 0x00 ∷ 0x00 ∷ 0x00 ∷ []

-- the line of a data-flash block of 32 bytes, at an address low byte first
abbrev flash : ℕ → ℕ → List ℕ
flash low high = 0x00 ∷ 0x44 ∷ 0x22 ∷ low ∷ high ∷ replicate 32 0xC3

abbrev pub runs : List Run
runs =
    -- the whole case of document 01
    text "010001000040AABB\n0105\n00\n" "0044040040AABB\n0044040040AABB\nFF000000010000000A000000\n"
    -- the last allowed attempt met a bus error, or timed out; lines after the end are not looked at
    ∷ run (write ∷ (0x02 ∷ []) ∷ (0x01 ∷ 0x05 ∷ []) ∷ (0x00 ∷ []) ∷ []) [] (sent ∷ sent ∷ over 1 0x05 1 ∷ [])
    ∷ run (write ∷ (0x02 ∷ []) ∷ (0x02 ∷ []) ∷ []) [] (sent ∷ sent ∷ over 2 0 1 ∷ [])
    -- no outcomes left
    ∷ run (write ∷ (0x02 ∷ []) ∷ []) [] (sent ∷ sent ∷ cut 1 ∷ [])
    -- a line that lacks its line feed, an empty line, and no input at all
    ∷ run (write ∷ []) (0x30 ∷ 0x30 ∷ []) (sent ∷ over 11 0 0 ∷ [])
    ∷ run [] (0x30 ∷ 0x30 ∷ []) (over 11 0 0 ∷ [])
    ∷ run (write ∷ [] ∷ []) [] (sent ∷ over 11 0 0 ∷ [])
    ∷ run [] [] (over 11 0 0 ∷ [])
    -- lower case, an odd number of digits, a carriage return
    ∷ run (write ∷ []) (0x30 ∷ 0x31 ∷ 0x30 ∷ 0x61 ∷ 0x0A ∷ []) (sent ∷ over 11 0 0 ∷ [])
    ∷ run (write ∷ []) (0x30 ∷ 0x30 ∷ 0x30 ∷ 0x0A ∷ []) (sent ∷ over 11 0 0 ∷ [])
    ∷ run (write ∷ []) (0x30 ∷ 0x30 ∷ 0x0D ∷ 0x0A ∷ []) (sent ∷ over 11 0 0 ∷ [])
    -- a read: its buffer when it ends well, is cut, or gets a wrong reply; a bad outcome line
    ∷ run (read ∷ (0x00 ∷ 0x11 ∷ 0x22 ∷ []) ∷ []) [] ((0x01 ∷ 0x12 ∷ 0x02 ∷ 0x00 ∷ []) ∷ (over 0 0 0 ++ (0x11 ∷ 0x22 ∷ [])) ∷ [])
    ∷ run (read ∷ []) [] ((0x01 ∷ 0x12 ∷ 0x02 ∷ 0x00 ∷ []) ∷ (cut 0 ++ (0xA5 ∷ 0xA5 ∷ [])) ∷ [])
    ∷ run (read ∷ (0x00 ∷ 0x11 ∷ []) ∷ []) [] ((0x01 ∷ 0x12 ∷ 0x02 ∷ 0x00 ∷ []) ∷ (over 9 0 0 ++ (0xA5 ∷ 0xA5 ∷ [])) ∷ [])
    ∷ run (read ∷ (0x01 ∷ []) ∷ []) [] ((0x01 ∷ 0x12 ∷ 0x02 ∷ 0x00 ∷ []) ∷ (over 11 0 0 ++ (0xA5 ∷ 0xA5 ∷ [])) ∷ [])
    -- a PEC that differs: it ends a call with no retries, and after one of a data-flash read the block's address goes out again
    ∷ run ((0x04 ∷ 0x02 ∷ 0x00 ∷ 0x00 ∷ 0x12 ∷ 0x01 ∷ 0x00 ∷ []) ∷ (0x00 ∷ 0x11 ∷ 0x00 ∷ []) ∷ []) [] ((0x01 ∷ 0x12 ∷ 0x02 ∷ 0x00 ∷ []) ∷ (over 3 0 0 ++ (0xA5 ∷ [])) ∷ [])
    ∷ run ((0x02 ∷ 0x02 ∷ 0x01 ∷ 0x00 ∷ 0x00 ∷ 0x40 ∷ 0x01 ∷ 0x00 ∷ []) ∷ (0x00 ∷ []) ∷ (0x00 ∷ replicate 36 0x00) ∷ (0x00 ∷ []) ∷ []) []
    ((0x00 ∷ 0x44 ∷ 0x02 ∷ 0x00 ∷ 0x40 ∷ 0xAB ∷ []) ∷ (0x01 ∷ 0x44 ∷ 0x24 ∷ 0x00 ∷ [])
    ∷ (0x00 ∷ 0x44 ∷ 0x02 ∷ 0x00 ∷ 0x40 ∷ 0xAB ∷ []) ∷ (0x01 ∷ 0x44 ∷ 0x24 ∷ 0x00 ∷ []) ∷ (cut 1 ++ (0xA5 ∷ [])) ∷ [])
    -- a refused reading call prints its buffer; a refused writing call has none
    ∷ run ((0x04 ∷ 0x00 ∷ 0x00 ∷ 0x00 ∷ 0x12 ∷ 0x21 ∷ 0x00 ∷ []) ∷ []) [] ((over 4 0 0 ++ replicate 33 0xA5) ∷ [])
    ∷ run ((0x02 ∷ 0x00 ∷ 0x00 ∷ 0x00 ∷ 0xFF ∷ 0x5F ∷ 0x02 ∷ 0x00 ∷ []) ∷ []) [] ((over 5 0 0 ++ (0xA5 ∷ 0xA5 ∷ [])) ∷ [])
    ∷ run ((0x05 ∷ 0x00 ∷ 0x00 ∷ 0x00 ∷ 0x00 ∷ 0x35 ∷ 0x44 ∷ 0x00 ∷ 0x00 ∷ 0x00 ∷ 0xAA ∷ []) ∷ []) [] (over 7 0 0 ∷ [])
    ∷ run ((0x09 ∷ 0x00 ∷ 0x00 ∷ 0x00 ∷ 0xAA ∷ []) ∷ []) [] (over 8 0 0 ∷ [])
    -- 11 before 8: a flag that is none, with a key that is too short
    ∷ run ((0x09 ∷ 0x10 ∷ 0x00 ∷ 0x00 ∷ 0xAA ∷ []) ∷ []) [] (over 11 0 0 ∷ [])
    -- bit 4, by itself and beside waits that grow
    ∷ text "04100400120200\n" "FF0B00000000000000000000\n"
    ∷ text "04180400120200\n" "FF0B00000000000000000000\n"
    -- bit 2: a budget of writes and one of reads, here 2 and 0, then 0 and 2. The address of a data-flash read is on the side of reads: its failure is the end, or
    -- it goes out again until its two retries are spent
    ∷ text "02040200000000400100\n02\n" "0044020040\nFF0200000000000000000000A5\n"
    ∷ text "02040000020000400100\n02\n02\n02\n" "0044020040\n0044020040\n0044020040\nFF0200000200000014000000A5\n"
    -- a data-flash write
    ∷ text "0104020000000040AABB\n02\n02\n02\n" "0044040040AABB\n0044040040AABB\n0044040040AABB\nFF0200000200000014000000\n"
    ∷ text "0104000002000040AABB\n02\n" "0044040040AABB\nFF0200000000000000000000\n"
    -- a command with no output, which is a write, and one with an output, which is a read
    ∷ text "050402000000003544000000\n02\n" "0044023500\n0044023500\nFE010000000A000000\n"
    ∷ text "050400000200003544000000\n02\n" "0044023500\nFF0200000000000000000000\n"
    ∷ text "050402000000003544000100\n02\n" "0044023500\nFF0200000000000000000000A5\n"
    ∷ text "050400000200003544000100\n02\n" "0044023500\n0044023500\nFE010000000A000000A5\n"
    -- a MAC read, whose command is on the side of reads; and both budgets where waits grow
    ∷ text "080402000000\n02\n" "0044023500\nFF0200000000000000000000A5A5A5A5A5A5A5A5A5A5A5A5A5A5A5A5A5A5A5A5A5A5A5A5A5A5A5A5\n"
    ∷ text "040C00000400120200\n02\n02\n0105\n02\n001122\n" "01120200\n01120200\n01120200\n01120200\n01120200\nFF00000004000000960000001122\n"
    -- too short for both: the second is missing, or half of it
    ∷ text "08040200\n" "FF0B00000000000000000000\n"
    ∷ text "0804020000\n" "FF0B00000000000000000000\n"
    -- and an old line with bit 2 set, whose arguments are then too short
    ∷ text "04040400120200\n" "FF0B00000000000000000000\n"
    -- a read whose first four attempts fail: 40 ms of waits, and 10 + 20 + 40 + 80 where they grow
    ∷ text "04000400120200\n02\n02\n0105\n02\n001122\n" "01120200\n01120200\n01120200\n01120200\n01120200\nFF00000004000000280000001122\n"
    ∷ text "04080400120200\n02\n02\n0105\n02\n001122\n" "01120200\n01120200\n01120200\n01120200\n01120200\nFF00000004000000960000001122\n"
    -- waits that grow are 80 ms from the fourth on, and there is none after the last allowed attempt: 310 ms, low byte first; no outcomes left after two, of 30 ms
    ∷ text "15080600AABB\n02\n02\n02\n02\n02\n02\n02\n" "00AABB\n00AABB\n00AABB\n00AABB\n00AABB\n00AABB\n00AABB\nFF0200000600000036010000\n"
    ∷ text "15080600AABB\n02\n02\n" "00AABB\n00AABB\n00AABB\nFE020000001E000000\n"
    -- they begin at 10 again with each frame of a write: 33 bytes to data flash, whose first block fails five times, 230 ms, and whose second three times, 70 ms
    ∷ run ((0x01 ∷ 0x08 ∷ 0x05 ∷ 0x00 ∷ 0x00 ∷ 0x40 ∷ replicate 33 0xC3) ∷ (replicate 5 (0x02 ∷ []) ++ ((0x00 ∷ []) ∷ (replicate 3 (0x02 ∷ []) ++ ((0x00 ∷ []) ∷ []))))) []
    (replicate 6 (flash 0x00 0x40) ++ (replicate 4 (0x00 ∷ 0x44 ∷ 0x03 ∷ 0x20 ∷ 0x40 ∷ 0xC3 ∷ []) ++ ((0xFF ∷ 0x00 ∷ 0x00 ∷ 0x00 ∷ 0x08 ∷ 0x00 ∷ 0x00 ∷ 0x00 ∷ 0x2C ∷ 0x01 ∷ 0x00 ∷ 0x00 ∷ []) ∷ [])))
    -- and grow on through the whole of a read: 33 bytes of data flash, where the address, the first block and the second fail once each, 10 + 20 + 40
    ∷ run ((0x02 ∷ 0x08 ∷ 0x03 ∷ 0x00 ∷ 0x00 ∷ 0x40 ∷ 0x21 ∷ 0x00 ∷ []) ∷ (0x02 ∷ []) ∷ (0x00 ∷ []) ∷ (0x02 ∷ []) ∷ (0x00 ∷ []) ∷ (0x00 ∷ replicate 35 0x11)
    ∷ (0x02 ∷ []) ∷ (0x00 ∷ []) ∷ (0x00 ∷ replicate 4 0x22) ∷ []) []
    ((0x00 ∷ 0x44 ∷ 0x02 ∷ 0x00 ∷ 0x40 ∷ []) ∷ (0x00 ∷ 0x44 ∷ 0x02 ∷ 0x00 ∷ 0x40 ∷ []) ∷ (0x01 ∷ 0x44 ∷ 0x23 ∷ 0x00 ∷ [])
    ∷ (0x00 ∷ 0x44 ∷ 0x02 ∷ 0x00 ∷ 0x40 ∷ []) ∷ (0x01 ∷ 0x44 ∷ 0x23 ∷ 0x00 ∷ []) ∷ (0x01 ∷ 0x44 ∷ 0x04 ∷ 0x00 ∷ [])
    ∷ (0x00 ∷ 0x44 ∷ 0x02 ∷ 0x20 ∷ 0x40 ∷ []) ∷ (0x01 ∷ 0x44 ∷ 0x04 ∷ 0x00 ∷ [])
    ∷ (0xFF ∷ 0x00 ∷ 0x00 ∷ 0x00 ∷ 0x03 ∷ 0x00 ∷ 0x00 ∷ 0x00 ∷ 0x46 ∷ 0x00 ∷ 0x00 ∷ 0x00 ∷ replicate 32 0x11 ++ (0x22 ∷ [])) ∷ [])
    -- a PEC that differs is a failure like any other: a read of two bytes whose third attempt ends it, 10 + 20
    ∷ text "040A0200120200\n00112200\n00112200\n00112200\n" "01120300\n01120300\n01120300\nFF030000020000001E000000A5A5\n"
    -- a command with no output, whose frame fails twice; and what was waited for before a reply to a write, and before a line that is no outcome
    ∷ text "05080200003544000000\n02\n02\n00\n" "0044023500\n0044023500\n0044023500\nFF000000020000001E000000\n"
    ∷ text "15080200AABB\n02\n0000\n" "00AABB\n00AABB\nFF090000010000000A000000\n"
    ∷ text "15080200AABB\n02\n03\n" "00AABB\n00AABB\nFF0B0000010000000A000000\n"
    -- a retired kind is 15 before anything else on its line is looked at: a whole line, no other digit, no digits, an odd number, every flag, no line feed;
    -- no line after it is read. 0c and a lone 0 are 11, and so is an outcome line that begins with 0C
    ∷ text "0C030000120200\n001122\n" "FF0F00000000000000000000\n"
    ∷ text "0D03000012AA\n00\n" "FF0F00000000000000000000\n"
    ∷ text "0C\n" "FF0F00000000000000000000\n"
    ∷ text "0CZZ\n" "FF0F00000000000000000000\n"
    ∷ text "0D0\n" "FF0F00000000000000000000\n"
    ∷ text "0DFF\n" "FF0F00000000000000000000\n"
    ∷ text "0D" "FF0F00000000000000000000\n"
    ∷ text "0c000000\n" "FF0B00000000000000000000\n"
    ∷ text "0\n" "FF0B00000000000000000000\n"
    ∷ text "0" "FF0B00000000000000000000\n"
    ∷ run (write ∷ (0x0C ∷ []) ∷ []) [] (sent ∷ over 11 0 0 ∷ [])
    -- 33 bytes to data flash: frames of 36 and 5 bytes, and 32 bytes committed where the second failed
    ∷ run ((0x01 ∷ 0x00 ∷ 0x00 ∷ 0x00 ∷ 0x00 ∷ 0x40 ∷ replicate 33 0xC3) ∷ (0x00 ∷ []) ∷ (0x02 ∷ []) ∷ []) []
    ((0x00 ∷ 0x44 ∷ 0x22 ∷ 0x00 ∷ 0x40 ∷ replicate 32 0xC3) ∷ (0x00 ∷ 0x44 ∷ 0x03 ∷ 0x20 ∷ 0x40 ∷ 0xC3 ∷ []) ∷ over 6 32 0 ∷ [])
    -- counts over 255: 258 bytes asked, and 288 committed
    ∷ run ((0x06 ∷ 0x00 ∷ 0x00 ∷ 0x00 ∷ 0x12 ∷ 0x02 ∷ 0x01 ∷ []) ∷ (0x00 ∷ replicate 258 0x11) ∷ []) [] ((0x01 ∷ 0x12 ∷ 0x02 ∷ 0x01 ∷ []) ∷ (over 0 0 0 ++ replicate 258 0x11) ∷ [])
    ∷ run ((0x01 ∷ 0x00 ∷ 0x00 ∷ 0x00 ∷ 0x00 ∷ 0x40 ∷ replicate 289 0xC3) ∷ (replicate 9 (0x00 ∷ []) ++ ((0x02 ∷ []) ∷ []))) []
    (flash 0x00 0x40 ∷ flash 0x20 0x40 ∷ flash 0x40 0x40 ∷ flash 0x60 0x40 ∷ flash 0x80 0x40 ∷ flash 0xA0 0x40 ∷ flash 0xC0 0x40 ∷ flash 0xE0 0x40 ∷ flash 0x00 0x41
    ∷ (0x00 ∷ 0x44 ∷ 0x03 ∷ 0x20 ∷ 0x41 ∷ 0xC3 ∷ []) ∷ (0xFF ∷ 0x06 ∷ 0x20 ∷ 0x01 ∷ replicate 8 0x00) ∷ [])
    -- the address frame of a read with PEC; the command 443500, high byte first
    ∷ run ((0x02 ∷ 0x02 ∷ 0x00 ∷ 0x00 ∷ 0x00 ∷ 0x40 ∷ 0x01 ∷ 0x00 ∷ []) ∷ []) []
    ((0x00 ∷ 0x44 ∷ 0x02 ∷ 0x00 ∷ 0x40 ∷ 0xAB ∷ []) ∷ (cut 0 ++ (0xA5 ∷ [])) ∷ [])
    ∷ run ((0x05 ∷ 0x00 ∷ 0x00 ∷ 0x00 ∷ 0x00 ∷ 0x35 ∷ 0x44 ∷ 0x00 ∷ 0x00 ∷ 0x00 ∷ []) ∷ (0x00 ∷ []) ∷ []) [] ((0x00 ∷ 0x44 ∷ 0x02 ∷ 0x35 ∷ 0x00 ∷ []) ∷ over 0 0 0 ∷ [])
    -- each kind with the PEC on writes and reads, acknowledged until its last transfer is shown, and cut there (the PECs are those that the Rust sends)
    ∷ run ((0x01 ∷ 0x03 ∷ 0x00 ∷ 0x00 ∷ 0x00 ∷ 0x40 ∷ 0xAA ∷ 0xBB ∷ []) ∷ []) []
    ((0x00 ∷ 0x44 ∷ 0x04 ∷ 0x00 ∷ 0x40 ∷ 0xAA ∷ 0xBB ∷ 0x76 ∷ []) ∷ cut 0 ∷ [])
    ∷ run ((0x02 ∷ 0x03 ∷ 0x00 ∷ 0x00 ∷ 0x00 ∷ 0x40 ∷ 0x01 ∷ 0x00 ∷ []) ∷ (0x00 ∷ []) ∷ []) []
    ((0x00 ∷ 0x44 ∷ 0x02 ∷ 0x00 ∷ 0x40 ∷ 0xAB ∷ []) ∷ (0x01 ∷ 0x44 ∷ 0x24 ∷ 0x00 ∷ []) ∷ (cut 0 ++ (0xA5 ∷ [])) ∷ [])
    ∷ run ((0x03 ∷ 0x03 ∷ 0x00 ∷ 0x00 ∷ 0x12 ∷ 0xAA ∷ []) ∷ []) []
    ((0x00 ∷ 0x12 ∷ 0xAA ∷ 0xFD ∷ []) ∷ cut 0 ∷ [])
    ∷ run ((0x04 ∷ 0x03 ∷ 0x00 ∷ 0x00 ∷ 0x12 ∷ 0x02 ∷ 0x00 ∷ []) ∷ []) []
    ((0x01 ∷ 0x12 ∷ 0x03 ∷ 0x00 ∷ []) ∷ (cut 0 ++ (0xA5 ∷ 0xA5 ∷ [])) ∷ [])
    ∷ run ((0x05 ∷ 0x03 ∷ 0x00 ∷ 0x00 ∷ 0x00 ∷ 0x35 ∷ 0x44 ∷ 0x00 ∷ 0x03 ∷ 0x00 ∷ []) ∷ (0x00 ∷ []) ∷ []) []
    ((0x00 ∷ 0x44 ∷ 0x02 ∷ 0x35 ∷ 0x00 ∷ 0xD4 ∷ []) ∷ (0x01 ∷ 0x44 ∷ 0x07 ∷ 0x00 ∷ []) ∷ (cut 0 ++ (0xA5 ∷ 0xA5 ∷ 0xA5 ∷ [])) ∷ [])
    ∷ run ((0x06 ∷ 0x03 ∷ 0x00 ∷ 0x00 ∷ 0x12 ∷ 0x02 ∷ 0x00 ∷ []) ∷ []) []
    ((0x01 ∷ 0x12 ∷ 0x02 ∷ 0x00 ∷ []) ∷ (cut 0 ++ (0xA5 ∷ 0xA5 ∷ [])) ∷ [])
    ∷ run ((0x07 ∷ 0x03 ∷ 0x00 ∷ 0x00 ∷ 0x12 ∷ 0xAA ∷ []) ∷ []) []
    ((0x00 ∷ 0x12 ∷ 0xAA ∷ 0xFD ∷ []) ∷ cut 0 ∷ [])
    ∷ run ((0x08 ∷ 0x03 ∷ 0x00 ∷ 0x00 ∷ []) ∷ (0x00 ∷ []) ∷ []) []
    ((0x00 ∷ 0x44 ∷ 0x02 ∷ 0x35 ∷ 0x00 ∷ 0xD4 ∷ []) ∷ (0x01 ∷ 0x44 ∷ 0x20 ∷ 0x00 ∷ []) ∷ (cut 0 ++ replicate 28 0xA5) ∷ [])
    ∷ run ((0x09 ∷ 0x03 ∷ 0x00 ∷ 0x00 ∷ replicate 28 0xAA) ∷ []) []
    ((0x00 ∷ 0x44 ∷ 0x1E ∷ 0x35 ∷ 0x00 ∷ replicate 28 0xAA ++ (0x54 ∷ [])) ∷ cut 0 ∷ [])
    ∷ run ((0x0A ∷ 0x03 ∷ 0x00 ∷ 0x00 ∷ []) ∷ (0x00 ∷ []) ∷ []) []
    ((0x00 ∷ 0x44 ∷ 0x02 ∷ 0x37 ∷ 0x00 ∷ 0xFE ∷ []) ∷ (0x01 ∷ 0x44 ∷ 0x14 ∷ 0x00 ∷ []) ∷ (cut 0 ++ replicate 16 0xA5) ∷ [])
    ∷ run ((0x0B ∷ 0x03 ∷ 0x00 ∷ 0x00 ∷ replicate 16 0xAA) ∷ []) []
    ((0x00 ∷ 0x44 ∷ 0x12 ∷ 0x37 ∷ 0x00 ∷ replicate 16 0xAA ++ (0x14 ∷ [])) ∷ cut 0 ∷ [])
    ∷ run ((0x0E ∷ 0x03 ∷ 0x00 ∷ 0x00 ∷ 0x34 ∷ 0x12 ∷ 0x78 ∷ 0x56 ∷ []) ∷ (0x00 ∷ []) ∷ []) []
    ((0x00 ∷ 0x44 ∷ 0x02 ∷ 0x34 ∷ 0x12 ∷ 0xBF ∷ []) ∷ (0x00 ∷ 0x44 ∷ 0x02 ∷ 0x78 ∷ 0x56 ∷ 0xC3 ∷ []) ∷ cut 0 ∷ [])
    ∷ run ((0x0F ∷ 0x03 ∷ 0x00 ∷ 0x00 ∷ 0x03 ∷ 0x00 ∷ []) ∷ (0x00 ∷ []) ∷ []) []
    ((0x00 ∷ 0x44 ∷ 0x02 ∷ 0x7B ∷ 0x00 ∷ 0x59 ∷ []) ∷ (0x01 ∷ 0x44 ∷ 0x24 ∷ 0x00 ∷ []) ∷ (cut 0 ++ (0xA5 ∷ 0xA5 ∷ 0xA5 ∷ [])) ∷ [])
    ∷ run ((0x10 ∷ 0x03 ∷ 0x00 ∷ 0x00 ∷ 0x34 ∷ 0x12 ∷ 0x78 ∷ 0x56 ∷ 0xAA ∷ []) ∷ (0x00 ∷ []) ∷ (0x00 ∷ []) ∷ []) []
    ((0x00 ∷ 0x44 ∷ 0x02 ∷ 0x34 ∷ 0x12 ∷ 0xBF ∷ []) ∷ (0x00 ∷ 0x44 ∷ 0x02 ∷ 0x78 ∷ 0x56 ∷ 0xC3 ∷ []) ∷ (0x00 ∷ 0x44 ∷ 0x03 ∷ 0x7B ∷ 0x00 ∷ 0xAA ∷ 0xC1 ∷ []) ∷ cut 0 ∷ [])
    ∷ run ((0x11 ∷ 0x03 ∷ 0x00 ∷ 0x00 ∷ 0x03 ∷ 0x00 ∷ []) ∷ []) []
    ((0x01 ∷ 0x70 ∷ 0x22 ∷ 0x00 ∷ []) ∷ (cut 0 ++ (0xA5 ∷ 0xA5 ∷ 0xA5 ∷ [])) ∷ [])
    ∷ run ((0x12 ∷ 0x03 ∷ 0x00 ∷ 0x00 ∷ 0xAA ∷ 0xBB ∷ []) ∷ []) []
    ((0x00 ∷ 0x70 ∷ 0x02 ∷ 0xAA ∷ 0xBB ∷ 0x2F ∷ []) ∷ cut 0 ∷ [])
    ∷ run ((0x13 ∷ 0x03 ∷ 0x00 ∷ 0x00 ∷ []) ∷ (0x00 ∷ []) ∷ []) []
    ((0x00 ∷ 0x44 ∷ 0x02 ∷ 0xB0 ∷ 0x00 ∷ 0x23 ∷ []) ∷ (0x01 ∷ 0x44 ∷ 0x0E ∷ 0x00 ∷ []) ∷ (cut 0 ++ replicate 10 0xA5) ∷ [])
    ∷ run ((0x14 ∷ 0x03 ∷ 0x00 ∷ 0x00 ∷ replicate 10 0xAA) ∷ []) []
    ((0x00 ∷ 0x44 ∷ 0x0C ∷ 0xB0 ∷ 0x00 ∷ replicate 10 0xAA ++ (0xF0 ∷ [])) ∷ cut 0 ∷ [])
    ∷ run ((0x15 ∷ 0x03 ∷ 0x00 ∷ 0x00 ∷ 0xAA ∷ 0xBB ∷ []) ∷ []) []
    ((0x00 ∷ 0xAA ∷ 0xBB ∷ 0x6D ∷ []) ∷ cut 0 ∷ [])
    ∷ []

-- each input is printed as its row says
abbrev pub Hold : List Run → Type 0
Hold [] = Unit {0}
Hold (text input output ∷ more) = (printed (ascii input) ≡ ascii output) × Hold more
Hold (run lines rest out ∷ more) = (printed (feeds lines ++ rest) ≡ feeds out) × Hold more

pub runs_hold : Hold runs
unfolding ascii bit_step bit_steps byte_step pec_of when◌then◌else◌ bytes.over bytes.block_in bytes.stored_at bytes.send_of frame.sealed frame.pair_of frame.mac_bytes frame.command_bytes frame.register_bytes frame.info_bytes frame.laid_of frame.work_laid
    reply.plain_ask reply.mac_ask reply.lead_of reply.around_of reply.bytes_asked reply.checked_of reply.heard_of reply.data_of in_window case◌waiting◌ended◌ case◌acknowledged◌error◌timeout◌ case◌retry◌spent◌ budget.wait_of budget.failed budget.nothing budget.waited budget.tallied
    bus.write_of bus.phase_after bus.fits_of limit.windowed limit.commanded limit.measured limit.admitted frames.is_plain frames.is_flash frames.first_address frames.frame_count frames.half_bytes frames.block_bytes frames.info_cbytes frames.bytes_at
    writing.plan_of writing.start_of writing.own_bytes writing.due_bytes writing.shown_of writing.work_shown writing.next_of writing.work_after writing.part_of writing.advance_of writing.gave_up writing.retry_of writing.end_of writing.fail_of writing.settle_of writing.replied_of writing.counted_of writing.report_of
    case◌refused◌fault◌headed◌block◌ parts.has_head parts.head_bytes parts.first_address parts.read_count parts.block_ask parts.ask_of parts.most_of
    reading.plain_plan reading.mac_plan reading.start_of reading.due_ask reading.shown_head reading.work_head reading.shown_of reading.work_shown reading.next_of reading.work_after reading.headed_of reading.advance_of reading.retry_of reading.end_of reading.fail_of reading.heard_head reading.verdict_of reading.heard_block reading.acknowledged_of reading.weigh_of reading.judge_of reading.stored_of reading.counted_of reading.report_of reading.buffer_after
    interface.plain_limit interface.write_with_retries interface.write_register interface.read_register interface.command_reads interface.dispatch_command interface.read_buffer interface.write_buffer
    r5.mac_read r5.mac_write r5.send_access_key r5.write_mfg_info_c r5.whole_ask r5.read_mfg_info_c r5.write_mfg_info r5.read_mfg_info r5.read_dataflash r5.write_dataflash hex.value_of hex.byte_of hex.bytes_of hex.digit_of hex.hex_of input.lines_from input.rest_from
    fields.pair_at fields.quad_at request.two_budgets request.header_bytes request.read_retries request.config_of request.header_of request.unknown_flags request.called_of request.exact_of request.asked_of request.request_line retired_kind outcome.acknowledged_line outcome.error_line outcome.timeout_line outcome.outcome_line
    kind.plan_of calls.start_with calls.start_of calls.next_of calls.work_after calls.part_of calls.wrote_of calls.got_of calls.report_of calls.buffer_after calls.tally_of
    printing.quad_of printing.write_said printing.read_said printing.end_said printing.cut_said dialogue.tell_of dialogue.zeros dialogue.line_shown dialogue.last_of dialogue.unfinished_of
    line.line_bytes line.feed_bytes line.feeds bench.then_say bench.report_then bench.told_then bench.call_lines bench.call_run bench.request_then bench.request_of bench.bench_of printed
runs_hold = (refl, (refl, (refl, (refl, (refl, (refl, (refl, (refl, (refl, (refl, (refl, (refl, (refl, (refl, (refl, (refl, (refl, (refl, (refl, (refl, (refl, (refl, (refl, (refl, (refl, (refl, (refl, (refl, (refl, (refl, (refl, (refl, (refl, (refl, (refl, (refl, (refl, (refl, (refl, (refl, (refl, (refl, (refl, (refl, (refl, (refl, (refl, (refl, (refl, (refl, (refl, (refl, (refl, (refl, (refl, (refl, (refl, (refl, (refl, (refl, (refl, (refl, (refl, (refl, (refl, (refl, (refl, (refl, (refl, (refl, (refl, (refl, (refl, (refl, (refl, (refl, (refl, (refl, (refl, (refl, (refl, (refl, tt))))))))))))))))))))))))))))))))))))))))))))))))))))))))))))))))))))))))))))))))))
