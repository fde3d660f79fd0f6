-- The bench program over the Rust's functions: the transfers that its function lists for the outcomes, then its answer, waits, how long they were, and buffer.
-- (01, The bench program; 02, W-203)
-- Assumes nothing.
use Rattle.std.specs.Prelude.{ℕ, ◌+◌, List, [], ◌∷◌, ◌++◌, length, take, ltb, eqb}
use Rattle.protocol.specs.Pick.{when◌then◌else◌}
use Rattle.protocol.specs.Answer.{number_of, detail_of}
use Rattle.protocol.specs.declared.error.Answer.{Answer}
use Rattle.protocol.specs.declared.error.Answer.TheVariants as answer
use Rattle.lines.specs.Input.{lines_from, rest_from}
use Rattle.hexadecimal.specs.Line.{line_bytes, feeds}
use Rattle.original.specs.Bus.{BusOutcome, Acknowledged, BusError, Timeout, Made, write, read, brings, Log, Ok, Err, Waiting, Read, ◌leaving◌}
use Rattle.bench_promises.specs.Numbers.{low_first}
use Rattle.bench_promises.specs.Kinds.{Asked, bad, retired, call, asked_line, asked_cut}

-- ---- what is printed

-- a write: 00 and the frame; a read: 01, the command and a two-byte count
unfoldable pub transfer_line : Made → List ℕ
transfer_line (write frame) = 0x00 ∷ frame
transfer_line (read command count) = 0x01 ∷ command ∷ low_first 2 count

unfoldable pub transfer_lines : List Made → List (List ℕ)
transfer_lines [] = []
transfer_lines (t ∷ ts) = transfer_line t ∷ transfer_lines ts

-- the end: FF, the answer, its two-byte detail, the wait count and the milliseconds of the waits in four bytes each, and the buffer
unfoldable pub end_line : Answer → (waits ms : ℕ) → List ℕ → List ℕ
end_line a waits ms buffer = 0xFF ∷ number_of a ∷ low_first 2 (detail_of a) ++ low_first 4 waits ++ low_first 4 ms ++ buffer

-- no outcomes left: FE, the waits, their milliseconds and the buffer; a last line that lacks its line feed is bad
unfoldable pub cut_line : List ℕ → (waits ms : ℕ) → List ℕ → List ℕ
cut_line [] waits ms buffer = 0xFE ∷ low_first 4 waits ++ low_first 4 ms ++ buffer
cut_line (b ∷ rest) waits ms buffer = end_line answer.BadLine waits ms buffer

-- ---- outcome lines

-- what is heard of one: an outcome, or why the run is stopped
pub data Heard : Type 0 where
  outcome : BusOutcome → Heard
  stopped : Answer → Heard

-- 00 and a reply: over 8,192 bytes the line is bad, and of another length than the number asked it is a wrong reply
unfoldable pub acknowledged_by : ℕ → List ℕ → Heard
acknowledged_by asked reply =
    when ltb 8192 (length reply) then stopped answer.BadLine else
    when eqb (length reply) asked then outcome (Acknowledged reply) else stopped answer.WrongReply

-- 01 and a code
unfoldable pub error_by : List ℕ → Heard
error_by [] = stopped answer.BadLine
error_by (code ∷ []) = outcome (BusError code)
error_by (code ∷ b ∷ more) = stopped answer.BadLine

-- 02
unfoldable pub timeout_by : List ℕ → Heard
timeout_by [] = outcome Timeout
timeout_by (b ∷ more) = stopped answer.BadLine

unfoldable pub heard_in : ℕ → List ℕ → Heard
heard_in asked [] = stopped answer.BadLine
heard_in asked (b ∷ s) =
    when eqb b 0 then acknowledged_by asked s else
    when eqb b 1 then error_by s else
    when eqb b 2 then timeout_by s else stopped answer.BadLine

-- how many bytes the last transfer asks for
unfoldable pub last_asks : List Made → ℕ
last_asks [] = 0
last_asks (t ∷ []) = brings t
last_asks (t ∷ u ∷ ts) = last_asks (u ∷ ts)

-- ---- the run

-- the transfers that were made, and a last line
abbrev closed : Log → List ℕ → List (List ℕ)
closed log line = transfer_lines log.transfers ++ (line ∷ [])

-- a function of the Rust that is given all outcomes so far has ended, with waits of so many milliseconds, or it waits for the one of its last transfer
infixr 10 came_to◌lasting◌waiting◌
unfoldable pub came_to◌lasting◌waiting◌ : Read → ℕ → (Log → List ℕ → List (List ℕ)) → List (List ℕ)
came_to (Ok log os leaving buffer) lasting ms waiting f = closed log (end_line answer.Done log.waits ms buffer)
came_to (Err a log os leaving buffer) lasting ms waiting f = closed log (end_line a log.waits ms buffer)
came_to (Waiting log leaving buffer) lasting ms waiting f = f log buffer

infixr 10 heard◌goes◌stops◌
unfoldable pub heard◌goes◌stops◌ : Heard → (BusOutcome → List (List ℕ)) → (Answer → List (List ℕ)) → List (List ℕ)
heard outcome o goes f stops g = f o
heard stopped a goes f stops g = g a

-- all that is printed of a run: `os` are the outcomes so far, `lines` those to come, and `rest` follows the last line feed
unfoldable pub run_of : (rust : List BusOutcome → Read) (ms : List BusOutcome → ℕ) → (os : List BusOutcome) → (lines : List (List ℕ)) → (rest : List ℕ) → List (List ℕ)
run_of rust ms os [] rest =
    came_to rust os lasting ms os
    waiting (λ log buffer. closed log (cut_line rest log.waits (ms os) buffer))
run_of rust ms os (line ∷ lines) rest =
    came_to rust os lasting ms os
    waiting (λ log buffer. heard heard_in (last_asks log.transfers) (line_bytes line)
    goes (λ o. run_of rust ms (os ++ (o ∷ [])) lines rest)
    stops (λ a. closed log (end_line a log.waits (ms os) buffer)))

-- a bad request line has no waits, no milliseconds and no buffer, and so has one of a retired kind
unfoldable pub run_asked : Asked → List (List ℕ) → List ℕ → List (List ℕ)
run_asked bad lines rest = end_line answer.BadLine 0 0 [] ∷ []
run_asked retired lines rest = end_line answer.RetiredKind 0 0 [] ∷ []
run_asked (call rust ms) lines rest = run_of rust ms [] lines rest

-- from the lines of the input, and what follows its last line feed, to the lines that are printed
unfoldable pub rust_bench : List (List ℕ) → List ℕ → List (List ℕ)
rust_bench [] rest = run_asked (asked_cut rest) [] rest
rust_bench (line ∷ lines) rest = run_asked (asked_line line) lines rest

-- and as bytes, in hexadecimal
unfoldable pub rust_printed : List ℕ → List ℕ
rust_printed input = feeds (rust_bench (lines_from [] input) (rest_from [] input))

-- the digits of the longest line that is valid, a request's of 8,204 bytes
abbrev pub longest_digits : ℕ
longest_digits = 16408

-- one line more, where what follows the last line feed is already longer
abbrev early : List ℕ → ℕ
early rest = when ltb longest_digits (length rest) then 1 else 0

-- the same for an input that may go on: a line for each line that is whole, and for one that is begun and is too long already
unfoldable pub rust_so_far : List ℕ → List ℕ
rust_so_far input = feeds (take (length (lines_from [] input) + early (rest_from [] input)) (rust_bench (lines_from [] input) (rest_from [] input)))
