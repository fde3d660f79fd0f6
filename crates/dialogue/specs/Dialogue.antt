-- A run of the bench program, line by line: what a line leads to, and the line that answers it. (01, The bench program)
-- Assumes nothing.
use Rattle.engine.specs.Bus.{Reported, sent_by}
use Rattle.std.specs.Prelude.{ℕ, min, List, [], ◌++◌, length, take, drop, replicate, leb, eqb, Option, Some, None, Result, Ok, Err}
use Rattle.hexadecimal.specs.Hex.{decoded_of, out_decoded}
use Rattle.hexadecimal.specs.declared.DecodeError.{DecodeError}
use Rattle.protocol.specs.Pick.{when◌then◌else◌}
use Rattle.protocol.specs.Bytes.{over}
use Rattle.protocol.specs.declared.error.Answer.{Answer}
use Rattle.protocol.specs.declared.error.Answer.TheVariants as answer
use Rattle.engine.specs.Budget.{nothing}
use Rattle.engine.specs.declared.budget.Tally.{Tally}
use Rattle.engine.specs.declared.bus.Outcome.{Outcome}
use Rattle.engine.specs.declared.bus.Transfer.{Transfer}
use Rattle.engine.specs.declared.bus.Transfer.TheVariants as transfer
use Rattle.calls.specs.Call as calls
use Rattle.calls.specs.declared.call.Call.{Call}
use Rattle.requests.specs.Outcome.{outcome_line}
use Rattle.requests.specs.Request.{Request, request_line}
use Rattle.requests.specs.Retired.{retired_kind}
use Rattle.requests.specs.declared.request.Asked.{Asked}
use Rattle.printing.specs.Printing.{printed_of, write_said, read_said, end_said, cut_said}
use Rattle.dialogue.specs.declared.Place.{Place}
use Rattle.dialogue.specs.declared.Run.{Run}
use Rattle.dialogue.specs.declared.Run.TheVariants as run
use Rattle.dialogue.specs.declared.Said.{Said}
use Rattle.dialogue.specs.declared.Said.TheVariants as said
use Rattle.dialogue.specs.declared.Turned.{Turned}

-- a line of the run, as bytes: a transfer, or the last one
pub data Saying : Type 0 where
  asked : List ℕ → Saying
  last : List ℕ → Saying

unfoldable pub bytes_said : Saying → List ℕ
bytes_said (asked s) = s
bytes_said (last s) = s

-- how much of it is printed where there is room for so many bytes
unfoldable pub said_of : Saying → ℕ → Said
said_of (asked s) room = said.Asked (printed_of s room)
said_of (last s) room = said.Last (printed_of s room)

-- the run after a line, and the line that answers it
pub record Spoken : Type 0 where
  pub run : Run
  pub saying : Saying

unfoldable pub turned_of : Spoken → ℕ → Turned
turned_of s room = record { run = s.run; said = said_of s.saying room }

-- how many bytes a line has; none where it is no hexadecimal, or there is no room
unfoldable pub count_in : Result ℕ DecodeError → ℕ
count_in (Ok n) = n
count_in (Err e) = 0

unfoldable pub byte_count : List ℕ → ℕ → ℕ
byte_count line room = count_in (decoded_of line room)

-- the bytes of a line, where it was decoded over the front of `bytes`
unfoldable pub bytes_in : List ℕ → List ℕ → List ℕ
bytes_in line bytes = take (byte_count line (length bytes)) (out_decoded line bytes)

-- up to n bytes of A5
unfoldable pub filled : ℕ → List ℕ → List ℕ
filled n buffer = over (replicate (min n (length buffer)) 0xA5) buffer

-- a transfer with its frame, or the end of a call with what it counted and its buffer
unfoldable pub tell_of : Transfer → List ℕ → Tally → List ℕ → Saying
tell_of (transfer.Write n) frame tally buffer = asked (write_said frame)
tell_of (transfer.Read command n) frame tally buffer = asked (read_said command n)
tell_of (transfer.Refused a) frame tally buffer = last (end_said a tally buffer)
tell_of (transfer.Ended a) frame tally buffer = last (end_said a tally buffer)

-- the work buffer, fresh at each step
unfoldable pub zeros : List ℕ
zeros = replicate 39 0

-- the line of what a call shows
unfoldable pub line_shown : Call → List ℕ → List ℕ → Saying
line_shown call payload buffer =
    tell_of (calls.next_of call payload (length buffer) 39)
    (calls.part_of call payload (calls.work_after call payload (length buffer) zeros) (sent_by (calls.next_of call payload (length buffer) 39)))
    (calls.tally_of call) buffer

unfoldable pub show_of : Call → Place → List ℕ → List ℕ → Spoken
show_of call place payload buffer = record { run = run.Call call place; saying = line_shown call payload buffer }

-- what came of a start or a report: the next transfer or the end of the call, or why the run is stopped
unfoldable pub say_of : Reported Call → Place → List ℕ → List ℕ → Spoken
say_of (Err (a, call)) place payload buffer = record { run = run.Call call place; saying = last (end_said a (calls.tally_of call) buffer) }
say_of (Ok call) place payload buffer = show_of call place payload buffer

-- 8 where less is lent than a buffer of n bytes
unfoldable pub room_for : Call → ℕ → ℕ → Reported Call
room_for call n room = when leb n room then Ok call else Err (answer.WrongBuffer, call)

-- a call starts, with the rest of the line as its payload and a buffer of so many bytes of those that are lent
unfoldable pub open_of : Asked → List ℕ → List ℕ → Spoken
open_of q line buffer =
    say_of (room_for (calls.start_of q.kind q.config (length (drop q.at line)) (min q.len (length buffer)) 39) q.len (length buffer))
    (record { at = q.at; payload = length (drop q.at line); buffer = q.len }) (drop q.at line) (take q.len (filled q.len buffer))

-- a request line is refused: nothing counted, and no buffer
unfoldable pub refused_of : Answer → Spoken
refused_of a = record { run = run.Fresh; saying = last (end_said a nothing []) }

unfoldable pub begin_by : Request → List ℕ → List ℕ → Spoken
begin_by (Ok q) line buffer = open_of q line buffer
begin_by (Err a) line buffer = refused_of a

unfoldable pub fill_by : Request → List ℕ → List ℕ
fill_by (Ok q) buffer = filled q.len buffer
fill_by (Err a) buffer = buffer

-- the bytes of a request line begin a run, or are refused
unfoldable pub begin_of : List ℕ → List ℕ → Spoken
begin_of line buffer = begin_by (request_line line) line buffer

unfoldable pub begin_buffer : List ℕ → List ℕ → List ℕ
begin_buffer line buffer = fill_by (request_line line) buffer

-- the request line: a retired kind is refused before anything else on it is looked at
unfoldable pub first_of : List ℕ → List ℕ → List ℕ → Spoken
first_of line request buffer = when retired_kind line then refused_of answer.RetiredKind else begin_of (bytes_in line request) buffer

unfoldable pub first_request : List ℕ → List ℕ → List ℕ
first_request line request = when retired_kind line then request else out_decoded line request

unfoldable pub first_buffer : List ℕ → List ℕ → List ℕ → List ℕ
first_buffer line request buffer = when retired_kind line then buffer else begin_buffer (bytes_in line request) buffer

unfoldable pub hear_by : Option Outcome → Call → List ℕ → ℕ → ℕ → Reported Call
hear_by (Some o) call line p n = calls.report_of call o (drop 1 line) p n 39
hear_by None call line p n = Err (answer.BadLine, call)

unfoldable pub hear_buffer_by : Option Outcome → Call → List ℕ → List ℕ → List ℕ
hear_buffer_by (Some o) call line buffer = calls.buffer_after call o (drop 1 line) buffer 39
hear_buffer_by None call line buffer = buffer

-- the bytes of an outcome line go to a call with a payload of p bytes and a buffer of n
unfoldable pub hear_of : Call → List ℕ → ℕ → ℕ → Reported Call
hear_of call line p n = hear_by (outcome_line line) call line p n

unfoldable pub hear_buffer : Call → List ℕ → List ℕ → List ℕ
hear_buffer call line buffer = hear_buffer_by (outcome_line line) call line buffer

-- where a call's payload stands
unfoldable pub payload_in : Place → List ℕ → List ℕ
payload_in place request = take place.payload (drop place.at request)

-- the same with the payload and the buffer where they stand
unfoldable pub go_on : Call → Place → List ℕ → List ℕ → List ℕ → Spoken
go_on call place line request buffer =
    say_of (hear_of call line (length (payload_in place request)) (min place.buffer (length buffer))) place (payload_in place request)
    (hear_buffer call line (take place.buffer buffer))

unfoldable pub go_buffer : Call → Place → List ℕ → List ℕ → List ℕ
go_buffer call place line buffer = hear_buffer call line (take place.buffer buffer) ++ drop place.buffer buffer

-- a line: a request where the run is fresh, and else an outcome
unfoldable pub answer_of : Run → List ℕ → List ℕ → List ℕ → List ℕ → Spoken
answer_of run.Fresh line request outcome buffer = first_of line request buffer
answer_of (run.Call call place) line request outcome buffer = go_on call place (bytes_in line outcome) request buffer

unfoldable pub request_after : Run → List ℕ → List ℕ → List ℕ
request_after run.Fresh line request = first_request line request
request_after (run.Call call place) line request = request

unfoldable pub outcome_after : Run → List ℕ → List ℕ → List ℕ
outcome_after run.Fresh line outcome = outcome
outcome_after (run.Call call place) line outcome = out_decoded line outcome

unfoldable pub buffer_after : Run → List ℕ → List ℕ → List ℕ → List ℕ → List ℕ
buffer_after run.Fresh line request outcome buffer = first_buffer line request buffer
buffer_after (run.Call call place) line request outcome buffer = go_buffer call place (bytes_in line outcome) buffer

-- no outcomes are left, or so many bytes of a last line that lacks its line feed; one that is too long to be held is as bad
unfoldable pub last_of : Tally → ℕ → List ℕ → List ℕ
last_of tally left buffer = when eqb left 0 then cut_said tally buffer else end_said answer.BadLine tally buffer

-- a request line that lacks its line feed, or is too long to be held, is bad, unless its kind is retired
unfoldable pub unfinished_of : List ℕ → Answer
unfinished_of line = when retired_kind line then answer.RetiredKind else answer.BadLine

unfoldable pub close_of : Run → List ℕ → List ℕ → List ℕ
close_of run.Fresh line buffer = end_said (unfinished_of line) nothing []
close_of (run.Call call place) line buffer = last_of (calls.tally_of call) (length line) (take place.buffer buffer)
