-- The whole bench: from the lines of the input, and what follows its last line feed, to the lines that are printed. (01, The bench program)
-- Assumes nothing.
use Rattle.engine.specs.Bus.{Reported}
use Rattle.std.specs.Prelude.{ℕ, List, [], ◌∷◌, length, drop, replicate, Option, Some, None, Ok, Err}
use Rattle.hexadecimal.specs.Line.{line_bytes}
use Rattle.protocol.specs.Pick.{when◌then◌else◌}
use Rattle.protocol.specs.declared.error.Answer.TheVariants as answer
use Rattle.engine.specs.Budget.{nothing}
use Rattle.engine.specs.declared.bus.Outcome.{Outcome}
use Rattle.calls.specs.Call.{start_of, report_of, buffer_after, tally_of}
use Rattle.calls.specs.declared.call.Call.{Call}
use Rattle.requests.specs.Outcome.{outcome_line}
use Rattle.requests.specs.Request.{Request, request_line}
use Rattle.requests.specs.Retired.{retired_kind}
use Rattle.printing.specs.Printing.{end_said}
use Rattle.dialogue.specs.Dialogue.{Saying, asked, last, line_shown, last_of, unfinished_of}

-- a transfer is printed and the run goes on, or the last line is
unfoldable pub then_say : Saying → List (List ℕ) → List (List ℕ)
then_say (asked s) more = s ∷ more
then_say (last s) more = s ∷ []

-- what a report leads to, with `next` for the call and the buffer that go on
unfoldable pub report_then : Reported Call → List ℕ → (Call → List ℕ → List (List ℕ)) → List (List ℕ)
report_then (Err (a, call)) buffer next = end_said a (tally_of call) buffer ∷ []
report_then (Ok call) buffer next = next call buffer

-- what an outcome line leads to
unfoldable pub told_then : Option Outcome → Call → List ℕ → List ℕ → List ℕ → (Call → List ℕ → List (List ℕ)) → List (List ℕ)
told_then (Some o) call payload buffer bytes next =
    report_then (report_of call o (drop 1 bytes) (length payload) (length buffer) 39) (buffer_after call o (drop 1 bytes) buffer 39) next
told_then None call payload buffer bytes next = end_said answer.BadLine (tally_of call) buffer ∷ []

-- a call that has shown a transfer, from its outcome on
unfoldable pub call_lines : Call → List ℕ → List ℕ → List (List ℕ) → List ℕ → List (List ℕ)
call_lines call payload buffer [] rest = last_of (tally_of call) (length rest) buffer ∷ []
call_lines call payload buffer (line ∷ lines) rest =
    told_then (outcome_line (line_bytes line)) call payload buffer (line_bytes line)
    (λ next after. then_say (line_shown next payload after) (call_lines next payload after lines rest))

-- a call and its transfers
unfoldable pub call_run : Call → List ℕ → List ℕ → List (List ℕ) → List ℕ → List (List ℕ)
call_run call payload buffer lines rest = then_say (line_shown call payload buffer) (call_lines call payload buffer lines rest)

-- the call that a request line asks for, with its payload and a buffer of A5; the answer where it is refused
unfoldable pub request_then : Request → List ℕ → List (List ℕ) → List ℕ → List (List ℕ)
request_then (Ok q) bytes lines rest =
    call_run (start_of q.kind q.config (length (drop q.at bytes)) q.len 39) (drop q.at bytes) (replicate q.len 0xA5) lines rest
request_then (Err a) bytes lines rest = end_said a nothing [] ∷ []

-- what a request line asks for: nothing where its kind is retired, whatever else is on it
unfoldable pub request_of : List ℕ → Request
request_of line = when retired_kind line then Err answer.RetiredKind else request_line (line_bytes line)

-- the bench
unfoldable pub bench_of : List (List ℕ) → List ℕ → List (List ℕ)
bench_of [] rest = end_said (unfinished_of rest) nothing [] ∷ []
bench_of (line ∷ lines) rest = request_then (request_of line) (line_bytes line) lines rest
