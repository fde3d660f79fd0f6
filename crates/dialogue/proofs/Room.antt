-- Every line of the bench has room where the longest has, so that it is printed whole.
-- Assumes nothing.
use Rattle.engine.specs.Bus.{sent_by, Reported}
use Rattle.std.specs.Prelude.{Err, Ok}
use Prim.Native.Nat.{ℕ, ◌+◌, ◌*◌, ◌≤◌}
use mathlib.Core.Path.{◌≡◌, refl, sym, subst}
use mathlib.Core.Bool.{Bool, true, false}
use mathlib.Core.List.{List, [], ◌∷◌}
use native.Mathlib.Omega.{arith}
use lib.ListN.{length, take, drop, replicate, length-take, length-drop, length-replicate}
use lib.Dec.{eqb}
use borrow.Author.Tests.{le-leb}
use Rattle.protocol.specs.Pick.{when◌then◌else◌}
use Rattle.protocol.specs.Bytes.{send_of}
use Rattle.protocol.specs.Frame.{pair_of}
use Rattle.protocol.proofs.Laws.{take_over}
use Rattle.protocol.specs.declared.error.Answer.{Answer}
use Rattle.protocol.specs.declared.error.Answer.TheVariants as answer
use Rattle.engine.specs.Budget.{nothing}
use Rattle.engine.specs.declared.budget.Tally.{Tally}
use Rattle.engine.specs.declared.bus.Transfer.{Transfer}
use Rattle.engine.specs.declared.bus.Transfer.TheVariants as transfer
use Rattle.writing.specs.Writing as writing
use Rattle.writing.proofs.Shown.{write_work}
use Rattle.reading.proofs.Shown.{read_work}
use Rattle.calls.specs.Call.{next_of, work_after, part_of, report_of, buffer_after, tally_of}
use Rattle.calls.specs.declared.call.Call.{Call}
use Rattle.calls.specs.declared.call.Call.TheVariants as call
use Rattle.requests.specs.Request.{Request, request_line}
use Rattle.requests.specs.Retired.{retired_kind}
use Rattle.requests.proofs.Small.{Small, small_request}
use Rattle.printing.specs.Printing.{printed_of, out_printed, quad_of, write_said, read_said, end_said, cut_said, longest_said}
use Rattle.dialogue.specs.Dialogue.{bytes_said, tell_of, zeros, line_shown, last_of, unfinished_of, close_of}
use Rattle.dialogue.specs.declared.Run.{Run}
use Rattle.dialogue.specs.declared.Run.TheVariants as run
use Rattle.hexadecimal.specs.Line.{line_bytes, feed_bytes}
use Rattle.dialogue.specs.Bench.{call_run, request_then, request_of, bench_of}
use Rattle.dialogue.proofs.Kept.{length_after}
use Rattle.dialogue.proofs.EachLine.{All, GoodAfter, each_run}

-- no longer than the longest
abbrev pub Short : List ℕ → Type 0
Short s = length s ≤ longest_said

abbrev pub AllShort : List (List ℕ) → Type 0
AllShort lines = All Short lines

-- where the longest has room as digits and a line feed, a short line is printed whole
pub printed_whole : (s out : List ℕ) → Short s → longest_said * 2 + 1 ≤ length out → (printed_of s (length out) ≡ length (feed_bytes s)) × (take (length (feed_bytes s)) (out_printed s out) ≡ feed_bytes s)
unfolding printed_of out_printed when◌then◌else◌
printed_whole s out h e =
    let fits : length s * 2 + 1 ≤ length out = omega arith in
    rw (le-leb (length s * 2 + 1) (length out) fits) (refl, take_over (feed_bytes s) out)

short_end : (a : Answer) (tally : Tally) (buffer : List ℕ) → length buffer ≤ 8192 → Short (end_said a tally buffer)
unfolding end_said pair_of quad_of
short_end a tally buffer h = omega arith

short_last : (tally : Tally) (left : ℕ) (buffer : List ℕ) → length buffer ≤ 8192 → Short (last_of tally left buffer)
unfolding last_of when◌then◌else◌ cut_said quad_of
short_last tally left buffer h = by (eqb left 0)
  where
    by : (t : Bool) → Short (when t then cut_said tally buffer else end_said answer.BadLine tally buffer)
    by true = omega arith
    by false = short_end answer.BadLine tally buffer h

pub short_close : (r : Run) (line buffer : List ℕ) → length buffer ≤ 8192 → Short (close_of r line buffer)
unfolding close_of
short_close run.Fresh line buffer h = short_end (unfinished_of line) nothing [] (omega arith)
short_close (run.Call call place) line buffer h = short_last (tally_of call) (length line) (take place.buffer buffer) (rw length-take (omega arith))

short_tell : (t : Transfer) (frame : List ℕ) (tally : Tally) (buffer : List ℕ) → length frame ≤ 8192 → length buffer ≤ 8192 → Short (bytes_said (tell_of t frame tally buffer))
unfolding tell_of bytes_said write_said read_said pair_of
short_tell (transfer.Write n) frame tally buffer f b = omega arith
short_tell (transfer.Read command n) frame tally buffer f b = omega arith
short_tell (transfer.Refused a) frame tally buffer f b = short_end a tally buffer b
short_tell (transfer.Ended a) frame tally buffer f b = short_end a tally buffer b

length_front : (n : ℕ) (s : List ℕ) → length s ≤ 8192 → length (take n s) ≤ 8192
length_front n s h = rw length-take (omega arith)

length_part : (c : Call) (payload work : List ℕ) (n : ℕ) → length payload ≤ 8192 → length work ≤ 8192 → length (part_of c payload work n) ≤ 8192
unfolding part_of writing.part_of send_of when◌then◌else◌
length_part (call.Write c) payload work n p w = by (writing.own_bytes c)
  where
    by : (o : Bool) → length (when o then take n payload else take n work) ≤ 8192
    by true = length_front n payload p
    by false = length_front n work w
length_part (call.Read c) payload work n p w = length_front n work w

length_work : (c : Call) (payload : List ℕ) (n : ℕ) → length (work_after c payload n zeros) ≤ 8192
unfolding work_after zeros
length_work (call.Write c) payload n = rw write_work (omega arith)
length_work (call.Read c) payload n = rw read_work (omega arith)

short_line : (c : Call) (payload buffer : List ℕ) → length payload ≤ 8192 → length buffer ≤ 8192 → Short (bytes_said (line_shown c payload buffer))
unfolding line_shown
short_line c payload buffer p b =
    short_tell (next_of c payload (length buffer) 39) _ (tally_of c) buffer
    (length_part c payload (work_after c payload (length buffer) zeros) (sent_by (next_of c payload (length buffer) 39)) p (length_work c payload (length buffer))) b

-- a report leaves the buffer as long as it was
short_after : (payload : List ℕ) (u : Reported Call) (buffer : List ℕ) → length buffer ≤ 8192 → GoodAfter Short (λ c after. length after ≤ 8192) payload u buffer
short_after payload (Err (a, c)) buffer b = short_end a (tally_of c) buffer b
short_after payload (Ok c) buffer b = b

short_run : (payload : List ℕ) → length payload ≤ 8192 → (lines : List (List ℕ)) (c : Call) (buffer rest : List ℕ) → length buffer ≤ 8192
    → AllShort (call_run c payload buffer lines rest)
short_run payload p =
    each_run Short (λ c buffer. length buffer ≤ 8192) payload
    (λ c buffer b. short_line c payload buffer p b)
    (λ c buffer b left. short_last (tally_of c) left buffer b)
    (λ c buffer b. short_end answer.BadLine (tally_of c) buffer b)
    (λ c buffer b o reply.
    let k : length (buffer_after c o reply buffer 39) ≤ 8192 = rw length_after b in
    short_after payload (report_of c o reply (length payload) (length buffer) 39) (buffer_after c o reply buffer 39) k)

short_request : (q : Request) (bytes : List ℕ) (lines : List (List ℕ)) (rest : List ℕ) → Small (length bytes) q → AllShort (request_then q bytes lines rest)
unfolding request_then
short_request (Ok q) bytes lines rest h =
    let p : length (drop q.at bytes) ≤ 8192 = rw length-drop h.0 in
    let fill : List ℕ = replicate q.len 0xA5 in
    let b : length fill ≤ 8192 = subst (λ (m : ℕ). m ≤ 8192) (sym (length-replicate q.len 0xA5)) h.1 in
    short_run (drop q.at bytes) p lines _ fill rest b
short_request (Err a) bytes lines rest h = (short_end a nothing [] (omega arith), tt)

small_asked : (line : List ℕ) → Small (length (line_bytes line)) (request_of line)
unfolding request_of when◌then◌else◌
small_asked line = by (retired_kind line)
  where
    by : (t : Bool) → Small (length (line_bytes line)) (when t then Err answer.RetiredKind else request_line (line_bytes line))
    by true = tt
    by false = small_request (line_bytes line)

-- every line of the bench
pub all_short : (lines : List (List ℕ)) (rest : List ℕ) → AllShort (bench_of lines rest)
unfolding bench_of
all_short [] rest = (short_end (unfinished_of rest) nothing [] (omega arith), tt)
all_short (line ∷ lines) rest = short_request (request_of line) (line_bytes line) lines rest (small_asked line)
