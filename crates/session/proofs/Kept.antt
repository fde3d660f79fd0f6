-- What is lent keeps its length from turn to turn.
-- Assumes nothing.
use Prim.Native.Nat.{ℕ, ◌+◌, ◌*◌, ◌≤◌}
use mathlib.Core.Path.{◌≡◌, refl}
use mathlib.Core.Bool.{Bool, true, false}
use mathlib.Core.List.{List, ◌++◌}
use native.Mathlib.Omega.{arith}
use lib.ListN.{length, take, drop, length-append, length-take, length-drop}
use lib.Seq.{length-take-le}
use lib.Dec.{leb}
use borrow.Author.Tests.{leb-true}
use Rattle.hexadecimal.specs.Hex.{out_decoded}
use Rattle.hexadecimal.specs.Line.{feed_bytes}
use Rattle.protocol.specs.Pick.{when◌then◌else◌}
use Rattle.protocol.specs.Bytes.{over}
use Rattle.protocol.proofs.Laws.{length_over}
use Rattle.std.specs.Prelude.{Ok, Err}
use Rattle.requests.specs.Request.{Request, request_line}
use Rattle.requests.specs.Retired.{retired_kind}
use Rattle.printing.specs.Printing.{out_printed}
use Rattle.printing.proofs.Laws.{length_feed}
use Rattle.dialogue.specs.Dialogue as dialogue
use Rattle.dialogue.specs.declared.Run.{Run}
use Rattle.dialogue.specs.declared.Run.TheVariants as run
use Rattle.dialogue.proofs.Kept.{length_decoded, length_heard, length_filled}

pub length_request : (r : Run) (line R : List ℕ) → length (dialogue.request_after r line R) ≡ length R
unfolding dialogue.request_after dialogue.first_request when◌then◌else◌
length_request run.Fresh line R = by (retired_kind line)
  where
    by : (t : Bool) → length (when t then R else out_decoded line R) ≡ length R
    by true = refl
    by false = length_decoded line R
length_request (run.Call call place) line R = refl

pub length_outcome : (r : Run) (line Y : List ℕ) → length (dialogue.outcome_after r line Y) ≡ length Y
unfolding dialogue.outcome_after
length_outcome run.Fresh line Y = refl
length_outcome (run.Call call place) line Y = length_decoded line Y

length_begin : (q : Request) (B : List ℕ) → length (dialogue.fill_by q B) ≡ length B
unfolding dialogue.fill_by
length_begin (Ok q) B = length_filled q.len B
length_begin (Err a) B = refl

pub length_buffer : (r : Run) (line R Y B : List ℕ) → length (dialogue.buffer_after r line R Y B) ≡ length B
unfolding dialogue.buffer_after dialogue.first_buffer dialogue.begin_buffer dialogue.go_buffer when◌then◌else◌
length_buffer run.Fresh line R Y B = by (retired_kind line)
  where
    by : (t : Bool) → length (when t then B else dialogue.fill_by (request_line (dialogue.bytes_in line R)) B) ≡ length B
    by true = refl
    by false = length_begin (request_line (dialogue.bytes_in line R)) B
length_buffer (run.Call call place) line R Y B = rw (length-append, length_heard, length-take, length-drop) (omega arith)

length_printed : (s out : List ℕ) → length (out_printed s out) ≡ length out
unfolding out_printed when◌then◌else◌
length_printed s out = by (leb (length s * 2 + 1) (length out)) refl
  where
    by : (t : Bool) → leb (length s * 2 + 1) (length out) ≡ t → length (when t then over (feed_bytes s) out else out) ≡ length out
    by true e = length_over (feed_bytes s) out (omega (arith, leb-true (length s * 2 + 1) (length out) e, length_feed s))
    by false e = refl

pub length_laid : (laid : ℕ) (s out : List ℕ) → laid ≤ length out → length (take laid out ++ out_printed s (drop laid out)) ≡ length out
length_laid laid s out h = rw (length-append, length_printed, length-take-le laid out h, length-drop) (omega arith)
