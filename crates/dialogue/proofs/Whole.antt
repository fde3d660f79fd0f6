-- What the proved functions print for a list of lines is what the definition of the whole bench says.
-- Assumes nothing.
use Rattle.engine.specs.Bus.{Reported}
use Prim.Native.Nat.{ℕ, ◌≤◌, min}
use mathlib.Core.Path.{◌≡◌, refl, sym, ap, ◌∙◌}
use mathlib.Core.Bool.{Bool, true, false}
use mathlib.Core.List.{List, [], ◌∷◌, ◌++◌}
use mathlib.Core.Logic.{◌⊎◌, inl, inr, ⊎_elim}
use native.Mathlib.Omega.{arith}
use lib.ListN.{length, take, drop, length-append, length-drop, take-append-drop}
use lib.Seq.{length-take-le, take_at}
use borrow.Author.Tests.{le-leb}
use Rattle.hexadecimal.specs.Hex.{out_decoded}
use Rattle.protocol.specs.Pick.{when◌then◌else◌}
use Rattle.calls.specs.Call as calls
use Rattle.calls.specs.declared.call.Call.{Call}
use Rattle.requests.specs.Outcome.{outcome_line}
use Rattle.requests.specs.Request.{Request, bad, longest_request, request_line}
use Rattle.requests.specs.Retired.{retired_kind}
use Rattle.engine.specs.declared.bus.Outcome.{Outcome}
use Rattle.std.specs.Prelude.{Option, Some, None, Ok, Err}
use Rattle.requests.proofs.Long.{empty_request, long_request, long_outcome}
use Rattle.requests.proofs.Small.{Small, small_request}
use Rattle.dialogue.specs.Dialogue as dialogue
use Rattle.dialogue.specs.declared.Place.{Place}
use Rattle.dialogue.specs.declared.Run.TheVariants as run
use Rattle.hexadecimal.specs.Line.{line_bytes}
use Rattle.dialogue.specs.Bench.{then_say, report_then, told_then, call_lines, call_run, request_then, request_of, bench_of}
use Rattle.dialogue.proofs.Machine.{machine_of}
use Rattle.dialogue.proofs.Lines.{decoded_line}
use Rattle.dialogue.proofs.Kept.{length_decoded, length_after, length_filled, filled_front, payload_in_lem}

-- the rest of a run, from a line that is answered on
onward : dialogue.Spoken → List ℕ → List ℕ → List ℕ → List (List ℕ) → List ℕ → List (List ℕ)
onward s R Y B lines rest = then_say s.saying (machine_of s.run R Y B lines rest)

-- an outcome line is decoded to its bytes, or is bad either way
heard_line : (line Y : List ℕ) → 8193 ≤ length Y
    → (dialogue.bytes_in line Y ≡ line_bytes line) ⊎ ((outcome_line (dialogue.bytes_in line Y) ≡ None) × (outcome_line (line_bytes line) ≡ None))
unfolding outcome_line when◌then◌else◌
heard_line line Y h =
    ⊎_elim (λ e. inl e)
    (λ p. inr (ap outcome_line p.0, long_outcome (line_bytes line) (omega (arith, p.1))))
    (decoded_line line Y)

-- a call with its payload and its own buffer, and what follows that in B
module _ (R Y B : List ℕ) (place : Place) (lines : List (List ℕ)) (rest : List ℕ) (fits : place.buffer ≤ length B)
    (more : (after : List ℕ) (call : Call) → length after ≡ length B
    → machine_of (run.Call call place) R Y after lines rest ≡ call_lines call (dialogue.payload_in place R) (take place.buffer after) lines rest) where
  abbrev next : Call → List ℕ → List (List ℕ)
  next call after = then_say (dialogue.line_shown call (dialogue.payload_in place R) after) (call_lines call (dialogue.payload_in place R) after lines rest)

  reported_on : (u : Reported Call) (H : List ℕ) → length H ≡ place.buffer
      → onward (dialogue.say_of u place (dialogue.payload_in place R) H) R Y (H ++ drop place.buffer B) lines rest ≡ report_then u H next
  unfolding onward dialogue.say_of dialogue.show_of then_say report_then
  reported_on (Err (a, call)) H k = refl
  reported_on (Ok call) H k =
      let w : length (H ++ drop place.buffer B) ≡ length B = rw (length-append, k, length-drop) (omega arith) in
      let m = more (H ++ drop place.buffer B) call w in
      ap (then_say (dialogue.line_shown call (dialogue.payload_in place R) H)) (m ∙ rw (take_at H (drop place.buffer B) place.buffer k))

  told_on : (t : Option Outcome) (call : Call) (l : List ℕ)
      → onward (dialogue.say_of (dialogue.hear_by t call l (length (dialogue.payload_in place R)) place.buffer) place (dialogue.payload_in place R) (dialogue.hear_buffer_by t call l (take place.buffer B)))
      R Y (dialogue.hear_buffer_by t call l (take place.buffer B) ++ drop place.buffer B) lines rest
      ≡ told_then t call (dialogue.payload_in place R) (take place.buffer B) l next
  unfolding onward dialogue.hear_by dialogue.hear_buffer_by dialogue.say_of then_say told_then
  told_on (Some o) call l =
      let m : length (take place.buffer B) ≡ place.buffer = length-take-le place.buffer B fits in
      let H : List ℕ = calls.buffer_after call o (drop 1 l) (take place.buffer B) 39 in
      rw m (reported_on (calls.report_of call o (drop 1 l) (length (dialogue.payload_in place R)) place.buffer 39) H (length_after call o (drop 1 l) (take place.buffer B) 39 ∙ m))
  told_on None call l = refl

  -- the bytes that were decoded, or those of the line
  told_on_line : (call : Call) (l m : List ℕ) → (l ≡ m) ⊎ ((outcome_line l ≡ None) × (outcome_line m ≡ None))
      → onward (dialogue.go_on call place l R B) R Y (dialogue.go_buffer call place l B) lines rest
      ≡ told_then (outcome_line m) call (dialogue.payload_in place R) (take place.buffer B) m next
  unfolding dialogue.go_on dialogue.go_buffer dialogue.hear_of dialogue.hear_buffer dialogue.hear_by dialogue.hear_buffer_by told_then
  told_on_line call l m (inl q) =
      let e : min place.buffer (length B) ≡ place.buffer = omega arith in
      rw (e, q) (told_on (outcome_line m) call m)
  told_on_line call l m (inr q) =
      let e : min place.buffer (length B) ≡ place.buffer = omega arith in
      rw (e, q.0, q.1) (told_on None call l)

-- a call from its first outcome on
call_lines_lem : (lines : List (List ℕ)) (R Y B : List ℕ) (call : Call) (place : Place) (rest : List ℕ) → 8193 ≤ length Y → place.buffer ≤ length B
    → machine_of (run.Call call place) R Y B lines rest ≡ call_lines call (dialogue.payload_in place R) (take place.buffer B) lines rest
unfolding machine_of call_lines dialogue.close_of dialogue.answer_of dialogue.request_after dialogue.outcome_after dialogue.buffer_after onward
call_lines_lem [] R Y B call place rest h fits = refl
call_lines_lem (line ∷ lines) R Y B call place rest h fits =
    let h' : 8193 ≤ length (out_decoded line Y) = rw length_decoded h in
    told_on_line R (out_decoded line Y) B place lines rest fits
    (λ after next e. call_lines_lem lines R (out_decoded line Y) after next place rest h' (rw e fits)) call
    (dialogue.bytes_in line Y) (line_bytes line) (heard_line line Y h)

-- a request line is decoded to its bytes, or is bad either way
asked_line : (line R : List ℕ) → longest_request ≤ length R
    → (dialogue.bytes_in line R ≡ line_bytes line) ⊎ ((request_line (dialogue.bytes_in line R) ≡ bad) × (request_line (line_bytes line) ≡ bad))
asked_line line R h =
    ⊎_elim (λ e. inl e)
    (λ p. inr (ap request_line p.0 ∙ empty_request, long_request (line_bytes line) (omega (arith, p.1))))
    (decoded_line line R)

room_enough : (call : Call) (n room : ℕ) → n ≤ room → dialogue.room_for call n room ≡ Ok call
unfolding dialogue.room_for when◌then◌else◌
room_enough call n room h = rw (le-leb n room h)

-- a run from its request on
begin_on : (q : Request) (l R Y B : List ℕ) (lines : List (List ℕ)) (rest : List ℕ) → Small (length l) q → ((at : ℕ) → take (length (drop at l)) (drop at R) ≡ drop at l)
    → 8193 ≤ length Y → 8192 ≤ length B → onward (dialogue.begin_by q l B) R Y (dialogue.fill_by q B) lines rest ≡ request_then q l lines rest
unfolding onward dialogue.begin_by dialogue.refused_of dialogue.fill_by dialogue.open_of dialogue.say_of dialogue.show_of dialogue.payload_in then_say request_then call_run
begin_on (Ok q) l R Y B lines rest small payload y b =
    let n : ℕ = q.len in
    let fits : n ≤ length B = omega (arith, small.1) in
    let e : min n (length B) ≡ n = omega arith in
    let k : n ≤ length (dialogue.filled n B) = rw length_filled fits in
    let call : Call = calls.start_of q.kind q.config (length (drop q.at l)) n 39 in
    let m = call_lines_lem lines R Y (dialogue.filled n B) call (record { at = q.at; payload = length (drop q.at l); buffer = n }) rest y k in
    rw (e, room_enough call n (length B) fits, m, payload q.at, filled_front n B fits)
begin_on (Err a) l R Y B lines rest small payload y b = refl

-- the payload of the bytes that were decoded
decoded_payload : (line R : List ℕ) (at : ℕ) → take (length (drop at (dialogue.bytes_in line R))) (drop at (out_decoded line R)) ≡ drop at (dialogue.bytes_in line R)
unfolding dialogue.bytes_in
decoded_payload line R at =
    let k : ℕ = dialogue.byte_count line (length R) in
    let D : List ℕ = out_decoded line R in
    ap (λ (w : List ℕ). take (length (drop at (take k D))) (drop at w)) (sym (take-append-drop k D)) ∙ payload_in_lem (take k D) (drop k D) at

begin_on_line : (l m R Y B : List ℕ) (lines : List (List ℕ)) (rest : List ℕ) → ((at : ℕ) → take (length (drop at l)) (drop at R) ≡ drop at l)
    → 8193 ≤ length Y → 8192 ≤ length B → (l ≡ m) ⊎ ((request_line l ≡ bad) × (request_line m ≡ bad))
    → onward (dialogue.begin_of l B) R Y (dialogue.begin_buffer l B) lines rest ≡ request_then (request_line m) m lines rest
unfolding dialogue.begin_of dialogue.begin_buffer dialogue.begin_by request_then
begin_on_line l m R Y B lines rest payload y b (inl q) =
    begin_on (request_line l) l R Y B lines rest (small_request l) payload y b ∙ rw q
begin_on_line l m R Y B lines rest payload y b (inr q) =
    rw (q.0, q.1) (begin_on bad l R Y B lines rest tt payload y b)

-- the whole bench: whatever the lent bytes hold at first
pub whole : (lines : List (List ℕ)) (rest request outcome buffer : List ℕ) → longest_request ≤ length request → 8193 ≤ length outcome → 8192 ≤ length buffer
    → machine_of run.Fresh request outcome buffer lines rest ≡ bench_of lines rest
unfolding machine_of bench_of request_of request_then then_say dialogue.close_of dialogue.answer_of dialogue.request_after dialogue.outcome_after dialogue.buffer_after
    dialogue.first_of dialogue.first_request dialogue.first_buffer dialogue.refused_of onward when◌then◌else◌
whole [] rest R Y B r y b = refl
whole (line ∷ lines) rest R Y B r y b = by (retired_kind line) refl
  where
    by : (t : Bool) → retired_kind line ≡ t → machine_of run.Fresh R Y B (line ∷ lines) rest ≡ bench_of (line ∷ lines) rest
    by true e = rw e
    by false e =
        rw e (begin_on_line (dialogue.bytes_in line R) (line_bytes line) (out_decoded line R) Y B lines rest (decoded_payload line R) y b (asked_line line R r))
