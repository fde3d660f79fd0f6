-- What is lent keeps its length: where a line is decoded, where a buffer is filled or a block stored.
-- Assumes nothing.
use Prim.Native.Nat.{ℕ, ◌/◌, ◌%◌, ◌≤◌, ◌<◌, min}
use mathlib.Core.Path.{◌≡◌, refl, sym, ap, ◌∙◌}
use mathlib.Core.Bool.{Bool, true, false}
use mathlib.Core.List.{List, [], ◌++◌}
use native.Mathlib.Omega.{arith}
use lib.ListN.{length, take, drop, replicate, length-append, length-take, length-drop, length-replicate, drop_of_length-le}
use lib.Seq.{drop-append-le, take-append_seam}
use lib.Dec.{ltb, leb, eqb}
use borrow.Author.Tests.{ltb-false, leb-true, leb-false}
use Rattle.hexadecimal.specs.Hex.{bytes_of, out_decoded}
use Rattle.hexadecimal.proofs.Inverse.{length_bytes}
use Rattle.protocol.specs.Pick.{when◌then◌else◌}
use Rattle.protocol.specs.Bytes.{over, block_in, stored_at}
use Rattle.protocol.proofs.Laws.{length_over, take_over}
use Rattle.engine.specs.declared.bus.Outcome.{Outcome}
use Rattle.reading.specs.Pick.{case◌refused◌fault◌headed◌block◌}
use Rattle.reading.specs.Reading as reading
use Rattle.reading.specs.declared.call.ReadCall.{ReadCall}
use Rattle.reading.specs.declared.call.Verdict.{Verdict}
use Rattle.reading.specs.declared.call.Verdict.TheVariants as verdict
use Rattle.calls.specs.Call as calls
use Rattle.calls.specs.declared.call.Call.{Call}
use Rattle.calls.specs.declared.call.Call.TheVariants as call
use Rattle.requests.specs.Outcome.{outcome_line}
use Rattle.std.specs.Prelude.{Option, Some, None}
use Rattle.dialogue.specs.Dialogue.{filled, hear_buffer_by, hear_buffer}

pub length_decoded : (s out : List ℕ) → length (out_decoded s out) ≡ length out
unfolding out_decoded when◌then◌else◌
length_decoded s out = by₁ (eqb (length s % 2) 1)
  where
    by₂ : (t : Bool) → ltb (length out) (length s / 2) ≡ t → length (when t then out else bytes_of s ++ drop (length (bytes_of s)) out) ≡ length out
    by₂ true e = refl
    by₂ false e =
        let h : length s / 2 ≤ length out = ltb-false (length out) (length s / 2) e in
        let k : length (bytes_of s) ≤ length out = omega (arith, length_bytes s) in
        rw (length-append, length-drop) (omega arith)

    by₁ : (t : Bool) → length (when t then out else when ltb (length out) (length s / 2) then out else bytes_of s ++ drop (length (bytes_of s)) out) ≡ length out
    by₁ true = refl
    by₁ false = by₂ (ltb (length out) (length s / 2)) refl

length_block_in : (most : ℕ) (b w : List ℕ) → length (block_in most b w) ≡ length w
unfolding block_in
length_block_in most b w = length_over (take (min most (min (length b) (length w))) b) w (rw length-take (omega arith))

pub length_stored : (at most : ℕ) (b w : List ℕ) → length (stored_at at most b w) ≡ length w
unfolding stored_at when◌then◌else◌
length_stored at most b w = by (leb at (length w)) refl
  where
    by : (t : Bool) → leb at (length w) ≡ t → length (when t then take at w ++ block_in most b (drop at w) else w) ≡ length w
    by true e =
        let h : at ≤ length w = leb-true at (length w) e in
        rw (length-append, length_block_in, length-take, length-drop) (omega arith)
    by false e = refl

length_read : (call : ReadCall) (o : Outcome) (reply buffer : List ℕ) (w : ℕ) → length (reading.buffer_after call o reply buffer w) ≡ length buffer
unfolding reading.buffer_after case◌refused◌fault◌headed◌block◌ reading.stored_of
length_read call o reply buffer w = by (reading.judge_of call o reply (length buffer) w)
  where
    by : (v : Verdict) → length (case◌refused◌fault◌headed◌block◌ v (λ why. buffer) (λ why. buffer) buffer (reading.stored_of call reply buffer)) ≡ length buffer
    by (verdict.Refused a) = refl
    by (verdict.Failed a) = refl
    by verdict.Head = refl
    by verdict.Block = length_stored _ _ _ buffer

pub length_after : (call : Call) (o : Outcome) (reply buffer : List ℕ) (w : ℕ) → length (calls.buffer_after call o reply buffer w) ≡ length buffer
unfolding calls.buffer_after
length_after (call.Write c) o reply buffer w = refl
length_after (call.Read c) o reply buffer w = length_read c o reply buffer w

length_told : (t : Option Outcome) (call : Call) (line buffer : List ℕ) → length (hear_buffer_by t call line buffer) ≡ length buffer
unfolding hear_buffer_by
length_told (Some o) call line buffer = length_after call o (drop 1 line) buffer 39
length_told None call line buffer = refl

pub length_heard : (call : Call) (line buffer : List ℕ) → length (hear_buffer call line buffer) ≡ length buffer
unfolding hear_buffer
length_heard call line buffer = length_told (outcome_line line) call line buffer

-- filling keeps the length
pub length_filled : (n : ℕ) (b : List ℕ) → length (filled n b) ≡ length b
unfolding filled
length_filled n b = length_over (replicate (min n (length b)) 0xA5) b (rw length-replicate (omega arith))

-- a buffer of n bytes of A5
pub filled_front : (n : ℕ) (b : List ℕ) → n ≤ length b → take n (filled n b) ≡ replicate n 0xA5
unfolding filled
filled_front n b h =
    let e : min n (length b) ≡ n = omega arith in
    let f : List ℕ = replicate n 0xA5 in
    let l : length f ≡ n = length-replicate n 0xA5 in
    rw e (ap (λ (k : ℕ). take k (over f b)) (sym l) ∙ take_over f b)

-- the payload stands in the bytes that the line was decoded over
pub payload_in_lem : (line t : List ℕ) (at : ℕ) → take (length (drop at line)) (drop at (line ++ t)) ≡ drop at line
payload_in_lem line t at = by (leb at (length line)) refl
  where
    by : (b : Bool) → leb at (length line) ≡ b → take (length (drop at line)) (drop at (line ++ t)) ≡ drop at line
    by true e = rw (drop-append-le at line t (leb-true at (length line) e)) (take-append_seam (drop at line) t)
    by false e =
        let h : length line < at = leb-false at (length line) e in
        let n : drop at line ≡ [] = drop_of_length-le line {i = at} (omega arith) in
        rw n
