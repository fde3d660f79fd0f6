-- A step of a run put together from what its calls gave.
-- Assumes nothing.
use Rattle.engine.specs.Bus.{Reported}
use Prim.Native.Nat.{ℕ, min}
use mathlib.Core.Path.{◌≡◌, refl, ap, ◌∙◌}
use mathlib.Core.List.{List, ◌++◌}
use native.Mathlib.Omega.{arith}
use lib.ListN.{length, take, drop, length-take}
use lib.Seq.{take_at}
use Rattle.hexadecimal.specs.Hex.{out_decoded}
use Rattle.hexadecimal.specs.declared.DecodeError.{DecodeError}
use Rattle.std.proofs.lemmas.List.{drop_min}
use Rattle.std.specs.Prelude.{Result, Ok, Err}
use Rattle.std.specs.Result.{result_unwrap_or}
use Rattle.protocol.proofs.Laws.{take_short}
use Rattle.calls.specs.Call.{start_of}
use Rattle.requests.specs.declared.request.Asked.{Asked}
use Rattle.calls.specs.declared.call.Call.{Call}
use Rattle.dialogue.specs.Dialogue.{filled, count_in, byte_count, bytes_in, say_of, room_for, open_of, hear_of, hear_buffer, payload_in, go_on, go_buffer}
use Rattle.dialogue.specs.declared.Place.{Place}
use Rattle.dialogue.proofs.Kept.{length_filled, length_heard}

-- the front of what was decoded
pub bytes_in_lem : (line bytes after front : List ℕ) (n : ℕ) → n ≡ byte_count line (length bytes) → after ≡ out_decoded line bytes → front ≡ take n after → front ≡ bytes_in line bytes
unfolding bytes_in
bytes_in_lem line bytes after front n p q e = e ∙ rw (p, q)

-- a count of bytes, or none of a line that has no bytes
pub count_or_none : (r : Result ℕ DecodeError) → result_unwrap_or r 0 ≡ count_in r
unfolding count_in
count_or_none (Ok n) = refl
count_or_none (Err e) = refl

-- a call that was started
pub opened : (q : Asked) (line buffer after payload own : List ℕ) (call : Call) (rep : Reported Call)
    → after ≡ filled q.len buffer → payload ≡ drop q.at line → own ≡ take q.len after
    → call ≡ start_of q.kind q.config (length payload) (length own) 39 → rep ≡ room_for call q.len (length after)
    → say_of rep (record { at = q.at; payload = length payload; buffer = q.len }) payload own ≡ open_of q line buffer
unfolding open_of
opened q line buffer after payload own call rep a p o s r =
    let m : length after ≡ length buffer = ap length a ∙ length_filled q.len buffer in
    let k : length own ≡ min q.len (length buffer) = ap length o ∙ rw (length-take, m) in
    rw (r, s, k, m, p, o, a)

-- a call that goes on, whose buffer is the first k bytes of those that are lent
pub went_on : (call : Call) (place : Place) (line request buffer payload front ys : List ℕ) (rep : Reported Call) (k : ℕ)
    → payload ≡ payload_in place request → k ≡ min place.buffer (length buffer) → rep ≡ hear_of call line (length payload) (length (take k buffer))
    → ys ≡ hear_buffer call line (take k buffer) → front ≡ take k (ys ++ drop k buffer)
    → (say_of rep place payload front ≡ go_on call place line request buffer) × (ys ++ drop k buffer ≡ go_buffer call place line buffer)
unfolding go_on go_buffer
went_on call place line request buffer payload front ys rep k p m r y f =
    let t : take k buffer ≡ take place.buffer buffer = rw m (take_short place.buffer buffer) in
    let d : drop k buffer ≡ drop place.buffer buffer = rw m (drop_min place.buffer buffer) in
    let n : length (take k buffer) ≡ k = rw length-take (omega arith) in
    let l : length ys ≡ k = ap length y ∙ length_heard call line (take k buffer) ∙ n in
    let g : front ≡ hear_buffer call line (take place.buffer buffer) = f ∙ take_at ys (drop k buffer) k l ∙ y ∙ rw t in
    let q : rep ≡ hear_of call line (length (payload_in place request)) (min place.buffer (length buffer)) = r ∙ rw (n, m, p) in
    (rw (q, g, p), rw (d, y, t))
