-- What a reply is held to, and where its data goes.
-- Assumes nothing.
use Prim.Native.Nat.{ℕ, ◌+◌, ◌-◌, ◌≤◌, min}
use mathlib.Core.Path.{◌≡◌, refl, sym, ◌∙◌}
use mathlib.Core.List.{List, ◌∷◌, ◌++◌, append-nil, append_assoc}
use mathlib.Core.Bool.{Bool, true, false}
use native.Mathlib.Omega.{arith}
use lib.ListN.{length, take, drop, get_or, length-append, length-take, length-drop}
use lib.Seq.{drop-length, drop-drop, take_all}
use lib.Dec.{eqb}
use borrow.Author.Tests.{le-leb, ne_eqb, eq-eqb, eqb-true, eqb-false}
use Rattle.smbus_pec.specs.Pec.{pec_of}
use Rattle.protocol.specs.Pick.{when◌then◌else◌}
use Rattle.protocol.specs.Bytes.{over, block_in, stored_at}
use Rattle.protocol.specs.declared.error.Answer.{Answer}
use Rattle.original.specs.Bus.{BusOutcome, Log, Ok, Err, Waiting, Read, ◌leaving◌, copied}
use Rattle.protocol.specs.Reply.{plain_ask, mac_ask, lead_of, around_of, bytes_asked, checked_of}

eqb_swap : (a b : ℕ) (t : Bool) → eqb a b ≡ t → eqb b a ≡ eqb a b
eqb_swap a b true e = eq-eqb b a (sym (eqb-true a b e)) ∙ sym e
eqb_swap a b false e = ne_eqb b a (λ z. eqb-false a b e (sym z)) ∙ sym e

-- the last of m + 1 bytes is the PEC of those before it
pub checked_last : (covered m : ℕ) (reply : List ℕ) → length reply ≡ m + 1
    → checked_of covered reply ≡ eqb (get_or reply m 0) (pec_of 0 (0x16 ∷ covered ∷ 0x17 ∷ take m reply))
unfolding checked_of when◌then◌else◌
checked_last covered m reply e =
    let l : eqb (m + 1) 0 ≡ false = ne_eqb (m + 1) 0 (λ z. omega arith) in
    let k : m + 1 - 1 ≡ m = omega arith in
    rw (e, l, k) (eqb_swap (get_or reply m 0) (pec_of 0 (0x16 ∷ covered ∷ 0x17 ∷ take m reply)) _ refl)

pub count_plain : (command wanted : ℕ) (pec : Bool) → (when pec then wanted + 1 else wanted) ≤ 18446744073709551615 → bytes_asked (plain_ask command wanted pec) ≡ (when pec then wanted + 1 else wanted)
unfolding bytes_asked around_of lead_of plain_ask when◌then◌else◌
count_plain command wanted true h = omega arith
count_plain command wanted false h = omega arith

pub count_mac : (command wanted : ℕ) (pec : Bool) → wanted ≤ 32 → bytes_asked (mac_ask command wanted pec) ≡ (when pec then 1 + 2 + wanted + 1 else 1 + 2 + wanted)
unfolding bytes_asked around_of lead_of mac_ask when◌then◌else◌
count_mac command wanted true h = omega arith
count_mac command wanted false h = omega arith

-- a whole buffer is filled
pub stored_whole : (d buffer : List ℕ) → length buffer ≤ length d → stored_at 0 (length buffer) d buffer ≡ take (length buffer) d
unfolding stored_at block_in over when◌then◌else◌
stored_whole d buffer h =
    let k : min (length buffer) (min (length d) (length buffer)) ≡ length buffer = omega arith in
    let l : length (take (length buffer) d) ≡ length buffer = rw length-take (omega arith) in
    rw (le-leb 0 (length buffer) (omega arith), k, l, drop-length, append-nil)

-- what leaves the caller's own bytes, or as many, need not be copied
pub copied_pick : (bytes : List ℕ) (t : Bool) (x y : Read) → copied bytes x ≡ x → copied bytes y ≡ y → copied bytes (when t then x else y) ≡ (when t then x else y)
unfolding when◌then◌else◌
copied_pick bytes true x y p q = p
copied_pick bytes false x y p q = q

pub copied_ok : (bytes filled : List ℕ) (log : Log) (outcomes : List BusOutcome) → length filled ≤ length bytes → copied bytes (Ok log outcomes leaving filled) ≡ (Ok log outcomes leaving filled)
unfolding copied
copied_ok bytes filled log outcomes h = rw (take_all (length bytes) filled h)

pub copied_err : (bytes : List ℕ) (e : Answer) (log : Log) (outcomes : List BusOutcome) → copied bytes (Err e log outcomes leaving bytes) ≡ (Err e log outcomes leaving bytes)
unfolding copied
copied_err bytes e log outcomes = refl

pub take_short_of : (n : ℕ) (l : List ℕ) → length (take n l) ≤ n
take_short_of n l = rw length-take (omega arith)

pub copied_waiting : (bytes : List ℕ) (log : Log) → copied bytes (Waiting log leaving bytes) ≡ (Waiting log leaving bytes)
unfolding copied
copied_waiting bytes log = refl

-- a block goes into the middle of a buffer
pub stored_chunk : (start k : ℕ) (d buffer : List ℕ) → start ≤ length buffer → min 32 (min (length d) (length buffer - start)) ≡ k → stored_at start 32 d buffer ≡ take start buffer ++ take k d ++ drop (start + k) buffer
unfolding stored_at block_in over when◌then◌else◌
stored_chunk start k d buffer h e =
    let l : length (take k d) ≡ k = rw length-take (omega arith) in
    let r : length (drop start buffer) ≡ length buffer - start = length-drop start buffer in
    rw (le-leb start (length buffer) h, r, e, l, drop-drop, append_assoc)

pub length_chunk : (start k : ℕ) (d buffer : List ℕ) → start + k ≤ length buffer → k ≤ length d → length (take start buffer ++ take k d ++ drop (start + k) buffer) ≡ length buffer
length_chunk start k d buffer h e = simp (length-append, length-take, length-drop) (omega arith)
