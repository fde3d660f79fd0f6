-- What a call's further transfers bring, and where it comes to lie.
-- Assumes nothing.
use Prim.Native.Nat.{ℕ, zero, suc, ◌+◌, ◌-◌, ◌%◌, ◌≤◌, ◌<◌, min}
use mathlib.Core.Path.{◌≡◌, refl, sym, ap, ◌∙◌}
use mathlib.Core.List.{List, [], ◌∷◌, ◌++◌, append_assoc, append-nil}
use mathlib.Core.Bool.{Bool, true, false, not, ◌&&◌}
use native.Mathlib.Nat.{suc-add, zero-add}
use native.Mathlib.Omega.{arith}
use lib.ListN.{length, take, drop, get_or, length-append, length-take}
use lib.Seq.{take-nil, take_all, drop-length, take-append-add}
use lib.Dec.{eqb}
use Rattle.smbus_pec.specs.Pec.{pec_of}
use Rattle.protocol.specs.Pick.{when◌then◌else◌}
use Rattle.protocol.specs.Bytes.{over}
use Rattle.protocol.proofs.Laws.{take_over, drop_over, take_short}
use Rattle.original.specs.Bus.{BusOutcome, Made, Read, transfers_of}
use Rattle.original.specs.Fronts.{Layout, right_pec, data_in, brought, all_brought, buffer_left, gathered, Front}

-- so many bytes dropped of those taken
pub drop_take : (a n : ℕ) (l : List ℕ) → drop a (take (a + n) l) ≡ take n (drop a l)
drop_take zero n l = rw zero-add
drop_take (suc a) n [] = rw (suc-add, take-nil)
drop_take (suc a) n (x ∷ l) = rw suc-add (drop_take a n l)

-- data that fills the buffer
pub over_whole : (d buffer : List ℕ) → length buffer ≤ length d → over (take (length buffer) d) buffer ≡ take (length buffer) d
unfolding over
over_whole d buffer h =
    let l : length (take (length buffer) d) ≡ length buffer = rw length-take (omega arith) in
    rw (l, drop-length, append-nil)

-- one more piece behind what was brought before, as much of it as there is room for
pub over_more : (before piece buffer : List ℕ) (k : ℕ) → length before ≤ length buffer → k ≡ min (length buffer - length before) (length piece)
    → take (length before) (over before buffer) ++ take k piece ++ drop (length before + k) (over before buffer) ≡ over (take (length buffer) (before ++ piece)) buffer
unfolding over
over_more before piece buffer k h e =
    let room : length before + (length buffer - length before) ≡ length buffer = omega arith in
    let t : take (length buffer) (before ++ piece) ≡ before ++ take k piece
    = ap (λ (n : ℕ). take n (before ++ piece)) (sym room) ∙ take-append-add before piece (length buffer - length before)
    ∙ ap (λ (r : List ℕ). before ++ r) (sym (take_short (length buffer - length before) piece) ∙ ap (λ (n : ℕ). take n piece) (sym e)) in
    let l : length (before ++ take k piece) ≡ length before + k = rw (length-append, length-take) (omega arith) in
    rw (t, l, take_over before buffer, drop_over (length before + k) before buffer (omega arith), append_assoc)

-- the data of a reply of m bytes and its PEC, or of m bytes
pub data_in_lem : (layout : Layout) (m : ℕ) (reply : List ℕ) → length reply ≡ (when layout.pec then m + 1 else m)
    → data_in layout reply
    ≡ (when layout.pec && not (eqb (get_or reply m 0) (pec_of 0 (0x16 ∷ layout.command ∷ 0x17 ∷ take m reply))) then [] else drop layout.before (take m reply))
unfolding data_in right_pec when◌then◌else◌
data_in_lem layout m reply e = by layout.pec refl
  where
    weighed : (right : Bool) (d : List ℕ) → (when right then d else []) ≡ (when not right then [] else d)
    weighed true d = refl
    weighed false d = refl

    by : (pec : Bool) → layout.pec ≡ pec
        → data_in layout reply
        ≡ (when layout.pec && not (eqb (get_or reply m 0) (pec_of 0 (0x16 ∷ layout.command ∷ 0x17 ∷ take m reply))) then [] else drop layout.before (take m reply))
    by true p =
        let l : length reply ≡ m + 1 = rw p at e in
        let k : m + 1 - 1 ≡ m = omega arith in
        rw (p, l, k) (weighed (eqb (get_or reply m 0) (pec_of 0 (0x16 ∷ layout.command ∷ 0x17 ∷ take m reply))) (drop layout.before (take m reply)))
    by false p =
        let l : length reply ≡ m = rw p at e in
        rw (p, take_all m reply (omega arith))

-- a PEC is one byte more
pub counted : (pec : Bool) (m : ℕ) → m ≤ (when pec then m + 1 else m)
unfolding when◌then◌else◌
counted true m = omega arith
counted false m = omega arith

-- what a call comes to from here on, with `done` made and `before` brought: the transfers that it adds, and what they bring behind that
pub record Comes (layout : Layout) (buffer before : List ℕ) (done : List Made) (outcomes : List BusOutcome) (r : Read) : Type 0 where
  pub added : List Made
  pub grown : transfers_of r ≡ done ++ added
  pub front : buffer_left r ≡ over (take (length buffer) (before ++ all_brought layout added outcomes)) buffer
  pub whole : length (before ++ all_brought layout added outcomes) < length buffer → length (before ++ all_brought layout added outcomes) % 32 ≡ 0

module _ (layout : Layout) (buffer : List ℕ) where
  -- it has stopped
  pub stopped : (before : List ℕ) (done : List Made) (outcomes : List BusOutcome) (r : Read) → transfers_of r ≡ done → buffer_left r ≡ over (take (length buffer) before) buffer
      → (length before < length buffer → length before % 32 ≡ 0) → Comes layout buffer before done outcomes r
  unfolding all_brought
  stopped before done outcomes r g f w =
      record { added = []; grown = g ∙ sym (append-nil done); front = rw append-nil f; whole = rw append-nil w }

  -- it waits for the outcome of one more transfer
  pub waits : (before : List ℕ) (done : List Made) (t : Made) (r : Read) → transfers_of r ≡ done ++ (t ∷ []) → buffer_left r ≡ over (take (length buffer) before) buffer
      → (length before < length buffer → length before % 32 ≡ 0) → Comes layout buffer before done [] r
  unfolding all_brought
  waits before done t r g f w = record { added = t ∷ []; grown = g; front = rw append-nil f; whole = rw append-nil w }

  -- what equals a call comes to what it comes to
  pub as_well : (before : List ℕ) (done : List Made) (outcomes : List BusOutcome) (x y : Read) → x ≡ y → Comes layout buffer before done outcomes y → Comes layout buffer before done outcomes x
  as_well before done outcomes x y e c = rw e c

  -- one way or the other
  pub either : (f : Read → Read) (before : List ℕ) (done : List Made) (outcomes : List BusOutcome) (t : Bool) (x y : Read)
      → Comes layout buffer before done outcomes (f x) → Comes layout buffer before done outcomes (f y) → Comes layout buffer before done outcomes (f (when t then x else y))
  unfolding when◌then◌else◌
  either f before done outcomes true x y p q = p
  either f before done outcomes false x y p q = q

  -- one more transfer has its outcome
  pub stepped : (before : List ℕ) (done : List Made) (t : Made) (o : BusOutcome) (outcomes : List BusOutcome) (r : Read)
      → Comes layout buffer (before ++ brought layout t o) (done ++ (t ∷ [])) outcomes r → Comes layout buffer before done (o ∷ outcomes) r
  unfolding all_brought
  stepped before done t o outcomes r c =
      let e : before ++ brought layout t o ++ all_brought layout c.added outcomes ≡ before ++ (brought layout t o ++ all_brought layout c.added outcomes)
      = append_assoc before (brought layout t o) (all_brought layout c.added outcomes) in
      record {
        added = t ∷ c.added;
        grown = c.grown ∙ append_assoc done (t ∷ []) c.added;
        front = rw (← e) c.front;
        whole = rw (← e) c.whole;
      }

  -- and brought nothing
  pub unmoved : (before : List ℕ) (done : List Made) (t : Made) (o : BusOutcome) (outcomes : List BusOutcome) (r : Read) → brought layout t o ≡ []
      → Comes layout buffer before (done ++ (t ∷ [])) outcomes r → Comes layout buffer before done (o ∷ outcomes) r
  unmoved before done t o outcomes r e c = stepped before done t o outcomes r (rw (e, append-nil) c)

  -- and brought what fills the buffer
  pub filled : (done : List Made) (t : Made) (o : BusOutcome) (outcomes : List BusOutcome) (r : Read) (d : List ℕ) → brought layout t o ≡ d → length buffer ≤ length d
      → transfers_of r ≡ done ++ (t ∷ []) → buffer_left r ≡ take (length buffer) d → Comes layout buffer [] done (o ∷ outcomes) r
  filled done t o outcomes r d e h g f =
      stepped [] done t o outcomes r (rw e (stopped d (done ++ (t ∷ [])) outcomes r g (f ∙ sym (over_whole d buffer h)) (λ short. absurd (omega arith))))

  -- from the start on
  pub in_front : (outcomes : List BusOutcome) (r : Read) → Comes layout buffer [] [] outcomes r → Front layout buffer outcomes r
  in_front outcomes r c = rw c.grown c.front

  pub in_blocks : (outcomes : List BusOutcome) (r : Read) → Comes layout buffer [] [] outcomes r → length (gathered layout outcomes r) < length buffer → length (gathered layout outcomes r) % 32 ≡ 0
  in_blocks outcomes r c = rw c.grown c.whole
