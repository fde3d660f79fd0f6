-- A read behind a command's frame, fed, is the loop of mac_read_with_retries.
-- Assumes nothing.
use Prim.Native.Nat.{ℕ, ◌+◌, ◌-◌, ◌≤◌, ◌<◌, min}
use mathlib.Core.Path.{◌≡◌, refl, ap, ◌∙◌}
use mathlib.Core.List.{List, [], ◌∷◌, ◌++◌}
use mathlib.Core.Bool.{Bool, true, false, not, ◌&&◌}
use native.Mathlib.Omega.{arith}
use lib.ListN.{length, take, drop, get_or, length-take, length-drop}
use lib.Dec.{eqb}
use borrow.Author.Tests.{eqb-false}
use Rattle.smbus_pec.specs.Pec.{pec_of}
use Rattle.protocol.specs.Pick.{when◌then◌else◌}
use Rattle.protocol.specs.Answer.{number_of}
use Rattle.protocol.specs.Frame.{sealed}
use Rattle.protocol.specs.Reply.{mac_ask, lead_of, bytes_asked, data_of}
use Rattle.protocol.specs.declared.error.Answer.{Answer}
use Rattle.protocol.specs.declared.error.Answer.TheVariants as answer
use Rattle.engine.specs.Budget.{tallied}
use Rattle.engine.specs.declared.budget.Tally.{Tally}
use Rattle.engine.specs.declared.limit.Limit.{Limit}
use Rattle.reading.specs.Parts as parts
use Rattle.reading.specs.Reading as reading
use Rattle.reading.specs.declared.parts.Head.{Head}
use Rattle.reading.specs.declared.parts.Reads.TheVariants as reads
use Rattle.reading.specs.declared.call.ReadPlan.{ReadPlan}
use Rattle.original.specs.Bus.{BusOutcome, Acknowledged, BusError, Timeout, delivered, Made, write, read, Log, delayed, Ok, Err, Read, ◌leaving◌, bus_op◌err◌ok◌, copied}
use Rattle.original.specs.Fed.{Lending, Lends, fed_read}
use Rattle.original.specs.OriginalInterface.{with_pec, mac_write_turn, mac_read_turn}
use Rattle.original.proofs.Laws.{missed, one_wait}
use Rattle.original.proofs.ReadTurns.{length_delivered, at, head_at, ask_at, believed, waits_head, waits_read, turn_head, turn_read, after_failure, after_head, after_last}
use Rattle.original.proofs.Replies.{checked_last, count_mac, stored_whole, copied_pick, copied_ok, copied_err, copied_waiting, take_short_of}

module _ (retries : ℕ) (growing : Bool) (limit : Limit) (head : Head) (first : ℕ) (frame buffer inner : List ℕ) (w : ℕ) (lent : ℕ → Lending) (steady : Lends w lent)
    (opens : parts.has_head head ≡ true) (bytes_of : parts.head_bytes head 0 ≡ frame) (opening : get_or frame 0 0 ≡ first) (fitting : length frame < w)
    (room : length buffer ≤ length inner) (least : length inner ≤ 32) where
  abbrev plan : Bool → ReadPlan
  plan pec = record { retries = retries; growing = growing; limit = limit; head = head; head_pec = pec; reads = reads.Once (mac_ask first (length inner) pec) }

  -- how much is asked for
  abbrev count : Bool → ℕ
  count pec = when pec then 1 + 2 + length inner + 1 else 1 + 2 + length inner

  counted : (pec : Bool) → bytes_asked (ask_at (plan pec) (length buffer) w 0) ≡ count pec
  unfolding parts.ask_of
  counted pec = count_mac first (length inner) pec least

  -- the frame that goes out
  abbrev out : Bool → List ℕ
  out pec = when pec then with_pec frame else frame

  framed : (pec : Bool) → head_at (plan pec) (length buffer) w 0 ≡ out pec
  unfolding head_at sealed with_pec
  framed pec = rw bytes_of

  fits_head : length (parts.head_bytes head 0) < w
  fits_head = rw bytes_of fitting

  -- at the frame, and at the read
  abbrev AtFrame : Bool → List BusOutcome → Type 0
  AtFrame pec outcomes = (left : ℕ) (tally : Tally) (done : List Made) → tally.waits + left ≤ 65535
      → fed_read (at (plan pec) (length buffer) w true 0 left tally) buffer lent done outcomes ≡ copied buffer (mac_write_turn left pec frame inner (record { transfers = done; waits = tally.waits }) outcomes)

  abbrev AtRead : Bool → List BusOutcome → Type 0
  AtRead pec outcomes = (left : ℕ) (tally : Tally) (done : List Made) → tally.waits + left ≤ 65535
      → fed_read (at (plan pec) (length buffer) w false 0 left tally) buffer lent done outcomes ≡ copied buffer (mac_read_turn left pec frame inner (record { transfers = done; waits = tally.waits }) outcomes)

  fault : (pec heading : Bool) (outcomes : List BusOutcome) → AtFrame pec outcomes → (left : ℕ) (tally : Tally) (why : Answer) (done : List Made) → eqb (number_of why) 0 ≡ false → tally.waits + left ≤ 65535 → (t : Bool) → eqb left 0 ≡ t
      → fed_read (reading.fail_of (at (plan pec) (length buffer) w heading 0 left tally) why) buffer lent done outcomes
      ≡ copied buffer (when eqb left 0 then Err why (record { transfers = done; waits = tally.waits }) outcomes leaving inner
      else mac_write_turn (left - 1) pec frame inner (record { transfers = done; waits = tally.waits + 1 }) outcomes)
  unfolding copied when◌then◌else◌
  fault pec heading outcomes ih left tally why done bad b true t =
      after_failure (plan pec) (length buffer) w lent heading 0 left tally why buffer done outcomes bad true t ∙ rw t
  fault pec heading outcomes ih left tally why done bad b false t =
      let m : (missed growing retries left tally).waits ≡ tally.waits + 1 = one_wait growing retries left tally (omega arith) in
      after_failure (plan pec) (length buffer) w lent heading 0 left tally why buffer done outcomes bad false t
      ∙ rw (t, opens, ← m) (ih (left - 1) (missed growing retries left tally) done (omega (arith, eqb-false left 0 t)))

  -- a reply that is believed fills the buffer
  filled : (pec : Bool) (left : ℕ) (tally : Tally) (done : List Made) (reply : List ℕ) (outcomes : List BusOutcome) → length reply ≡ count pec
      → fed_read (reading.advance_of (at (plan pec) (length buffer) w false 0 left tally)) (reading.stored_of (at (plan pec) (length buffer) w false 0 left tally) reply buffer) lent done outcomes
      ≡ Ok (record { transfers = done; waits = tally.waits }) outcomes leaving take (length buffer) (take (length inner) (drop (1 + 2) reply))
  unfolding reading.stored_of reading.due_ask parts.ask_of parts.most_of parts.read_count data_of lead_of mac_ask when◌then◌else◌
  filled pec left tally done reply outcomes e =
      after_last (plan pec) (length buffer) w lent 0 left tally _ done outcomes (omega arith) (omega arith)
      ∙ ap (λ (b : List ℕ). Ok (record { transfers = done; waits = tally.waits }) outcomes leaving b) (stored_whole (take (length inner) (drop 3 reply)) buffer (rw (length-take, length-drop) (by pec e)))
    where
      by : (pec : Bool) → length reply ≡ (when pec then 1 + 2 + length inner + 1 else 1 + 2 + length inner) → length buffer ≤ min (length inner) (length reply - 3)
      by true q = omega arith
      by false q = omega arith

  -- what a reply of the right length comes to
  abbrev weighed : Bool → ℕ → Tally → List Made → List ℕ → List BusOutcome → Read
  weighed pec left tally done reply outcomes =
      when believed (plan pec) (length buffer) w 0 reply
      then fed_read (reading.advance_of (at (plan pec) (length buffer) w false 0 left tally)) (reading.stored_of (at (plan pec) (length buffer) w false 0 left tally) reply buffer) lent done outcomes
      else fed_read (reading.fail_of (at (plan pec) (length buffer) w false 0 left tally) answer.Pec) buffer lent done outcomes

  plain_reply : (left : ℕ) (tally : Tally) (done : List Made) (reply : List ℕ) (outcomes : List BusOutcome) → length reply ≡ count false
      → weighed false left tally done reply outcomes ≡ copied buffer (Ok (record { transfers = done; waits = tally.waits }) outcomes leaving take (length inner) (drop (1 + 2) reply))
  unfolding parts.ask_of mac_ask believed copied when◌then◌else◌
  plain_reply left tally done reply outcomes e = filled false left tally done reply outcomes e

  sealed_reply : (outcomes : List BusOutcome) → AtFrame true outcomes → (left : ℕ) (tally : Tally) (done : List Made) (reply : List ℕ) → length reply ≡ 1 + 2 + length inner + 1 → tally.waits + left ≤ 65535
      → (t : Bool) → eqb (get_or reply (1 + 2 + length inner) 0) (pec_of 0 (0x16 ∷ 0x44 ∷ 0x17 ∷ take (1 + 2 + length inner) reply)) ≡ t
      → weighed true left tally done reply outcomes
      ≡ copied buffer (when not t then
      (when eqb left 0 then Err answer.Pec (record { transfers = done; waits = tally.waits }) outcomes leaving inner else mac_write_turn (left - 1) true frame inner (record { transfers = done; waits = tally.waits + 1 }) outcomes)
      else Ok (record { transfers = done; waits = tally.waits }) outcomes leaving take (length inner) (drop (1 + 2) reply))
  unfolding parts.ask_of mac_ask believed copied when◌then◌else◌
  sealed_reply outcomes ih left tally done reply e b true t =
      rw (checked_last 0x44 (1 + 2 + length inner) reply e, t) (filled true left tally done reply outcomes e)
  sealed_reply outcomes ih left tally done reply e b false t =
      rw (checked_last 0x44 (1 + 2 + length inner) reply e, t) (fault true false outcomes ih left tally answer.Pec done refl b (eqb left 0) refl)

  replied : (pec : Bool) (outcomes : List BusOutcome) → AtFrame pec outcomes → (left : ℕ) (tally : Tally) (done : List Made) (reply : List ℕ) → length reply ≡ count pec → tally.waits + left ≤ 65535
      → weighed pec left tally done reply outcomes
      ≡ copied buffer (when pec && not (eqb (get_or reply (1 + 2 + length inner) 0) (pec_of 0 (0x16 ∷ 0x44 ∷ 0x17 ∷ take (1 + 2 + length inner) reply))) then
      (when eqb left 0 then Err answer.Pec (record { transfers = done; waits = tally.waits }) outcomes leaving inner else mac_write_turn (left - 1) pec frame inner (record { transfers = done; waits = tally.waits + 1 }) outcomes)
      else Ok (record { transfers = done; waits = tally.waits }) outcomes leaving take (length inner) (drop (1 + 2) reply))
  unfolding when◌then◌else◌
  replied true outcomes ih left tally done reply l b = sealed_reply outcomes ih left tally done reply l b _ refl
  replied false outcomes ih left tally done reply l b = plain_reply left tally done reply outcomes l

  -- a turn at the frame, with what goes out written out
  turn_frame : (pec : Bool) (left : ℕ) (tally : Tally) (done : List Made) (o : BusOutcome) (outcomes : List BusOutcome)
      → fed_read (at (plan pec) (length buffer) w true 0 left tally) buffer lent done (o ∷ outcomes)
      ≡ (bus_op o
      err (λ e. fed_read (reading.fail_of (at (plan pec) (length buffer) w true 0 left (tallied tally)) e) buffer lent (done ++ (write (out pec) ∷ [])) outcomes)
      ok (λ bytes. fed_read (at (plan pec) (length buffer) w false 0 left (tallied tally)) buffer lent (done ++ (write (out pec) ∷ [])) outcomes))
  unfolding parts.read_count
  turn_frame pec left tally done o outcomes =
      rw (← framed pec, ← after_head (plan pec) (length buffer) w 0 left (tallied tally) (omega arith)) (turn_head (plan pec) (length buffer) w lent steady 0 left tally buffer done o outcomes refl fits_head)

  -- a turn at the read
  turn_reply : (pec : Bool) (left : ℕ) (tally : Tally) (done : List Made) (o : BusOutcome) (outcomes : List BusOutcome)
      → fed_read (at (plan pec) (length buffer) w false 0 left tally) buffer lent done (o ∷ outcomes)
      ≡ (bus_op o
      err (λ e. fed_read (reading.fail_of (at (plan pec) (length buffer) w false 0 left (tallied tally)) e) buffer lent (done ++ (read first (count pec) ∷ [])) outcomes)
      ok (λ bytes. weighed pec left (tallied tally) (done ++ (read first (count pec) ∷ [])) (delivered (count pec) bytes) outcomes))
  unfolding parts.ask_of mac_ask
  turn_reply pec left tally done o outcomes = rw (← counted pec) (turn_read (plan pec) (length buffer) w lent steady 0 left tally buffer done o outcomes refl)

  mutual
    unfolding mac_write_turn copied bus_op◌err◌ok◌ parts.ask_of mac_ask tallied

    pub at_frame : (outcomes : List BusOutcome) (pec : Bool) → AtFrame pec outcomes
    at_frame [] pec left tally done b = rw (← framed pec) (waits_head (plan pec) (length buffer) w lent steady 0 left tally buffer done refl fits_head)
    at_frame (Acknowledged bytes ∷ outcomes) pec left tally done b =
        turn_frame pec left tally done (Acknowledged bytes) outcomes
        ∙ at_read outcomes pec left (tallied tally) _ b
    at_frame (BusError code ∷ outcomes) pec left tally done b =
        turn_frame pec left tally done (BusError code) outcomes
        ∙ fault pec true outcomes (λ left tally done b. at_frame outcomes pec left tally done b) left (tallied tally) (answer.I2c code) _ refl b (eqb left 0) refl
    at_frame (Timeout ∷ outcomes) pec left tally done b =
        turn_frame pec left tally done Timeout outcomes
        ∙ fault pec true outcomes (λ left tally done b. at_frame outcomes pec left tally done b) left (tallied tally) answer.Timeout _ refl b (eqb left 0) refl

    at_read : (outcomes : List BusOutcome) (pec : Bool) → AtRead pec outcomes
    at_read [] pec left tally done b = rw (opening, ← counted pec) (waits_read (plan pec) (length buffer) w lent steady 0 left tally buffer done refl)
    at_read (Acknowledged bytes ∷ outcomes) pec left tally done b =
        rw opening (turn_reply pec left tally done (Acknowledged bytes) outcomes
        ∙ replied pec outcomes (λ left tally done b. at_frame outcomes pec left tally done b) left (tallied tally) _ (delivered (count pec) bytes) (length_delivered (count pec) bytes) b)
    at_read (BusError code ∷ outcomes) pec left tally done b =
        rw opening (turn_reply pec left tally done (BusError code) outcomes
        ∙ fault pec false outcomes (λ left tally done b. at_frame outcomes pec left tally done b) left (tallied tally) (answer.I2c code) _ refl b (eqb left 0) refl)
    at_read (Timeout ∷ outcomes) pec left tally done b =
        rw opening (turn_reply pec left tally done Timeout outcomes
        ∙ fault pec false outcomes (λ left tally done b. at_frame outcomes pec left tally done b) left (tallied tally) answer.Timeout _ refl b (eqb left 0) refl)

-- a read into the caller's own buffer
module _ (frame buffer : List ℕ) (pec : Bool) where
  abbrev Own : List BusOutcome → Type 0
  Own outcomes = (retries : ℕ) (log : Log) → copied buffer (mac_write_turn retries pec frame buffer log outcomes) ≡ mac_write_turn retries pec frame buffer log outcomes

  own_fault : (outcomes : List BusOutcome) → Own outcomes → (retries : ℕ) (why : Answer) (log : Log)
      → copied buffer (when eqb retries 0 then Err why log outcomes leaving buffer else mac_write_turn (retries - 1) pec frame buffer (delayed log) outcomes)
      ≡ (when eqb retries 0 then Err why log outcomes leaving buffer else mac_write_turn (retries - 1) pec frame buffer (delayed log) outcomes)
  own_fault outcomes ih retries why log = copied_pick buffer (eqb retries 0) _ _ (copied_err buffer why log outcomes) (ih (retries - 1) (delayed log))

  mutual
    unfolding mac_write_turn bus_op◌err◌ok◌

    pub own : (outcomes : List BusOutcome) → Own outcomes
    own [] retries log = copied_waiting buffer _
    own (Acknowledged bytes ∷ outcomes) retries log = own_reply outcomes retries _
    own (BusError code ∷ outcomes) retries log = own_fault outcomes (λ retries log. own outcomes retries log) retries (answer.I2c code) _
    own (Timeout ∷ outcomes) retries log = own_fault outcomes (λ retries log. own outcomes retries log) retries answer.Timeout _

    own_reply : (outcomes : List BusOutcome) (retries : ℕ) (log : Log) → copied buffer (mac_read_turn retries pec frame buffer log outcomes) ≡ mac_read_turn retries pec frame buffer log outcomes
    own_reply [] retries log = copied_waiting buffer _
    own_reply (Acknowledged bytes ∷ outcomes) retries log =
        copied_pick buffer _ _ _ (own_fault outcomes (λ retries log. own outcomes retries log) retries answer.Pec _) (copied_ok buffer _ _ outcomes (take_short_of (length buffer) _))
    own_reply (BusError code ∷ outcomes) retries log = own_fault outcomes (λ retries log. own outcomes retries log) retries (answer.I2c code) _
    own_reply (Timeout ∷ outcomes) retries log = own_fault outcomes (λ retries log. own outcomes retries log) retries answer.Timeout _
