-- A plain read, fed, is the loop of read_with_retries.
-- Assumes nothing.
use Prim.Native.Nat.{ℕ, ◌+◌, ◌-◌, ◌≤◌, min}
use mathlib.Core.Path.{◌≡◌, refl, ap, ◌∙◌}
use mathlib.Core.List.{List, [], ◌∷◌, ◌++◌}
use mathlib.Core.Bool.{Bool, true, false, not, ◌&&◌}
use native.Mathlib.Omega.{arith}
use lib.ListN.{length, take, get_or, length-take}
use lib.Dec.{eqb}
use borrow.Author.Tests.{eqb-false}
use Rattle.smbus_pec.specs.Pec.{pec_of}
use Rattle.protocol.specs.Pick.{when◌then◌else◌}
use Rattle.protocol.specs.Answer.{number_of}
use Rattle.protocol.specs.Reply.{plain_ask, lead_of, bytes_asked, data_of}
use Rattle.protocol.specs.declared.common.Config.{Config}
use Rattle.protocol.specs.declared.error.Answer.{Answer}
use Rattle.protocol.specs.declared.error.Answer.TheVariants as answer
use Rattle.engine.specs.Budget.{tallied}
use Rattle.engine.specs.declared.budget.Tally.{Tally}
use Rattle.engine.specs.declared.limit.Limit.{Limit}
use Rattle.reading.specs.Parts as parts
use Rattle.reading.specs.Reading as reading
use Rattle.reading.specs.declared.call.ReadPlan.{ReadPlan}
use Rattle.original.specs.Bus.{BusOutcome, Acknowledged, BusError, Timeout, delivered, Made, read, Log, delayed, Ok, Err, Read, ◌leaving◌, bus_op◌err◌ok◌, copied}
use Rattle.original.specs.Fed.{Lending, Lends, fed_read}
use Rattle.original.specs.OriginalInterface.{read_loop}
use Rattle.original.proofs.Laws.{missed, one_wait}
use Rattle.original.proofs.ReadTurns.{length_delivered, at, ask_at, believed, waits_read, turn_read, after_failure, after_last}
use Rattle.original.proofs.Replies.{checked_last, count_plain, stored_whole, copied_pick, copied_ok, copied_err, copied_waiting, take_short_of}

module _ (config : Config) (limit : Limit) (command : ℕ) (buffer inner : List ℕ) (w : ℕ) (lent : ℕ → Lending) (steady : Lends w lent) (room : length buffer ≤ length inner) where
  abbrev plan : Bool → ReadPlan
  plan pec = reading.plain_plan config limit (plain_ask command (length inner) pec)

  -- how much is asked for
  abbrev count : Bool → ℕ
  count pec = when pec then length inner + 1 else length inner

  -- the read that goes out
  counted : (pec : Bool) → count pec ≤ 18446744073709551615 → bytes_asked (ask_at (plan pec) (length buffer) w 0) ≡ count pec
  unfolding reading.plain_plan parts.ask_of
  counted pec h = count_plain command (length inner) pec h

  abbrev now : Bool → Tally → List Made → Log
  now pec tally done = record { transfers = done ++ (read command (count pec) ∷ []); waits = tally.waits }

  abbrev Same : Bool → List BusOutcome → Type 0
  Same pec outcomes = (left : ℕ) (tally : Tally) (done : List Made) → tally.waits + left ≤ 65535
      → fed_read (at (plan pec) (length buffer) w false 0 left tally) buffer lent done outcomes ≡ copied buffer (read_loop left command inner pec (record { transfers = done; waits = tally.waits }) outcomes)

  fault : (pec : Bool) (outcomes : List BusOutcome) → Same pec outcomes → (left : ℕ) (tally : Tally) (why : Answer) (done : List Made) → eqb (number_of why) 0 ≡ false → tally.waits + left ≤ 65535 → (t : Bool) → eqb left 0 ≡ t
      → fed_read (reading.fail_of (at (plan pec) (length buffer) w false 0 left tally) why) buffer lent (done ++ (read command (count pec) ∷ [])) outcomes
      ≡ copied buffer (when eqb left 0 then Err why (now pec tally done) outcomes leaving inner else read_loop (left - 1) command inner pec (delayed (now pec tally done)) outcomes)
  unfolding reading.plain_plan parts.has_head copied when◌then◌else◌
  fault pec outcomes ih left tally why done bad b true t =
      after_failure (plan pec) (length buffer) w lent false 0 left tally why buffer _ outcomes bad true t ∙ rw t
  fault pec outcomes ih left tally why done bad b false t =
      let m : (missed config.growing_waits config.max_read_retries left tally).waits ≡ tally.waits + 1 = one_wait config.growing_waits config.max_read_retries left tally (omega arith) in
      after_failure (plan pec) (length buffer) w lent false 0 left tally why buffer _ outcomes bad false t
      ∙ rw (t, ← m) (ih (left - 1) (missed config.growing_waits config.max_read_retries left tally) _ (omega (arith, eqb-false left 0 t)))

  -- a reply that is believed fills the buffer
  filled : (pec : Bool) (left : ℕ) (tally : Tally) (done : List Made) (reply : List ℕ) (outcomes : List BusOutcome) → length reply ≡ count pec
      → fed_read (reading.advance_of (at (plan pec) (length buffer) w false 0 left tally)) (reading.stored_of (at (plan pec) (length buffer) w false 0 left tally) reply buffer) lent (done ++ (read command (count pec) ∷ [])) outcomes
      ≡ Ok (now pec tally done) outcomes leaving take (length buffer) (take (length inner) reply)
  unfolding reading.plain_plan reading.stored_of reading.due_ask parts.ask_of parts.most_of parts.read_count data_of lead_of plain_ask when◌then◌else◌
  filled pec left tally done reply outcomes e =
      after_last (plan pec) (length buffer) w lent 0 left tally _ _ outcomes (omega arith) (omega arith)
      ∙ ap (λ (b : List ℕ). Ok (now pec tally done) outcomes leaving b) (stored_whole (take (length inner) reply) buffer (rw length-take (by pec e)))
    where
      by : (pec : Bool) → length reply ≡ (when pec then length inner + 1 else length inner) → length buffer ≤ min (length inner) (length reply)
      by true q = omega arith
      by false q = omega arith

  -- what a reply of the right length comes to
  abbrev weighed : Bool → ℕ → Tally → List Made → List ℕ → List BusOutcome → Read
  weighed pec left tally done reply outcomes =
      when believed (plan pec) (length buffer) w 0 reply
      then fed_read (reading.advance_of (at (plan pec) (length buffer) w false 0 left tally)) (reading.stored_of (at (plan pec) (length buffer) w false 0 left tally) reply buffer) lent (done ++ (read command (count pec) ∷ [])) outcomes
      else fed_read (reading.fail_of (at (plan pec) (length buffer) w false 0 left tally) answer.Pec) buffer lent (done ++ (read command (count pec) ∷ [])) outcomes

  plain_reply : (left : ℕ) (tally : Tally) (done : List Made) (reply : List ℕ) (outcomes : List BusOutcome) → length reply ≡ length inner
      → weighed false left tally done reply outcomes ≡ copied buffer (Ok (now false tally done) outcomes leaving take (length inner) reply)
  unfolding reading.plain_plan parts.ask_of plain_ask believed copied when◌then◌else◌
  plain_reply left tally done reply outcomes e = filled false left tally done reply outcomes e

  sealed_reply : (outcomes : List BusOutcome) → Same true outcomes → (left : ℕ) (tally : Tally) (done : List Made) (reply : List ℕ) → length reply ≡ length inner + 1 → tally.waits + left ≤ 65535
      → (t : Bool) → eqb (get_or reply (length inner) 0) (pec_of 0 (0x16 ∷ command ∷ 0x17 ∷ take (length inner) reply)) ≡ t
      → weighed true left tally done reply outcomes
      ≡ copied buffer (when not t then
      (when eqb left 0 then Err answer.Pec (now true tally done) outcomes leaving inner else read_loop (left - 1) command inner true (delayed (now true tally done)) outcomes)
      else Ok (now true tally done) outcomes leaving take (length inner) reply)
  unfolding reading.plain_plan parts.ask_of plain_ask believed copied when◌then◌else◌
  sealed_reply outcomes ih left tally done reply e b true t =
      rw (checked_last command (length inner) reply e, t) (filled true left tally done reply outcomes e)
  sealed_reply outcomes ih left tally done reply e b false t =
      rw (checked_last command (length inner) reply e, t) (fault true outcomes ih left tally answer.Pec done refl b (eqb left 0) refl)

  -- a turn, with what is asked for written out
  turn : (pec : Bool) → count pec ≤ 18446744073709551615 → (left : ℕ) (tally : Tally) (done : List Made) (o : BusOutcome) (outcomes : List BusOutcome)
      → fed_read (at (plan pec) (length buffer) w false 0 left tally) buffer lent done (o ∷ outcomes)
      ≡ (bus_op o
      err (λ e. fed_read (reading.fail_of (at (plan pec) (length buffer) w false 0 left (tallied tally)) e) buffer lent (done ++ (read command (count pec) ∷ [])) outcomes)
      ok (λ bytes. weighed pec left (tallied tally) done (delivered (count pec) bytes) outcomes))
  unfolding reading.plain_plan parts.ask_of plain_ask
  turn pec h left tally done o outcomes = rw (← counted pec h) (turn_read (plan pec) (length buffer) w lent steady 0 left tally buffer done o outcomes refl)

  replied : (pec : Bool) (outcomes : List BusOutcome) → Same pec outcomes → (left : ℕ) (tally : Tally) (done : List Made) (reply : List ℕ) → length reply ≡ count pec → tally.waits + left ≤ 65535
      → weighed pec left tally done reply outcomes
      ≡ copied buffer (when pec && not (eqb (get_or reply (length inner) 0) (pec_of 0 (0x16 ∷ command ∷ 0x17 ∷ take (length inner) reply))) then
      (when eqb left 0 then Err answer.Pec (now pec tally done) outcomes leaving inner else read_loop (left - 1) command inner pec (delayed (now pec tally done)) outcomes)
      else Ok (now pec tally done) outcomes leaving take (length inner) reply)
  unfolding when◌then◌else◌
  replied true outcomes ih left tally done reply l b = sealed_reply outcomes ih left tally done reply l b _ refl
  replied false outcomes ih left tally done reply l b = plain_reply left tally done reply outcomes l

  pub same : (pec : Bool) → count pec ≤ 18446744073709551615 → (outcomes : List BusOutcome) → Same pec outcomes
  unfolding read_loop copied bus_op◌err◌ok◌ reading.plain_plan parts.ask_of plain_ask tallied
  same pec h [] left tally done b = rw (← counted pec h) (waits_read (plan pec) (length buffer) w lent steady 0 left tally buffer done refl)
  same pec h (Acknowledged bytes ∷ outcomes) left tally done b =
      turn pec h left tally done (Acknowledged bytes) outcomes
      ∙ replied pec outcomes (same pec h outcomes) left (tallied tally) done (delivered (count pec) bytes) (length_delivered (count pec) bytes) b
  same pec h (BusError code ∷ outcomes) left tally done b =
      turn pec h left tally done (BusError code) outcomes
      ∙ fault pec outcomes (same pec h outcomes) left (tallied tally) (answer.I2c code) done refl b (eqb left 0) refl
  same pec h (Timeout ∷ outcomes) left tally done b =
      turn pec h left tally done Timeout outcomes
      ∙ fault pec outcomes (same pec h outcomes) left (tallied tally) answer.Timeout done refl b (eqb left 0) refl

-- a read into the caller's own buffer
module _ (command : ℕ) (buffer : List ℕ) (pec : Bool) where
  abbrev Own : List BusOutcome → Type 0
  Own outcomes = (retries : ℕ) (log : Log) → copied buffer (read_loop retries command buffer pec log outcomes) ≡ read_loop retries command buffer pec log outcomes

  own_fault : (outcomes : List BusOutcome) → Own outcomes → (retries : ℕ) (why : Answer) (log : Log)
      → copied buffer (when eqb retries 0 then Err why log outcomes leaving buffer else read_loop (retries - 1) command buffer pec (delayed log) outcomes)
      ≡ (when eqb retries 0 then Err why log outcomes leaving buffer else read_loop (retries - 1) command buffer pec (delayed log) outcomes)
  own_fault outcomes ih retries why log = copied_pick buffer (eqb retries 0) _ _ (copied_err buffer why log outcomes) (ih (retries - 1) (delayed log))

  pub own : (outcomes : List BusOutcome) → Own outcomes
  unfolding read_loop bus_op◌err◌ok◌
  own [] retries log = copied_waiting buffer _
  own (Acknowledged bytes ∷ outcomes) retries log =
      copied_pick buffer _ _ _ (own_fault outcomes (own outcomes) retries answer.Pec _) (copied_ok buffer _ _ outcomes (take_short_of (length buffer) _))
  own (BusError code ∷ outcomes) retries log = own_fault outcomes (own outcomes) retries (answer.I2c code) _
  own (Timeout ∷ outcomes) retries log = own_fault outcomes (own outcomes) retries answer.Timeout _
