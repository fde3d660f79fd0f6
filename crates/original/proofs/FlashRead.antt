-- A data-flash read, fed, is the loop of mac_read_from_df_with_retries, or with PEC that of mac_read_from_df_with_retries_pec.
-- Assumes nothing.
use Prim.Native.Nat.{ℕ, suc, ◌+◌, ◌-◌, ◌*◌, ◌≤◌, ◌<◌, min}
use mathlib.Core.Path.{◌≡◌, refl, sym, ap, ◌∙◌}
use mathlib.Core.List.{List, [], ◌∷◌, ◌++◌}
use mathlib.Core.Bool.{Bool, true, false, not, ◌&&◌}
use native.Mathlib.Omega.{arith}
use lib.ListN.{length, take, drop, get_or, length-take, length-drop}
use lib.Seq.{take-take}
use lib.Dec.{ltb, eqb}
use borrow.Author.Tests.{le-ltb, le-leb, lt-leb, ltb-true, ltb-false, eqb-false}
use Rattle.smbus_pec.specs.Pec.{pec_of}
use Rattle.protocol.specs.Pick.{when◌then◌else◌}
use Rattle.protocol.specs.Answer.{number_of}
use Rattle.protocol.specs.Frame.{sealed, mac_bytes, pair_of}
use Rattle.protocol.specs.Reply.{mac_ask, lead_of, around_of, bytes_asked, data_of}
use Rattle.protocol.specs.declared.error.Answer.{Answer}
use Rattle.protocol.specs.declared.error.Answer.TheVariants as answer
use Rattle.engine.specs.Budget.{tallied}
use Rattle.engine.specs.declared.budget.Tally.{Tally}
use Rattle.engine.specs.declared.limit.Limit.{Limit}
use Rattle.reading.specs.Parts as parts
use Rattle.reading.specs.Reading as reading
use Rattle.reading.specs.declared.parts.Head.TheVariants as head
use Rattle.reading.specs.declared.parts.Reads.TheVariants as reads
use Rattle.reading.specs.declared.call.ReadPlan.{ReadPlan}
use Rattle.original.specs.Bus.{BusOutcome, Acknowledged, BusError, Timeout, delivered, Made, write, read, Log, made, delayed, Ok, Err, Waiting, Read, ◌leaving◌, bus_op◌err◌ok◌}
use Rattle.original.specs.Fed.{Lending, Lends, fed_read}
use Rattle.original.specs.OriginalInterface.{to_le_bytes, with_pec, read_chunks, read_chunks_pec}
use Rattle.original.proofs.Laws.{missed, one_wait}
use Rattle.original.proofs.ReadTurns.{length_delivered, at, head_at, ask_at, believed, waits_head, waits_read, turn_head, turn_read, after_failure, after_head, after_block, after_last}
use Rattle.original.proofs.Replies.{checked_last, stored_chunk, length_chunk}

least : (x : ℕ) → min 32 (min (min (min 32 x) (min 32 x)) x) ≡ min 32 x
least x = omega arith

least_of_33 : (x : ℕ) → min 32 (min (min 32 33) x) ≡ min 32 x
least_of_33 x = omega arith

not_not : (t : Bool) → not (not t) ≡ t
not_not true = refl
not_not false = refl

module _ (start : ℕ) where
  -- the original's loop, without and with PEC
  unfoldable pub loop : Bool → ℕ → List ℕ → ℕ → Bool → Log → List BusOutcome → Read
  loop true retries buffer bytes_read send_address log outcomes = read_chunks_pec retries start buffer bytes_read send_address log outcomes
  loop false retries buffer bytes_read send_address log outcomes = read_chunks retries start buffer bytes_read send_address log outcomes

  -- the address of a chunk, what is asked for where so much is left, and whether a reply's PEC is wrong
  abbrev address : Bool → ℕ → List ℕ
  address pec at = when pec then with_pec (0x44 ∷ 2 ∷ to_le_bytes (start + at)) else (0x44 ∷ 2 ∷ to_le_bytes (start + at))

  abbrev pub count : Bool → ℕ → ℕ
  count pec left = when pec then 36 else min 35 (left + 2 + 1)

  abbrev pub bad : Bool → List ℕ → Bool
  bad pec reply = pec && not (eqb (get_or reply 35 0) (pec_of 0 (0x16 ∷ 0x44 ∷ 0x17 ∷ take 35 reply)))

  -- a chunk of k bytes of a reply, where it belongs
  abbrev pub placed : ℕ → ℕ → List ℕ → List ℕ → List ℕ
  placed at k reply buffer = take at buffer ++ take k (drop 3 reply) ++ drop (at + k) buffer

  pub loop_done : (pec : Bool) (retries : ℕ) (buffer : List ℕ) (bytes_read : ℕ) (send_address : Bool) (log : Log) (outcomes : List BusOutcome) → length buffer ≤ bytes_read
      → loop pec retries buffer bytes_read send_address log outcomes ≡ Ok log outcomes leaving buffer
  unfolding loop read_chunks read_chunks_pec when◌then◌else◌
  loop_done true retries buffer bytes_read send_address log [] h = rw (le-leb (length buffer) bytes_read h)
  loop_done true retries buffer bytes_read send_address log (o ∷ outcomes) h = rw (le-leb (length buffer) bytes_read h)
  loop_done false retries buffer bytes_read send_address log [] h = rw (le-leb (length buffer) bytes_read h)
  loop_done false retries buffer bytes_read send_address log (o ∷ outcomes) h = rw (le-leb (length buffer) bytes_read h)

  module _ (retries : ℕ) (buffer : List ℕ) (bytes_read : ℕ) (log : Log) (more : bytes_read < length buffer) where
    pub address_waits : (pec : Bool) → start + bytes_read ≤ 0xFFFF → loop pec retries buffer bytes_read true log [] ≡ Waiting (made (write (address pec bytes_read)) log) leaving buffer
    unfolding loop read_chunks read_chunks_pec when◌then◌else◌
    address_waits true h = rw (lt-leb (length buffer) bytes_read more, le-ltb 0xFFFF (start + bytes_read) h)
    address_waits false h = rw (lt-leb (length buffer) bytes_read more, le-ltb 0xFFFF (start + bytes_read) h)

    pub address_turn : (pec : Bool) (o : BusOutcome) (outcomes : List BusOutcome) → start + bytes_read ≤ 0xFFFF
        → loop pec retries buffer bytes_read true log (o ∷ outcomes)
        ≡ (bus_op o
        err (λ e. when eqb retries 0 then Err e (made (write (address pec bytes_read)) log) outcomes leaving buffer
        else loop pec (retries - 1) buffer bytes_read true (delayed (made (write (address pec bytes_read)) log)) outcomes)
        ok (λ bytes. loop pec retries buffer bytes_read false (made (write (address pec bytes_read)) log) outcomes))
    unfolding loop read_chunks read_chunks_pec when◌then◌else◌
    address_turn true o outcomes h = rw (lt-leb (length buffer) bytes_read more, le-ltb 0xFFFF (start + bytes_read) h)
    address_turn false o outcomes h = rw (lt-leb (length buffer) bytes_read more, le-ltb 0xFFFF (start + bytes_read) h)

    pub read_waits : (pec : Bool) → loop pec retries buffer bytes_read false log [] ≡ Waiting (made (read 0x44 (count pec (length buffer - bytes_read))) log) leaving buffer
    unfolding loop read_chunks read_chunks_pec when◌then◌else◌
    read_waits true = rw (lt-leb (length buffer) bytes_read more)
    read_waits false = rw (lt-leb (length buffer) bytes_read more)

    pub read_turn : (pec : Bool) (o : BusOutcome) (outcomes : List BusOutcome)
        → loop pec retries buffer bytes_read false log (o ∷ outcomes)
        ≡ (bus_op o
        err (λ e. when eqb retries 0 then Err e (made (read 0x44 (count pec (length buffer - bytes_read))) log) outcomes leaving buffer
        else loop pec (retries - 1) buffer bytes_read true (delayed (made (read 0x44 (count pec (length buffer - bytes_read))) log)) outcomes)
        ok (λ bytes. when bad pec (delivered (count pec (length buffer - bytes_read)) bytes) then
        (when eqb retries 0 then Err answer.Pec (made (read 0x44 (count pec (length buffer - bytes_read))) log) outcomes leaving buffer
        else loop pec (retries - 1) buffer bytes_read true (delayed (made (read 0x44 (count pec (length buffer - bytes_read))) log)) outcomes)
        else loop pec retries (placed bytes_read (min 32 (length buffer - bytes_read)) (delivered (count pec (length buffer - bytes_read)) bytes) buffer) (bytes_read + min 32 (length buffer - bytes_read)) false (made (read 0x44 (count pec (length buffer - bytes_read))) log) outcomes))
    unfolding loop read_chunks read_chunks_pec when◌then◌else◌
    read_turn true o outcomes =
        let k : min 32 (length buffer - bytes_read) ≡ min (length buffer - bytes_read) 32 = omega arith in
        rw (lt-leb (length buffer) bytes_read more, k)
    read_turn false o outcomes =
        let k : min 32 (length buffer - bytes_read) ≡ min 35 (length buffer - bytes_read + 2 + 1) - 3 = omega arith in
        rw (lt-leb (length buffer) bytes_read more, k)

  module _ (retries : ℕ) (growing : Bool) (limit : Limit) (n w : ℕ) (lent : ℕ → Lending) (steady : Lends w lent) (roomy : 39 ≤ w) (after : 0x4000 ≤ start) (before : start + n ≤ 0x6000) where
    abbrev plan : Bool → ReadPlan
    plan pec = record { retries = retries; growing = growing; limit = limit; head = head.DataFlash start; head_pec = pec; reads = reads.Blocks pec }

    fits_head : (i : ℕ) → length (parts.head_bytes (head.DataFlash start) i) < w
    unfolding parts.head_bytes mac_bytes pair_of
    fits_head i = omega arith

    framed : (pec : Bool) (i : ℕ) → head_at (plan pec) n w i ≡ address pec (i * 32)
    unfolding head_at parts.head_bytes mac_bytes pair_of sealed with_pec to_le_bytes
    framed pec i = refl

    counted : (pec : Bool) (i : ℕ) → bytes_asked (ask_at (plan pec) n w i) ≡ count pec (n - i * 32)
    unfolding parts.ask_of parts.block_ask mac_ask bytes_asked around_of lead_of when◌then◌else◌
    counted true i = refl
    counted false i = omega arith

    commanded : (pec : Bool) (i : ℕ) → (ask_at (plan pec) n w i).command ≡ 0x44
    unfolding parts.ask_of parts.block_ask mac_ask when◌then◌else◌
    commanded true i = refl
    commanded false i = refl

    believes : (pec : Bool) (i : ℕ) (reply : List ℕ) → length reply ≡ count pec (n - i * 32) → believed (plan pec) n w i reply ≡ not (bad pec reply)
    unfolding believed parts.ask_of parts.block_ask mac_ask when◌then◌else◌
    believes true i reply e = checked_last 0x44 35 reply e ∙ sym (not_not _)
    believes false i reply e = refl

    stored : (pec : Bool) (i left : ℕ) (tally : Tally) (reply buffer : List ℕ) → length buffer ≡ n → length reply ≡ count pec (n - i * 32) → i * 32 ≤ n
        → reading.stored_of (at (plan pec) n w false i left tally) reply buffer ≡ placed (i * 32) (min 32 (n - i * 32)) reply buffer
    unfolding reading.stored_of reading.due_ask parts.ask_of parts.block_ask parts.most_of data_of lead_of mac_ask when◌then◌else◌
    stored true i left tally reply buffer b e h =
        let r : length reply - 3 ≡ 33 = omega arith in
        let k : min 32 (min (length (take 32 (drop 3 reply))) (length buffer - i * 32)) ≡ min 32 (n - i * 32) = rw (length-take, length-drop, r, b) (least_of_33 (n - i * 32)) in
        stored_chunk (i * 32) (min 32 (n - i * 32)) (take 32 (drop 3 reply)) buffer (omega arith) k
        ∙ ap (λ (d : List ℕ). take (i * 32) buffer ++ d ++ drop (i * 32 + min 32 (n - i * 32)) buffer) (take-take (min 32 (n - i * 32)) 32 (drop 3 reply) (omega arith))
    stored false i left tally reply buffer b e h =
        let r : length reply - 3 ≡ min 32 (n - i * 32) = omega arith in
        let k : min 32 (min (length (take (min 32 (n - i * 32)) (drop 3 reply))) (length buffer - i * 32)) ≡ min 32 (n - i * 32) = rw (length-take, length-drop, r, b) (least (n - i * 32)) in
        stored_chunk (i * 32) (min 32 (n - i * 32)) (take (min 32 (n - i * 32)) (drop 3 reply)) buffer (omega arith) k
        ∙ ap (λ (d : List ℕ). take (i * 32) buffer ++ d ++ drop (i * 32 + min 32 (n - i * 32)) buffer) (take-take (min 32 (n - i * 32)) (min 32 (n - i * 32)) (drop 3 reply) (omega arith))

    as_long : (pec : Bool) (i : ℕ) (reply buffer : List ℕ) → length buffer ≡ n → length reply ≡ count pec (n - i * 32) → i * 32 ≤ n
        → length (placed (i * 32) (min 32 (n - i * 32)) reply buffer) ≡ n
    unfolding when◌then◌else◌
    as_long true i reply buffer b e h = length_chunk (i * 32) (min 32 (n - i * 32)) (drop 3 reply) buffer (omega arith) (rw length-drop (omega arith)) ∙ b
    as_long false i reply buffer b e h = length_chunk (i * 32) (min 32 (n - i * 32)) (drop 3 reply) buffer (omega arith) (rw length-drop (omega arith)) ∙ b

    -- a call that waits is the loop where it stands
    abbrev Same : Bool → List BusOutcome → Type 0
    Same pec outcomes = (heading : Bool) (i left : ℕ) (tally : Tally) (buffer : List ℕ) (done : List Made) → length buffer ≡ n → i * 32 < n → tally.waits + left ≤ 65535
        → fed_read (at (plan pec) n w heading i left tally) buffer lent done outcomes ≡ loop pec left buffer (i * 32) heading (record { transfers = done; waits = tally.waits }) outcomes

    fault : (pec heading : Bool) (outcomes : List BusOutcome) → Same pec outcomes → (i left : ℕ) (tally : Tally) (why : Answer) (buffer : List ℕ) (done : List Made)
        → eqb (number_of why) 0 ≡ false → length buffer ≡ n → i * 32 < n → tally.waits + left ≤ 65535 → (t : Bool) → eqb left 0 ≡ t
        → fed_read (reading.fail_of (at (plan pec) n w heading i left tally) why) buffer lent done outcomes
        ≡ (when eqb left 0 then Err why (record { transfers = done; waits = tally.waits }) outcomes leaving buffer else loop pec (left - 1) buffer (i * 32) true (record { transfers = done; waits = tally.waits + 1 }) outcomes)
    unfolding parts.has_head when◌then◌else◌
    fault pec heading outcomes ih i left tally why buffer done bad b h c true t =
        after_failure (plan pec) n w lent heading i left tally why buffer done outcomes bad true t ∙ rw t
    fault pec heading outcomes ih i left tally why buffer done bad b h c false t =
        let m : (missed growing retries left tally).waits ≡ tally.waits + 1 = one_wait growing retries left tally (omega arith) in
        after_failure (plan pec) n w lent heading i left tally why buffer done outcomes bad false t
        ∙ rw (t, ← m) (ih true i (left - 1) (missed growing retries left tally) buffer done b h (omega (arith, eqb-false left 0 t)))

    -- a chunk is in the buffer: another is due, or it was the last one
    next_chunk : (pec : Bool) (outcomes : List BusOutcome) → Same pec outcomes → (i left : ℕ) (tally : Tally) (buffer : List ℕ) (done : List Made) → length buffer ≡ n → i * 32 < n → tally.waits + left ≤ 65535
        → (t : Bool) → ltb (suc i * 32) n ≡ t
        → fed_read (reading.advance_of (at (plan pec) n w false i left tally)) buffer lent done outcomes ≡ loop pec left buffer (i * 32 + min 32 (n - i * 32)) false (record { transfers = done; waits = tally.waits }) outcomes
    unfolding parts.read_count
    next_chunk pec outcomes ih i left tally buffer done b h c true t =
        let m : suc i * 32 < n = ltb-true (suc i * 32) n t in
        let k : i * 32 + min 32 (n - i * 32) ≡ suc i * 32 = omega arith in
        rw (k, after_block (plan pec) n w i left tally (omega arith) (omega arith)) (ih false (suc i) left tally buffer done b m c)
    next_chunk pec outcomes ih i left tally buffer done b h c false t =
        let m : n ≤ suc i * 32 = ltb-false (suc i * 32) n t in
        after_last (plan pec) n w lent i left tally buffer done outcomes (omega arith) (omega arith)
        ∙ sym (loop_done pec left buffer (i * 32 + min 32 (n - i * 32)) false (record { transfers = done; waits = tally.waits }) outcomes (omega arith))

    -- a turn at the address, with what goes out written out
    turn_address : (pec : Bool) (i left : ℕ) (tally : Tally) (buffer : List ℕ) (done : List Made) (o : BusOutcome) (outcomes : List BusOutcome) → length buffer ≡ n → i * 32 < n
        → fed_read (at (plan pec) n w true i left tally) buffer lent done (o ∷ outcomes)
        ≡ (bus_op o
        err (λ e. fed_read (reading.fail_of (at (plan pec) n w true i left (tallied tally)) e) buffer lent (done ++ (write (address pec (i * 32)) ∷ [])) outcomes)
        ok (λ bytes. fed_read (at (plan pec) n w false i left (tallied tally)) buffer lent (done ++ (write (address pec (i * 32)) ∷ [])) outcomes))
    unfolding parts.read_count
    turn_address pec i left tally buffer done o outcomes b h =
        rw (← framed pec i, ← after_head (plan pec) n w i left (tallied tally) (omega arith)) (turn_head (plan pec) n w lent steady i left tally buffer done o outcomes b (fits_head i))

    -- a turn at a read
    turn_chunk : (pec : Bool) (i left : ℕ) (tally : Tally) (buffer : List ℕ) (done : List Made) (o : BusOutcome) (outcomes : List BusOutcome) → length buffer ≡ n → i * 32 < n
        → fed_read (at (plan pec) n w false i left tally) buffer lent done (o ∷ outcomes)
        ≡ (bus_op o
        err (λ e. fed_read (reading.fail_of (at (plan pec) n w false i left (tallied tally)) e) buffer lent (done ++ (read 0x44 (count pec (n - i * 32)) ∷ [])) outcomes)
        ok (λ bytes. when not (bad pec (delivered (count pec (n - i * 32)) bytes))
        then fed_read (reading.advance_of (at (plan pec) n w false i left (tallied tally))) (placed (i * 32) (min 32 (n - i * 32)) (delivered (count pec (n - i * 32)) bytes) buffer)
        lent (done ++ (read 0x44 (count pec (n - i * 32)) ∷ [])) outcomes
        else fed_read (reading.fail_of (at (plan pec) n w false i left (tallied tally)) answer.Pec) buffer lent (done ++ (read 0x44 (count pec (n - i * 32)) ∷ [])) outcomes))
    unfolding bus_op◌err◌ok◌
    turn_chunk pec i left tally buffer done (Acknowledged bytes) outcomes b h =
        let reply : List ℕ = delivered (count pec (n - i * 32)) bytes in
        let l : length (delivered (count pec (n - i * 32)) bytes) ≡ count pec (n - i * 32) = length_delivered (count pec (n - i * 32)) bytes in
        turn_read (plan pec) n w lent steady i left tally buffer done (Acknowledged bytes) outcomes b
        ∙ rw (counted pec i, commanded pec i, believes pec i reply l, stored pec i left (tallied tally) reply buffer b l (omega arith))
    turn_chunk pec i left tally buffer done (BusError code) outcomes b h =
        turn_read (plan pec) n w lent steady i left tally buffer done (BusError code) outcomes b ∙ rw (counted pec i, commanded pec i)
    turn_chunk pec i left tally buffer done Timeout outcomes b h =
        turn_read (plan pec) n w lent steady i left tally buffer done Timeout outcomes b ∙ rw (counted pec i, commanded pec i)

    -- a reply is weighed
    weighed : (pec : Bool) (outcomes : List BusOutcome) → Same pec outcomes → (i left : ℕ) (tally : Tally) (buffer : List ℕ) (done : List Made) (reply : List ℕ) → length buffer ≡ n → i * 32 < n → tally.waits + left ≤ 65535
        → length reply ≡ count pec (n - i * 32) → (t : Bool)
        → (when not t then fed_read (reading.advance_of (at (plan pec) n w false i left tally)) (placed (i * 32) (min 32 (n - i * 32)) reply buffer) lent done outcomes
        else fed_read (reading.fail_of (at (plan pec) n w false i left tally) answer.Pec) buffer lent done outcomes)
        ≡ (when t then (when eqb left 0 then Err answer.Pec (record { transfers = done; waits = tally.waits }) outcomes leaving buffer else loop pec (left - 1) buffer (i * 32) true (record { transfers = done; waits = tally.waits + 1 }) outcomes)
        else loop pec left (placed (i * 32) (min 32 (n - i * 32)) reply buffer) (i * 32 + min 32 (n - i * 32)) false (record { transfers = done; waits = tally.waits }) outcomes)
    unfolding when◌then◌else◌
    weighed pec outcomes ih i left tally buffer done reply b h c l true =
        fault pec false outcomes ih i left tally answer.Pec buffer done refl b h c (eqb left 0) refl
    weighed pec outcomes ih i left tally buffer done reply b h c l false =
        next_chunk pec outcomes ih i left tally (placed (i * 32) (min 32 (n - i * 32)) reply buffer) done (as_long pec i reply buffer b l (omega arith)) h c (ltb (suc i * 32) n) refl

    pub same : (outcomes : List BusOutcome) (pec : Bool) → Same pec outcomes
    unfolding bus_op◌err◌ok◌ tallied
    same [] pec true i left tally buffer done b h c =
        waits_head (plan pec) n w lent steady i left tally buffer done b (fits_head i)
        ∙ rw (framed pec i) (sym (address_waits left buffer (i * 32) (record { transfers = done; waits = tally.waits }) (omega arith) pec (omega arith)))
    same [] pec false i left tally buffer done b h c =
        waits_read (plan pec) n w lent steady i left tally buffer done b
        ∙ rw (counted pec i, commanded pec i, ← b) (sym (read_waits left buffer (i * 32) (record { transfers = done; waits = tally.waits }) (omega arith) pec))
    same (Acknowledged bytes ∷ outcomes) pec true i left tally buffer done b h c =
        turn_address pec i left tally buffer done (Acknowledged bytes) outcomes b h
        ∙ same outcomes pec false i left (tallied tally) buffer _ b h c
        ∙ sym (address_turn left buffer (i * 32) (record { transfers = done; waits = tally.waits }) (omega arith) pec (Acknowledged bytes) outcomes (omega arith))
    same (Acknowledged bytes ∷ outcomes) pec false i left tally buffer done b h c =
        turn_chunk pec i left tally buffer done (Acknowledged bytes) outcomes b h
        ∙ weighed pec outcomes (same outcomes pec) i left (tallied tally) buffer _ (delivered (count pec (n - i * 32)) bytes) b h c (length_delivered (count pec (n - i * 32)) bytes) (bad pec (delivered (count pec (n - i * 32)) bytes))
        ∙ rw (← b) (sym (read_turn left buffer (i * 32) (record { transfers = done; waits = tally.waits }) (omega arith) pec (Acknowledged bytes) outcomes))
    same (BusError code ∷ outcomes) pec true i left tally buffer done b h c =
        turn_address pec i left tally buffer done (BusError code) outcomes b h
        ∙ fault pec true outcomes (same outcomes pec) i left (tallied tally) (answer.I2c code) buffer _ refl b h c (eqb left 0) refl
        ∙ sym (address_turn left buffer (i * 32) (record { transfers = done; waits = tally.waits }) (omega arith) pec (BusError code) outcomes (omega arith))
    same (BusError code ∷ outcomes) pec false i left tally buffer done b h c =
        turn_chunk pec i left tally buffer done (BusError code) outcomes b h
        ∙ fault pec false outcomes (same outcomes pec) i left (tallied tally) (answer.I2c code) buffer _ refl b h c (eqb left 0) refl
        ∙ rw (← b) (sym (read_turn left buffer (i * 32) (record { transfers = done; waits = tally.waits }) (omega arith) pec (BusError code) outcomes))
    same (Timeout ∷ outcomes) pec true i left tally buffer done b h c =
        turn_address pec i left tally buffer done Timeout outcomes b h
        ∙ fault pec true outcomes (same outcomes pec) i left (tallied tally) answer.Timeout buffer _ refl b h c (eqb left 0) refl
        ∙ sym (address_turn left buffer (i * 32) (record { transfers = done; waits = tally.waits }) (omega arith) pec Timeout outcomes (omega arith))
    same (Timeout ∷ outcomes) pec false i left tally buffer done b h c =
        turn_chunk pec i left tally buffer done Timeout outcomes b h
        ∙ fault pec false outcomes (same outcomes pec) i left (tallied tally) answer.Timeout buffer _ refl b h c (eqb left 0) refl
        ∙ rw (← b) (sym (read_turn left buffer (i * 32) (record { transfers = done; waits = tally.waits }) (omega arith) pec Timeout outcomes))
