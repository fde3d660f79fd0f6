-- A reading call, fed, turn by turn: a head that goes out, a read, a failed attempt.
-- Assumes nothing.
use Rattle.std.specs.Prelude.{Err, Ok}
use Prim.Native.Nat.{ℕ, suc, ◌-◌, ◌≤◌, ◌<◌}
use mathlib.Core.Path.{◌≡◌, refl, sym, ◌∙◌}
use mathlib.Core.List.{List, [], ◌∷◌, ◌++◌}
use mathlib.Core.Bool.{Bool, true, false}
use native.Mathlib.Omega.{arith}
use lib.ListN.{length, take, length-append, length-take, length-replicate}
use lib.Dec.{eqb}
use borrow.Author.Tests.{lt-ltb, eq-eqb, le-leb, lt-leb}
use Rattle.protocol.specs.Pick.{when◌then◌else◌}
use Rattle.protocol.specs.Answer.{number_of}
use Rattle.protocol.specs.Frame.{sealed, laid_of, work_laid}
use Rattle.protocol.specs.Reply.{bytes_asked, checked_of, heard_of}
use Rattle.protocol.proofs.Laws.{take_over, length_over, length_sealed}
use Rattle.protocol.specs.declared.error.Answer.{Answer}
use Rattle.protocol.specs.declared.error.Answer.TheVariants as answer
use Rattle.protocol.specs.declared.reply.Ask.{Ask}
use Rattle.protocol.specs.declared.reply.Unheard.TheVariants as unheard
use Rattle.engine.specs.Pick.{case◌waiting◌ended◌, case◌acknowledged◌error◌timeout◌, case◌retry◌spent◌}
use Rattle.engine.specs.Budget.{failed, more_of, nothing, waited, tallied}
use Rattle.engine.specs.Bus.{write_of, phase_after, fits_of}
use Rattle.engine.specs.Limit.{admitted}
use Rattle.engine.specs.declared.budget.Tally.{Tally}
use Rattle.engine.specs.declared.bus.Phase.TheVariants as phase
use Rattle.reading.specs.Pick.{case◌refused◌fault◌headed◌block◌}
use Rattle.reading.specs.Parts as parts
use Rattle.reading.specs.Reading as reading
use Rattle.reading.specs.declared.call.ReadPlan.{ReadPlan}
use Rattle.reading.specs.declared.call.ReadCall.{ReadCall}
use Rattle.reading.specs.declared.call.Verdict.TheVariants as verdict
use Rattle.original.specs.Bus.{BusOutcome, Acknowledged, BusError, Timeout, delivered, Made, write, read, brings, begun, Ok, Err, Waiting, ◌leaving◌, bus_op◌err◌ok◌}
use Rattle.original.specs.Fed.{Lending, Lends, told, reply, answered, shows◌sending◌transfer◌answer◌, heard◌taken◌refused◌, fed_read}
use Rattle.original.proofs.Laws.{missed}

-- one that has ended says its answer
pub at_end : (call : ReadCall) (buffer : List ℕ) (lent : ℕ → Lending) (done : List Made) (a : Answer) → call.phase ≡ phase.Ended a
    → (outcomes : List BusOutcome) → fed_read call buffer lent done outcomes ≡ answered a (record { transfers = done; waits = call.tally.waits }) outcomes leaving buffer
unfolding fed_read reading.next_of case◌waiting◌ended◌ shows◌sending◌transfer◌answer◌
at_end call buffer lent done a e [] = rw e
at_end call buffer lent done a e (o ∷ outcomes) = rw e

-- an acknowledged read brings as many bytes as were asked
pub length_delivered : (n : ℕ) (bytes : List ℕ) → length (delivered n bytes) ≡ n
length_delivered n bytes = rw (length-take, length-append, length-replicate) (omega arith)

module _ (plan : ReadPlan) (n w : ℕ) where
  -- the call that has handed over i blocks and waits, for its head or for a read, with `left` retries and what it has counted
  abbrev pub at : Bool → ℕ → ℕ → Tally → ReadCall
  at heading i left tally = record {
    task = record { plan = plan; lent = record { length = n; work = w } };
    phase = phase.Waiting;
    heading = heading;
    received = i;
    budget = record { left = left };
    tally = tally;
  }

  fits : (m v : ℕ) → m ≡ n → v ≡ w → fits_of (record { length = n; work = w }) m v ≡ true
  unfolding fits_of
  fits m v e q = rw (eq-eqb m n e, eq-eqb v w q)

  -- the head of block i as it goes out
  unfoldable pub head_at : ℕ → List ℕ
  head_at i = sealed plan.head_pec (parts.head_bytes plan.head i)

  -- what read i asks for
  abbrev pub ask_at : ℕ → Ask
  ask_at i = parts.ask_of plan.reads n i

  pub shown_head_lem : {A : Type 0} (i left : ℕ) (tally : Tally) (buffer work : List ℕ) (f : Made → A) (g : Answer → A) → length buffer ≡ n → length work ≡ w → length (parts.head_bytes plan.head i) < w
      → (shows reading.next_of (at true i left tally) (length buffer) (length work) sending (λ m. take m (reading.work_after (at true i left tally) (length buffer) work)) transfer f answer g) ≡ f (write (head_at i))
  unfolding reading.next_of reading.work_after reading.shown_of reading.shown_head reading.work_shown reading.work_head case◌waiting◌ended◌ head_at shows◌sending◌transfer◌answer◌ when◌then◌else◌ laid_of work_laid write_of
  shown_head_lem i left tally buffer work f g b e h = rw (b, e, fits n w refl refl, lt-ltb _ _ h, take_over)

  pub shown_read : {A : Type 0} (i left : ℕ) (tally : Tally) (buffer work : List ℕ) (part : ℕ → List ℕ) (f : Made → A) (g : Answer → A) → length buffer ≡ n → length work ≡ w
      → (shows reading.next_of (at false i left tally) (length buffer) (length work) sending part transfer f answer g) ≡ f (read (ask_at i).command (bytes_asked (ask_at i)))
  unfolding reading.next_of reading.shown_of reading.due_ask case◌waiting◌ended◌ shows◌sending◌transfer◌answer◌ when◌then◌else◌
  shown_read i left tally buffer work part f g b e = rw (b, e, fits n w refl refl)

  pub kept_head : (i left : ℕ) (tally : Tally) (buffer work : List ℕ) → length buffer ≡ n → length work ≡ w → length (parts.head_bytes plan.head i) < w
      → length (reading.work_after (at true i left tally) (length buffer) work) ≡ w
  unfolding reading.work_after reading.work_shown reading.work_head case◌waiting◌ended◌ when◌then◌else◌ work_laid
  kept_head i left tally buffer work b e h =
      let short : length (sealed plan.head_pec (parts.head_bytes plan.head i)) ≤ length work = omega (arith, length_sealed plan.head_pec (parts.head_bytes plan.head i)) in
      rw (b, e, fits n w refl refl, lt-ltb _ _ h, length_over) e

  pub kept_read : (i left : ℕ) (tally : Tally) (buffer work : List ℕ) → length work ≡ w → length (reading.work_after (at false i left tally) (length buffer) work) ≡ w
  unfolding reading.work_after reading.work_shown case◌waiting◌ended◌ when◌then◌else◌
  kept_read i left tally buffer work e = by (fits_of (record { length = n; work = w }) (length buffer) (length work))
    where
      by : (t : Bool) → length (when t then work else work) ≡ w
      by true = e
      by false = e

  -- what has gone out, with a head or a read more
  abbrev pub with_head : ℕ → List Made → List Made
  with_head i done = done ++ (write (head_at i) ∷ [])

  abbrev pub with_read : ℕ → List Made → List Made
  with_read i done = done ++ (read (ask_at i).command (bytes_asked (ask_at i)) ∷ [])

  -- what a head's outcome comes to
  judged_head : (i left : ℕ) (tally : Tally) (frame beside : List ℕ) (o : BusOutcome) (m v : ℕ) → m ≡ n → v ≡ w
      → reading.judge_of (at true i left tally) (told o) (reply (write frame) beside o) m v ≡ (bus_op o err (λ e. verdict.Failed e) ok (λ bytes. verdict.Head))
  unfolding reading.judge_of reading.weigh_of reading.acknowledged_of reading.heard_head told reply brings case◌waiting◌ended◌ case◌acknowledged◌error◌timeout◌ bus_op◌err◌ok◌ when◌then◌else◌
  judged_head i left tally frame beside (Acknowledged bytes) m v e q = rw (fits m v e q)
  judged_head i left tally frame beside (BusError code) m v e q = rw (fits m v e q)
  judged_head i left tally frame beside Timeout m v e q = rw (fits m v e q)

  -- what a read brings
  abbrev pub brought : ℕ → List ℕ → List ℕ
  brought i bytes = delivered (bytes_asked (ask_at i)) bytes

  -- whether it is believed
  unfoldable pub believed : ℕ → List ℕ → Bool
  believed i answered = when (ask_at i).pec then checked_of (ask_at i).covered answered else true

  judged_read : (i left : ℕ) (tally : Tally) (beside : List ℕ) (o : BusOutcome) (m v : ℕ) → m ≡ n → v ≡ w
      → reading.judge_of (at false i left tally) (told o) (reply (read (ask_at i).command (bytes_asked (ask_at i))) beside o) m v
      ≡ (bus_op o err (λ e. verdict.Failed e) ok (λ bytes. when believed i (brought i bytes) then verdict.Block else verdict.Failed answer.Pec))
  unfolding reading.judge_of reading.weigh_of reading.acknowledged_of reading.heard_block reading.verdict_of reading.due_ask heard_of believed told reply brings case◌waiting◌ended◌ case◌acknowledged◌error◌timeout◌ bus_op◌err◌ok◌ when◌then◌else◌
  judged_read i left tally beside (Acknowledged bytes) m v e q =
      rw (fits m v e q, eq-eqb (bytes_asked (ask_at i)) (length (brought i bytes)) (sym (length_delivered (bytes_asked (ask_at i)) bytes))) (by (ask_at i).pec (checked_of (ask_at i).covered (brought i bytes)))
    where
      by : (pec good : Bool) → reading.verdict_of (when pec then (when good then (Ok tt) else (Err unheard.WrongPec)) else (Ok tt)) ≡ (when (when pec then good else true) then verdict.Block else verdict.Failed answer.Pec)
      by true true = refl
      by true false = refl
      by false good = refl
  judged_read i left tally beside (BusError code) m v e q = rw (fits m v e q)
  judged_read i left tally beside Timeout m v e q = rw (fits m v e q)

  -- a head was heard, and a read is due
  pub after_head : (i left : ℕ) (tally : Tally) → i < parts.read_count plan.reads n → reading.headed_of (at true i left tally) ≡ at false i left tally
  unfolding reading.headed_of phase_after when◌then◌else◌
  after_head i left tally h = rw (lt-leb (parts.read_count plan.reads n) i h)

  -- a block was handed over, and another is due
  pub after_block : (i left : ℕ) (tally : Tally) → suc i < parts.read_count plan.reads n → i ≤ 256 → reading.advance_of (at false i left tally) ≡ at false (suc i) left tally
  unfolding reading.advance_of phase_after when◌then◌else◌
  after_block i left tally h few =
      let m : more_of i ≡ suc i = omega arith in
      rw (m, lt-leb (parts.read_count plan.reads n) (suc i) h)

  module _ (lent : ℕ → Lending) where
    -- a failed attempt: the head is due again, or none is left
    pub after_failure : (heading : Bool) (i left : ℕ) (tally : Tally) (why : Answer) (buffer : List ℕ) (done : List Made) (outcomes : List BusOutcome) → eqb (number_of why) 0 ≡ false → (t : Bool) → eqb left 0 ≡ t
        → fed_read (reading.fail_of (at heading i left tally) why) buffer lent done outcomes
        ≡ (when eqb left 0 then Err why (record { transfers = done; waits = tally.waits }) outcomes leaving buffer
        else fed_read (at (parts.has_head plan.head) i (left - 1) (missed plan.growing plan.retries left tally)) buffer lent done outcomes)
    unfolding reading.fail_of reading.end_of reading.retry_of failed waited case◌retry◌spent◌ when◌then◌else◌ answered
    after_failure heading i left tally why buffer done outcomes bad true e =
        let f : reading.fail_of (at heading i left tally) why ≡ reading.end_of (at heading i left tally) why = rw e in
        rw (f, e) (at_end (reading.end_of (at heading i left tally) why) buffer lent done why refl outcomes ∙ rw bad)
    after_failure heading i left tally why buffer done outcomes bad false e =
        rw e

    -- it was the last one
    pub after_last : (i left : ℕ) (tally : Tally) (buffer : List ℕ) (done : List Made) (outcomes : List BusOutcome) → parts.read_count plan.reads n ≤ suc i → i ≤ 256
        → fed_read (reading.advance_of (at false i left tally)) buffer lent done outcomes ≡ Ok (record { transfers = done; waits = tally.waits }) outcomes leaving buffer
    unfolding reading.advance_of phase_after when◌then◌else◌ answered
    after_last i left tally buffer done outcomes h few =
        let m : more_of i ≡ suc i = omega arith in
        let p : (reading.advance_of (at false i left tally)).phase ≡ phase.Ended answer.Done = rw (m, le-leb (parts.read_count plan.reads n) (suc i) h) in
        at_end (reading.advance_of (at false i left tally)) buffer lent done answer.Done p outcomes

    -- a call that is admitted
    pub started : (buffer : List ℕ) (outcomes : List BusOutcome) → admitted plan.limit (parts.first_address plan.head) n w ≡ phase.Waiting
        → fed_read (reading.start_of plan n w) buffer lent [] outcomes ≡ fed_read (at (parts.has_head plan.head) 0 plan.retries nothing) buffer lent [] outcomes
    unfolding reading.start_of nothing
    started buffer outcomes a = rw a

    -- one that is refused, or done at once, makes no transfer
    pub no_transfer : (buffer : List ℕ) (a : Answer) (outcomes : List BusOutcome) → admitted plan.limit (parts.first_address plan.head) n w ≡ phase.Ended a
        → fed_read (reading.start_of plan n w) buffer lent [] outcomes ≡ answered a begun outcomes leaving buffer
    unfolding reading.start_of nothing
    no_transfer buffer a outcomes e = at_end (reading.start_of plan n w) buffer lent [] a e outcomes

    module _ (steady : Lends w lent) where
      -- the outcomes have run out, and the call waits for that of its last transfer
      pub waits_head : (i left : ℕ) (tally : Tally) (buffer : List ℕ) (done : List Made) → length buffer ≡ n → length (parts.head_bytes plan.head i) < w
          → fed_read (at true i left tally) buffer lent done [] ≡ Waiting (record { transfers = with_head i done; waits = tally.waits }) leaving buffer
      unfolding fed_read
      waits_head i left tally buffer done b h = shown_head_lem i left tally buffer (lent (length done)).work _ _ b (steady (length done)) h

      pub waits_read : (i left : ℕ) (tally : Tally) (buffer : List ℕ) (done : List Made) → length buffer ≡ n
          → fed_read (at false i left tally) buffer lent done [] ≡ Waiting (record { transfers = with_read i done; waits = tally.waits }) leaving buffer
      unfolding fed_read
      waits_read i left tally buffer done b = shown_read i left tally buffer (lent (length done)).work _ _ _ b (steady (length done))

      -- a head goes out
      pub turn_head : (i left : ℕ) (tally : Tally) (buffer : List ℕ) (done : List Made) (o : BusOutcome) (outcomes : List BusOutcome) → length buffer ≡ n → length (parts.head_bytes plan.head i) < w
          → fed_read (at true i left tally) buffer lent done (o ∷ outcomes)
          ≡ (bus_op o
          err (λ e. fed_read (reading.fail_of (at true i left (tallied tally)) e) buffer lent (with_head i done) outcomes)
          ok (λ bytes. fed_read (reading.headed_of (at true i left (tallied tally))) buffer lent (with_head i done) outcomes))
      unfolding fed_read reading.report_of reading.counted_of reading.buffer_after case◌refused◌fault◌headed◌block◌ heard◌taken◌refused◌ bus_op◌err◌ok◌
      turn_head i left tally buffer done (Acknowledged bytes) outcomes b h =
          shown_head_lem i left tally buffer (lent (length done)).work _ _ b (steady (length done)) h
          ∙ rw (judged_head i left tally (head_at i) (lent (length done)).beside (Acknowledged bytes) (length buffer) (length (reading.work_after (at true i left tally) (length buffer) (lent (length done)).work)) b (kept_head i left tally buffer (lent (length done)).work b (steady (length done)) h))
      turn_head i left tally buffer done (BusError code) outcomes b h =
          shown_head_lem i left tally buffer (lent (length done)).work _ _ b (steady (length done)) h
          ∙ rw (judged_head i left tally (head_at i) (lent (length done)).beside (BusError code) (length buffer) (length (reading.work_after (at true i left tally) (length buffer) (lent (length done)).work)) b (kept_head i left tally buffer (lent (length done)).work b (steady (length done)) h))
      turn_head i left tally buffer done Timeout outcomes b h =
          shown_head_lem i left tally buffer (lent (length done)).work _ _ b (steady (length done)) h
          ∙ rw (judged_head i left tally (head_at i) (lent (length done)).beside Timeout (length buffer) (length (reading.work_after (at true i left tally) (length buffer) (lent (length done)).work)) b (kept_head i left tally buffer (lent (length done)).work b (steady (length done)) h))

      -- a read goes out and is answered
      turn_reply : (i left : ℕ) (tally : Tally) (buffer : List ℕ) (done : List Made) (bytes : List ℕ) (outcomes : List BusOutcome) → length buffer ≡ n
          → (t : Bool) → believed i (brought i bytes) ≡ t
          → fed_read (at false i left tally) buffer lent done (Acknowledged bytes ∷ outcomes)
          ≡ (when t
          then fed_read (reading.advance_of (at false i left (tallied tally))) (reading.stored_of (at false i left (tallied tally)) (brought i bytes) buffer) lent (with_read i done) outcomes
          else fed_read (reading.fail_of (at false i left (tallied tally)) answer.Pec) buffer lent (with_read i done) outcomes)
      unfolding fed_read reading.report_of reading.counted_of reading.buffer_after reading.stored_of reading.due_ask case◌refused◌fault◌headed◌block◌ heard◌taken◌refused◌ bus_op◌err◌ok◌ when◌then◌else◌ reply brings
      turn_reply i left tally buffer done bytes outcomes b true q =
          shown_read i left tally buffer (lent (length done)).work _ _ _ b (steady (length done))
          ∙ rw (judged_read i left tally (lent (length done)).beside (Acknowledged bytes) (length buffer) (length (reading.work_after (at false i left tally) (length buffer) (lent (length done)).work)) b (kept_read i left tally buffer (lent (length done)).work (steady (length done))), q)
      turn_reply i left tally buffer done bytes outcomes b false q =
          shown_read i left tally buffer (lent (length done)).work _ _ _ b (steady (length done))
          ∙ rw (judged_read i left tally (lent (length done)).beside (Acknowledged bytes) (length buffer) (length (reading.work_after (at false i left tally) (length buffer) (lent (length done)).work)) b (kept_read i left tally buffer (lent (length done)).work (steady (length done))), q)

      -- a read goes out
      pub turn_read : (i left : ℕ) (tally : Tally) (buffer : List ℕ) (done : List Made) (o : BusOutcome) (outcomes : List BusOutcome) → length buffer ≡ n
          → fed_read (at false i left tally) buffer lent done (o ∷ outcomes)
          ≡ (bus_op o
          err (λ e. fed_read (reading.fail_of (at false i left (tallied tally)) e) buffer lent (with_read i done) outcomes)
          ok (λ bytes. when believed i (brought i bytes)
          then fed_read (reading.advance_of (at false i left (tallied tally))) (reading.stored_of (at false i left (tallied tally)) (brought i bytes) buffer) lent (with_read i done) outcomes
          else fed_read (reading.fail_of (at false i left (tallied tally)) answer.Pec) buffer lent (with_read i done) outcomes))
      unfolding fed_read reading.report_of reading.counted_of reading.buffer_after case◌refused◌fault◌headed◌block◌ heard◌taken◌refused◌ bus_op◌err◌ok◌
      turn_read i left tally buffer done (Acknowledged bytes) outcomes b = turn_reply i left tally buffer done bytes outcomes b (believed i (brought i bytes)) refl
      turn_read i left tally buffer done (BusError code) outcomes b =
          shown_read i left tally buffer (lent (length done)).work _ _ _ b (steady (length done))
          ∙ rw (judged_read i left tally (lent (length done)).beside (BusError code) (length buffer) (length (reading.work_after (at false i left tally) (length buffer) (lent (length done)).work)) b (kept_read i left tally buffer (lent (length done)).work (steady (length done))))
      turn_read i left tally buffer done Timeout outcomes b =
          shown_read i left tally buffer (lent (length done)).work _ _ _ b (steady (length done))
          ∙ rw (judged_read i left tally (lent (length done)).beside Timeout (length buffer) (length (reading.work_after (at false i left tally) (length buffer) (lent (length done)).work)) b (kept_read i left tally buffer (lent (length done)).work (steady (length done))))
