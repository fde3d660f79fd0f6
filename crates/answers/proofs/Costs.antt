-- What a report costs, and what it leaves in a reading call's buffer.
-- Assumes nothing.
use Rattle.engine.specs.Bus.{Reported}
use Rattle.std.specs.Prelude.{Err, Ok}
use Prim.Native.Nat.{ℕ, ◌*◌}
use mathlib.Core.Path.{◌≡◌, refl, sym, subst, ◌∙◌}
use mathlib.Core.Bool.{Bool, true, false, false≢true}
use mathlib.Core.Logic.{◌⊎◌, inl, inr}
use mathlib.Core.List.{List, ◌++◌}
use native.Mathlib.Omega.{arith}
use lib.Dec.{leb, eqb}
use lib.ListN.{length, take, drop}
use lib.Seq.{length-take-le, take-append_seam}
use borrow.Author.Tests.{leb-true}
use Rattle.protocol.specs.Pick.{when◌then◌else◌}
use Rattle.protocol.specs.Bytes.{block_in, stored_at}
use Rattle.protocol.specs.Reply as reply
use Rattle.protocol.specs.declared.error.Answer.{Answer}
use Rattle.protocol.specs.declared.error.Answer.TheVariants as answer
use Rattle.engine.specs.Pick.{case◌waiting◌ended◌, case◌acknowledged◌error◌timeout◌}
use Rattle.engine.specs.Budget.{more_of, waited, tallied}
use Rattle.engine.specs.Bus.{fits_of}
use Rattle.engine.specs.declared.bus.Outcome.{Outcome}
use Rattle.engine.specs.declared.bus.Outcome.TheVariants as outcome
use Rattle.engine.specs.declared.bus.Phase.{Phase}
use Rattle.engine.specs.declared.bus.Phase.TheVariants as phase
use Rattle.writing.specs.Writing as writing
use Rattle.writing.specs.declared.call.WriteCall.{WriteCall}
use Rattle.reading.specs.Pick.{case◌refused◌fault◌headed◌block◌}
use Rattle.reading.specs.Parts as parts
use Rattle.reading.specs.Reading as reading
use Rattle.reading.specs.declared.call.ReadCall.{ReadCall}
use Rattle.reading.specs.declared.call.Verdict.{Verdict}
use Rattle.reading.specs.declared.call.Verdict.TheVariants as verdict
use Rattle.answers.specs.Rows.{Failure, Damaged, reads_made}
use Rattle.answers.specs.Steps.{MissedW, CostW, MissedR, HeardR, PaidR, CostR, Delivers}
use Rattle.answers.proofs.Laws.{either, bare_head}
use Rattle.answers.proofs.Kept.{stored_length}

-- a call that has ended does not wait
over_waits : {a : Answer} → phase.Ended a ≡ phase.Waiting → ⊥
over_waits e = let z : ◌≡◌ {A = ℕ} 0 1 = cc in absurd (omega arith)

-- ---- a writing call

module _ (call : WriteCall) where
  -- what a report that was taken costs, with what the call was started for unchanged
  MissesW : WriteCall → Type 0
  MissesW next = (next.task ≡ call.task) × (next.tally.transfers ≡ more_of call.tally.transfers) × MissedW call next

  misses_w : (why : Answer) → MissesW (writing.fail_of (writing.counted_of call) why)
  unfolding MissesW writing.fail_of writing.retry_of writing.end_of waited writing.counted_of tallied
  misses_w why =
      either MissesW call.task.plan.retries call.task.plan.growing call.budget (writing.retry_of (writing.counted_of call)) (writing.end_of (writing.counted_of call) why)
      (λ b less. (refl, refl, (inl (refl, less, refl, refl), refl)))
      (λ none. (refl, refl, (inr (over_waits, none, none, (refl, refl)), refl)))

  settles : (o : Outcome) → CostW call o (Ok (writing.settle_of (writing.counted_of call) o))
  unfolding MissesW writing.settle_of writing.advance_of case◌acknowledged◌error◌timeout◌ writing.counted_of tallied
  settles outcome.Acknowledged = (refl, refl, (refl, (refl, refl), refl))
  settles (outcome.BusError code) = misses_w (answer.I2c code)
  settles outcome.Timeout = misses_w answer.Timeout

  -- WHAT EVERY REPORT COSTS A WRITING CALL
  pub cost_w : (o : Outcome) (r n w : ℕ) → CostW call o (writing.report_of call o r n w)
  unfolding writing.report_of case◌waiting◌ended◌ when◌then◌else◌ writing.counted_of tallied
  cost_w o r n w = by call.phase refl (fits_of call.task.lent n w) refl (writing.replied_of o r) refl
    where
      result : Reported WriteCall
      result = writing.report_of call o r n w

      by : (p : Phase) → call.phase ≡ p → (t : Bool) → fits_of call.task.lent n w ≡ t → (s : Bool) → writing.replied_of o r ≡ s → CostW call o result
      by (phase.Ended a) e t f s g = let q : result ≡ Err (answer.NothingOutstanding, call) = rw e in subst (CostW call o) (sym q) tt
      by phase.Waiting e false f s g = let q : result ≡ Err (answer.WrongBuffer, call) = rw (e, f) in subst (CostW call o) (sym q) tt
      by phase.Waiting e true f true g = let q : result ≡ Err (answer.WrongReply, call) = rw (e, f, g) in subst (CostW call o) (sym q) tt
      by phase.Waiting e true f false g = let q : result ≡ Ok (writing.settle_of (writing.counted_of call) o) = rw (e, f, g) in subst (CostW call o) (sym q) (settles o)

-- ---- a reading call

module _ (call : ReadCall) where
  MissesR : ReadCall → Type 0
  MissesR next = (next.task ≡ call.task) × (next.tally.transfers ≡ more_of call.tally.transfers) × MissedR call next

  misses_r : (why : Answer) → MissesR (reading.fail_of (reading.counted_of call) why)
  unfolding MissesR reading.fail_of reading.retry_of reading.end_of waited reading.counted_of tallied
  misses_r why =
      either MissesR call.task.plan.retries call.task.plan.growing call.budget (reading.retry_of (reading.counted_of call)) (reading.end_of (reading.counted_of call) why)
      (λ b less. (refl, refl, (inl (refl, less, refl, refl), (λ e. bare_head call.task.plan.head), (λ over. absurd (over refl)), refl)))
      (λ none. (refl, refl, (inr (over_waits, none, none, (refl, refl)), (λ e. absurd (over_waits e)), (λ over. refl), refl)))

  -- what a verdict that is no refusal says of outcome and reply
  abbrev Comes : Outcome → List ℕ → Verdict → Type 0
  Comes o bytes (verdict.Refused a) = Unit {0}
  Comes o bytes (verdict.Failed a) = Failure o ⊎ Damaged call bytes
  Comes o bytes verdict.Head = (o ≡ outcome.Acknowledged) × (call.heading ≡ true)
  Comes o bytes verdict.Block = (o ≡ outcome.Acknowledged) × (call.heading ≡ false) × (Damaged call bytes → ⊥)

  block_comes : (bytes : List ℕ) → call.heading ≡ false → Comes outcome.Acknowledged bytes (reading.heard_block (reading.due_ask call) bytes)
  unfolding reading.heard_block reading.verdict_of reply.heard_of when◌then◌else◌
  block_comes bytes h =
      by (eqb (reply.bytes_asked (reading.due_ask call)) (length bytes)) refl (reading.due_ask call).pec refl
      (reply.checked_of (reading.due_ask call).covered bytes) refl
    where
      heard : Verdict
      heard = reading.heard_block (reading.due_ask call) bytes

      by : (t : Bool) → eqb (reply.bytes_asked (reading.due_ask call)) (length bytes) ≡ t → (p : Bool) → (reading.due_ask call).pec ≡ p
          → (k : Bool) → reply.checked_of (reading.due_ask call).covered bytes ≡ k → Comes outcome.Acknowledged bytes heard
      by false t p x k y = let q : heard ≡ verdict.Refused answer.WrongReply = rw t in subst (Comes outcome.Acknowledged bytes) (sym q) tt
      by true t false x k y =
          let q : heard ≡ verdict.Block = rw (t, x) in
          subst (Comes outcome.Acknowledged bytes) (sym q) (refl, h, (λ d. false≢true (sym x ∙ d.1)))
      by true t true x true y =
          let q : heard ≡ verdict.Block = rw (t, x, y) in
          subst (Comes outcome.Acknowledged bytes) (sym q) (refl, h, (λ d. false≢true (sym d.2 ∙ y)))
      by true t true x false y =
          let q : heard ≡ verdict.Failed answer.Pec = rw (t, x, y) in
          subst (Comes outcome.Acknowledged bytes) (sym q) (inr (h, x, y))

  outcome_comes : (o : Outcome) (bytes : List ℕ) → Comes o bytes (reading.weigh_of call o bytes)
  unfolding reading.weigh_of reading.acknowledged_of reading.heard_head case◌acknowledged◌error◌timeout◌ when◌then◌else◌
  outcome_comes (outcome.BusError code) bytes = inl tt
  outcome_comes outcome.Timeout bytes = inl tt
  outcome_comes outcome.Acknowledged bytes = by call.heading refl (eqb (length bytes) 0) refl
    where
      heard : Verdict
      heard = reading.weigh_of call outcome.Acknowledged bytes

      by : (h : Bool) → call.heading ≡ h → (t : Bool) → eqb (length bytes) 0 ≡ t → Comes outcome.Acknowledged bytes heard
      by true h true t = let q : heard ≡ verdict.Head = rw (h, t) in subst (Comes outcome.Acknowledged bytes) (sym q) (refl, h)
      by true h false t = let q : heard ≡ verdict.Refused answer.WrongReply = rw (h, t) in subst (Comes outcome.Acknowledged bytes) (sym q) tt
      by false h t k =
          let q : heard ≡ reading.heard_block (reading.due_ask call) bytes = rw h in
          subst (Comes outcome.Acknowledged bytes) (sym q) (block_comes bytes h)

  judge_comes : (o : Outcome) (bytes : List ℕ) (n w : ℕ) → Comes o bytes (reading.judge_of call o bytes n w)
  unfolding reading.judge_of case◌waiting◌ended◌ when◌then◌else◌
  judge_comes o bytes n w = by call.phase refl (fits_of call.task.lent n w) refl
    where
      verdict_of_lem : Verdict
      verdict_of_lem = reading.judge_of call o bytes n w

      by : (p : Phase) → call.phase ≡ p → (t : Bool) → fits_of call.task.lent n w ≡ t → Comes o bytes verdict_of_lem
      by (phase.Ended a) e t f = let q : verdict_of_lem ≡ verdict.Refused answer.NothingOutstanding = rw e in subst (Comes o bytes) (sym q) tt
      by phase.Waiting e false f = let q : verdict_of_lem ≡ verdict.Refused answer.WrongBuffer = rw (f, e) in subst (Comes o bytes) (sym q) tt
      by phase.Waiting e true f = let q : verdict_of_lem ≡ reading.weigh_of call o bytes = rw (f, e) in subst (Comes o bytes) (sym q) (outcome_comes o bytes)

  -- a failed attempt, by what came of it
  pays_miss : (o : Outcome) (bytes : List ℕ) (next : ReadCall) → Failure o ⊎ Damaged call bytes → MissedR call next → PaidR call o bytes next
  pays_miss outcome.Acknowledged bytes next (inl f) m = absurd f
  pays_miss outcome.Acknowledged bytes next (inr d) m = (λ e. m, λ fine. absurd (fine d))
  pays_miss (outcome.BusError code) bytes next why m = m
  pays_miss outcome.Timeout bytes next why m = m

  pays_heard : (o : Outcome) (bytes : List ℕ) (next : ReadCall) → o ≡ outcome.Acknowledged → (Damaged call bytes → ⊥) → HeardR call next → PaidR call o bytes next
  pays_heard o bytes next ack fine m = subst (λ (x : Outcome). PaidR call x bytes next) (sym ack) ((λ d. absurd (fine d)), (λ e. m))

  -- WHAT EVERY REPORT COSTS A READING CALL
  pub cost_r : (o : Outcome) (bytes : List ℕ) (n w : ℕ) → CostR call o bytes (reading.report_of call o bytes n w)
  unfolding MissesR reading.report_of reading.headed_of reading.advance_of reads_made case◌refused◌fault◌headed◌block◌ when◌then◌else◌ reading.counted_of tallied
  cost_r o bytes n w = by (reading.judge_of call o bytes n w) refl (judge_comes o bytes n w)
    where
      result : Reported ReadCall
      result = reading.report_of call o bytes n w

      by : (v : Verdict) → reading.judge_of call o bytes n w ≡ v → Comes o bytes (reading.judge_of call o bytes n w) → CostR call o bytes result
      by (verdict.Refused a) e c = let q : result ≡ Err (a, call) = rw e in subst (CostR call o bytes) (sym q) tt
      by (verdict.Failed a) e c =
          let q : result ≡ Ok (reading.fail_of (reading.counted_of call) a) = rw e in
          let m = misses_r a in
          subst (CostR call o bytes) (sym q) (m.0, m.1, pays_miss o bytes (reading.fail_of (reading.counted_of call) a) (subst (Comes o bytes) e c) m.2)
      by verdict.Head e c =
          let q : result ≡ Ok (reading.headed_of (reading.counted_of call)) = rw e in
          let d : Comes o bytes verdict.Head = subst (Comes o bytes) e c in
          subst (CostR call o bytes) (sym q)
          (refl, refl, pays_heard o bytes (reading.headed_of (reading.counted_of call)) d.0 (λ x. false≢true (sym x.0 ∙ d.1)) (refl, (refl, refl), refl, rw d.1))
      by verdict.Block e c =
          let q : result ≡ Ok (reading.advance_of (reading.counted_of call)) = rw e in
          let d : Comes o bytes verdict.Block = subst (Comes o bytes) e c in
          subst (CostR call o bytes) (sym q) (refl, refl, pays_heard o bytes (reading.advance_of (reading.counted_of call)) d.0 d.2 (refl, (refl, refl), refl, rw d.1))

-- ---- a reading call's buffer

-- a block that is stored changes nothing before it
stored_before : (at most : ℕ) (b w : List ℕ) → take at (stored_at at most b w) ≡ take at w
unfolding stored_at when◌then◌else◌
stored_before at most b w = by (leb at (length w)) refl
  where
    by : (t : Bool) → leb at (length w) ≡ t → take at (stored_at at most b w) ≡ take at w
    by false t = rw t
    by true t =
        let size : length (take at w) ≡ at = length-take-le at w (leb-true at (length w) t) in
        rw t (subst (λ (k : ℕ). take k (take at w ++ block_in most b (drop at w)) ≡ take at w) size (take-append_seam (take at w) (block_in most b (drop at w))))

module _ (call : ReadCall) (buffer : List ℕ) where
  -- the buffer after a verdict
  By : (bytes : List ℕ) → Verdict → List ℕ
  By bytes v =
      case v
      refused (λ why. buffer)
      fault (λ why. buffer)
      headed buffer
      block reading.stored_of call bytes buffer

  by_front : (bytes : List ℕ) (v : Verdict) → (take (call.received * 32) (By bytes v) ≡ take (call.received * 32) buffer) × (length (By bytes v) ≡ length buffer)
  unfolding By reading.stored_of case◌refused◌fault◌headed◌block◌
  by_front bytes (verdict.Refused a) = (refl, refl)
  by_front bytes (verdict.Failed a) = (refl, refl)
  by_front bytes verdict.Head = (refl, refl)
  by_front bytes verdict.Block = (
    stored_before (call.received * 32) (parts.most_of call.task.plan.reads call.task.lent.length) (reply.data_of (reading.due_ask call) bytes) buffer,
    stored_length (call.received * 32) (parts.most_of call.task.plan.reads call.task.lent.length) (reply.data_of (reading.due_ask call) bytes) buffer,
  )

  -- a verdict that is no block
  abbrev NoBlock : Verdict → Type 0
  NoBlock (verdict.Refused a) = Unit {0}
  NoBlock (verdict.Failed a) = Unit {0}
  NoBlock verdict.Head = Unit {0}
  NoBlock verdict.Block = ⊥

  by_same : (bytes : List ℕ) (v : Verdict) → NoBlock v → By bytes v ≡ buffer
  unfolding By case◌refused◌fault◌headed◌block◌
  by_same bytes (verdict.Refused a) h = refl
  by_same bytes (verdict.Failed a) h = refl
  by_same bytes verdict.Head h = refl
  by_same bytes verdict.Block h = absurd h

  judged : (o : Outcome) (bytes : List ℕ) (n w : ℕ) → NoBlock (reading.weigh_of call o bytes) → NoBlock (reading.judge_of call o bytes n w)
  unfolding reading.judge_of case◌waiting◌ended◌ when◌then◌else◌
  judged o bytes n w h = by call.phase refl (fits_of call.task.lent n w) refl
    where
      by : (p : Phase) → call.phase ≡ p → (t : Bool) → fits_of call.task.lent n w ≡ t → NoBlock (reading.judge_of call o bytes n w)
      by (phase.Ended a) e t f = let q : reading.judge_of call o bytes n w ≡ verdict.Refused answer.NothingOutstanding = rw e in subst NoBlock (sym q) tt
      by phase.Waiting e false f = let q : reading.judge_of call o bytes n w ≡ verdict.Refused answer.WrongBuffer = rw (f, e) in subst NoBlock (sym q) tt
      by phase.Waiting e true f = let q : reading.judge_of call o bytes n w ≡ reading.weigh_of call o bytes = rw (f, e) in subst NoBlock (sym q) h

  head_none : (o : Outcome) (bytes : List ℕ) → call.heading ≡ true → NoBlock (reading.weigh_of call o bytes)
  unfolding reading.weigh_of reading.acknowledged_of reading.heard_head case◌acknowledged◌error◌timeout◌ when◌then◌else◌
  head_none outcome.Acknowledged bytes h = by (eqb (length bytes) 0) refl
    where
      by : (t : Bool) → eqb (length bytes) 0 ≡ t → NoBlock (reading.weigh_of call outcome.Acknowledged bytes)
      by true t = let q : reading.weigh_of call outcome.Acknowledged bytes ≡ verdict.Head = rw (h, t) in subst NoBlock (sym q) tt
      by false t = let q : reading.weigh_of call outcome.Acknowledged bytes ≡ verdict.Refused answer.WrongReply = rw (h, t) in subst NoBlock (sym q) tt
  head_none (outcome.BusError code) bytes h = tt
  head_none outcome.Timeout bytes h = tt

  failure_none : (o : Outcome) (bytes : List ℕ) → Failure o → NoBlock (reading.weigh_of call o bytes)
  unfolding reading.weigh_of case◌acknowledged◌error◌timeout◌
  failure_none outcome.Acknowledged bytes h = absurd h
  failure_none (outcome.BusError code) bytes h = tt
  failure_none outcome.Timeout bytes h = tt

  damaged_none : (o : Outcome) (bytes : List ℕ) → Damaged call bytes → NoBlock (reading.weigh_of call o bytes)
  unfolding reading.weigh_of reading.acknowledged_of reading.heard_block reading.verdict_of reply.heard_of reply.bytes_asked reading.due_ask case◌acknowledged◌error◌timeout◌ when◌then◌else◌
  damaged_none outcome.Acknowledged bytes (head, pec, wrong) = by (eqb (reply.bytes_asked (reading.due_ask call)) (length bytes)) refl
    where
      by : (t : Bool) → eqb (reply.bytes_asked (reading.due_ask call)) (length bytes) ≡ t → NoBlock (reading.weigh_of call outcome.Acknowledged bytes)
      by true t =
          let q : reading.weigh_of call outcome.Acknowledged bytes ≡ verdict.Failed answer.Pec = rw (head, t, pec, wrong) in
          subst NoBlock (sym q) tt
      by false t =
          let q : reading.weigh_of call outcome.Acknowledged bytes ≡ verdict.Refused answer.WrongReply = rw (head, t) in
          subst NoBlock (sym q) tt
  damaged_none (outcome.BusError code) bytes h = tt
  damaged_none outcome.Timeout bytes h = tt

  -- WHAT EVERY REPORT DELIVERS
  pub delivers : (o : Outcome) (bytes : List ℕ) (w : ℕ) → Delivers call o bytes buffer (reading.buffer_after call o bytes buffer w)
  unfolding By reading.buffer_after
  delivers o bytes w = record {
    no_reply = λ h. by_same bytes (reading.judge_of call o bytes (length buffer) w) (judged o bytes (length buffer) w (head_none o bytes h));
    failed_reply = λ h. by_same bytes (reading.judge_of call o bytes (length buffer) w) (judged o bytes (length buffer) w (failure_none o bytes h));
    damaged_reply = λ h. by_same bytes (reading.judge_of call o bytes (length buffer) w) (judged o bytes (length buffer) w (damaged_none o bytes h));
    front = (by_front bytes (reading.judge_of call o bytes (length buffer) w)).0;
    size = (by_front bytes (reading.judge_of call o bytes (length buffer) w)).1;
  }
