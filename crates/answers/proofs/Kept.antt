-- What a report can do to a reading call and its buffer, and what stays true however it is fed.
-- Assumes nothing.
use Rattle.std.specs.Prelude.{Err, Ok, Result}
use Prim.Native.Nat.{ℕ, ◌+◌, ◌*◌, ◌≤◌, ◌<◌, min}
use mathlib.Core.Path.{◌≡◌, refl, sym, ap, subst, ◌∙◌}
use mathlib.Core.Bool.{Bool, true, false}
use mathlib.Core.Logic.{◌⊎◌, inl, inr}
use mathlib.Core.List.{List, [], ◌∷◌, ◌++◌}
use native.Mathlib.Omega.{arith}
use lib.Dec.{leb, eqb}
use lib.ListN.{length, take, drop, length-take, length-drop, length-append}
use lib.Seq.{drop-drop, drop-append-add, length-take-le}
use borrow.Author.Tests.{leb-true, leb-false}
use Rattle.protocol.specs.Pick.{when◌then◌else◌}
use Rattle.protocol.specs.Bytes.{over, block_in, stored_at}
use Rattle.protocol.proofs.Laws.{drop_over, length_over}
use Rattle.protocol.specs.declared.error.Answer.{Answer}
use Rattle.protocol.specs.declared.error.Answer.TheVariants as answer
use Rattle.protocol.specs.Reply as reply
use Rattle.protocol.specs.declared.reply.Unheard.{Unheard}
use Rattle.protocol.specs.declared.reply.Unheard.TheVariants as unheard
use Rattle.engine.specs.Pick.{case◌waiting◌ended◌, case◌acknowledged◌error◌timeout◌}
use Rattle.engine.specs.Budget.{more_of, waited, nothing, tallied}
use Rattle.engine.specs.Bus.{phase_after, fits_of}
use Rattle.engine.specs.declared.budget.Budget.{Budget}
use Rattle.engine.specs.declared.bus.Outcome.{Outcome}
use Rattle.engine.specs.declared.bus.Outcome.TheVariants as outcome
use Rattle.engine.specs.declared.bus.Phase.{Phase}
use Rattle.engine.specs.declared.bus.Phase.TheVariants as phase
use Rattle.reading.specs.Pick.{case◌refused◌fault◌headed◌block◌}
use Rattle.reading.specs.Parts as parts
use Rattle.reading.specs.Reading.{start_of, due_ask, headed_of, advance_of, retry_of, end_of, fail_of, heard_head, verdict_of, heard_block, acknowledged_of, weigh_of, judge_of, stored_of, report_of, buffer_after, counted_of}
use Rattle.reading.specs.declared.parts.Reads.{Reads}
use Rattle.reading.specs.declared.parts.Reads.TheVariants as reads
use Rattle.reading.specs.declared.call.ReadPlan.{ReadPlan}
use Rattle.reading.specs.declared.call.ReadCall.{ReadCall}
use Rattle.reading.specs.declared.call.Verdict.{Verdict}
use Rattle.reading.specs.declared.call.Verdict.TheVariants as verdict
use Rattle.answers.specs.Runs.{ReadReport, Reader, call_r, reported_r, feed_r, TameR}
use Rattle.answers.proofs.Laws.{not_done, either}

-- a block that is stored changes nothing after it, and no length
pub stored_after : (at most : ℕ) (b w : List ℕ) → drop (at + most) (stored_at at most b w) ≡ drop (at + most) w
unfolding stored_at block_in when◌then◌else◌
stored_after at most b w = by (leb at (length w)) refl
  where
    laid : List ℕ
    laid = take (min most (min (length b) (length (drop at w)))) b

    short : length laid ≤ most
    short = simp length-take (omega arith)

    by : (t : Bool) → leb at (length w) ≡ t → drop (at + most) (stored_at at most b w) ≡ drop (at + most) w
    by false t = rw t
    by true t =
        let h = leb-true at (length w) t in
        let size : length (take at w) ≡ at = length-take-le at w h in
        rw t
        (subst (λ (k : ℕ). drop (k + most) (take at w ++ over laid (drop at w)) ≡ drop (at + most) w) size
        (drop-append-add (take at w) (over laid (drop at w)) most ∙ drop_over most laid (drop at w) short ∙ drop-drop most at w))

pub stored_length : (at most : ℕ) (b w : List ℕ) → length (stored_at at most b w) ≡ length w
unfolding stored_at block_in when◌then◌else◌
stored_length at most b w = by (leb at (length w)) refl
  where
    laid : List ℕ
    laid = take (min most (min (length b) (length (drop at w)))) b

    fits : length laid ≤ length (drop at w)
    fits = simp length-take (omega arith)

    by : (t : Bool) → leb at (length w) ≡ t → length (stored_at at most b w) ≡ length w
    by false t = rw t
    by true t =
        let h = leb-true at (length w) t in
        let e : length (over laid (drop at w)) ≡ length (drop at w) = length_over laid (drop at w) fits in
        rw t
        (length-append (take at w) (over laid (drop at w)) ∙ omega (arith, e, length-take-le at w h, length-drop at w))

-- where a report can lead a reading call and its buffer
pub data Step (call : ReadCall) (buffer : List ℕ) : ReadCall → List ℕ → Type 0 where
  stays : Step call buffer call buffer
  opens : call.phase ≡ phase.Waiting → Step call buffer (headed_of (counted_of call)) buffer
  goes_on : (bytes : List ℕ) → call.phase ≡ phase.Waiting → call.heading ≡ false → Step call buffer (advance_of (counted_of call)) (stored_of call bytes buffer)
  again : (left : Budget) (ms : ℕ) → call.phase ≡ phase.Waiting → left.left + 1 ≡ call.budget.left → Step call buffer (retry_of (counted_of call) left ms) buffer
  ends : (why : Answer) → call.phase ≡ phase.Waiting → Step call buffer (end_of (counted_of call) why) buffer

-- what a verdict says of the call
abbrev pub Means : ReadCall → Verdict → Type 0
Means call (verdict.Refused a) = Unit {0}
Means call (verdict.Failed a) = call.phase ≡ phase.Waiting
Means call verdict.Head = (call.phase ≡ phase.Waiting) × (call.heading ≡ true)
Means call verdict.Block = (call.phase ≡ phase.Waiting) × (call.heading ≡ false)

module _ (call : ReadCall) where
  block_means : (h : Result (Unit {0}) Unheard) → call.phase ≡ phase.Waiting → call.heading ≡ false → Means call (verdict_of h)
  unfolding verdict_of
  block_means (Err unheard.WrongLength) p f = tt
  block_means (Err unheard.WrongPec) p f = p
  block_means (Ok tt) p f = (p, f)

  head_means : (r : ℕ) → call.phase ≡ phase.Waiting → call.heading ≡ true → Means call (heard_head r)
  unfolding heard_head when◌then◌else◌
  head_means r p h = by (eqb r 0) refl
    where
      by : (t : Bool) → eqb r 0 ≡ t → Means call (heard_head r)
      by true t = let q : heard_head r ≡ verdict.Head = rw t in subst (Means call) (sym q) (p, h)
      by false t = let q : heard_head r ≡ verdict.Refused answer.WrongReply = rw t in subst (Means call) (sym q) tt

  outcome_means : (o : Outcome) (bytes : List ℕ) → call.phase ≡ phase.Waiting → Means call (weigh_of call o bytes)
  unfolding weigh_of acknowledged_of heard_block case◌acknowledged◌error◌timeout◌ when◌then◌else◌
  outcome_means outcome.Acknowledged bytes p = by call.heading refl
    where
      by : (t : Bool) → call.heading ≡ t → Means call (weigh_of call outcome.Acknowledged bytes)
      by true h =
          let q : weigh_of call outcome.Acknowledged bytes ≡ heard_head (length bytes) = rw h in
          subst (Means call) (sym q) (head_means (length bytes) p h)
      by false h =
          let q : weigh_of call outcome.Acknowledged bytes ≡ heard_block (due_ask call) bytes = rw h in
          subst (Means call) (sym q) (block_means (reply.heard_of (due_ask call) bytes) p h)
  outcome_means (outcome.BusError code) bytes p = p
  outcome_means outcome.Timeout bytes p = p

  pub judge_means : (o : Outcome) (bytes : List ℕ) (n w : ℕ) → Means call (judge_of call o bytes n w)
  unfolding judge_of case◌waiting◌ended◌ when◌then◌else◌
  judge_means o bytes n w = by call.phase refl (fits_of call.task.lent n w) refl
    where
      by : (p : Phase) → call.phase ≡ p → (t : Bool) → fits_of call.task.lent n w ≡ t → Means call (judge_of call o bytes n w)
      by (phase.Ended a) e t f =
          let q : judge_of call o bytes n w ≡ verdict.Refused answer.NothingOutstanding = rw e in
          subst (Means call) (sym q) tt
      by phase.Waiting e false f =
          let q : judge_of call o bytes n w ≡ verdict.Refused answer.WrongBuffer = rw (e, f) in
          subst (Means call) (sym q) tt
      by phase.Waiting e true f =
          let q : judge_of call o bytes n w ≡ weigh_of call o bytes = rw (e, f) in
          subst (Means call) (sym q) (outcome_means o bytes e)

  fails : (buffer : List ℕ) (why : Answer) → call.phase ≡ phase.Waiting → Step call buffer (fail_of (counted_of call) why) buffer
  unfolding fail_of counted_of tallied
  fails buffer why e =
      either (λ (c : ReadCall). Step call buffer c buffer) call.task.plan.retries call.task.plan.growing call.budget (retry_of (counted_of call)) (end_of (counted_of call) why) (λ left less. again left _ e less) (λ none. ends why e)

  pub steps : (o : Outcome) (bytes buffer : List ℕ) (w : ℕ) → Step call buffer (call_r (report_of call o bytes (length buffer) w)) (buffer_after call o bytes buffer w)
  unfolding report_of buffer_after case◌refused◌fault◌headed◌block◌ counted_of tallied
  steps o bytes buffer w = by (judge_of call o bytes (length buffer) w) refl
    where
      at : Verdict → Type 0
      at v = judge_of call o bytes (length buffer) w ≡ v → Step call buffer (call_r (report_of call o bytes (length buffer) w)) (buffer_after call o bytes buffer w)

      by : (v : Verdict) → at v
      by (verdict.Refused a) e = rw e stays
      by (verdict.Failed a) e = rw e (fails buffer a (subst (Means call) e (judge_means o bytes (length buffer) w)))
      by verdict.Head e =
          let m : Means call verdict.Head = subst (Means call) e (judge_means o bytes (length buffer) w) in
          rw e (opens m.0)
      by verdict.Block e =
          let m : Means call verdict.Block = subst (Means call) e (judge_means o bytes (length buffer) w) in
          rw e (goes_on bytes m.0 m.1)

-- ---- what stays true

-- what stands in the buffer, with so many of `count` reads made: the bytes past the whole blocks are those of the start
abbrev Front : ℕ → List ℕ → ReadCall → List ℕ → Type 0
Front count start call buffer =
    (call.phase ≡ phase.Ended answer.Done)
    ⊎ ((drop (call.received * 32) buffer ≡ drop (call.received * 32) start) × ((call.received ≡ 0) ⊎ (call.received < count)))

pub record Sound (count : ℕ) (start : List ℕ) (r : Reader) : Type 0 where
  counts : parts.read_count r.call.task.plan.reads r.call.task.lent.length ≡ count
  pub due : r.call.phase ≡ phase.Waiting → r.call.heading ≡ false → r.call.received < count
  pub more : r.call.phase ≡ phase.Waiting → 0 < count → r.call.received < count
  bare : r.call.phase ≡ phase.Waiting → parts.has_head r.call.task.plan.head ≡ false → r.call.received < count
  some : r.call.received ≤ 256
  waits : r.call.tally.waits + r.call.budget.left ≡ r.call.task.plan.retries
  bound : r.call.task.plan.retries ≤ 65535
  size : length r.buffer ≡ length start
  front : Front count start r.call r.buffer

-- a waiting call has not ended well
waiting_front : (count : ℕ) (start : List ℕ) (call : ReadCall) (buffer : List ℕ) → call.phase ≡ phase.Waiting → Front count start call buffer
    → (drop (call.received * 32) buffer ≡ drop (call.received * 32) start) × ((call.received ≡ 0) ⊎ (call.received < count))
waiting_front count start call buffer e (inl d) = let z : ◌≡◌ {A = ℕ} 0 1 = cc in absurd (omega arith)
waiting_front count start call buffer e (inr f) = f

-- a block that was handed over: the last one, or one of 32 bytes with others to come
block_front : (count : ℕ) (start : List ℕ) (call : ReadCall) (bytes buffer : List ℕ) → count ≤ 256
    → parts.read_count call.task.plan.reads call.task.lent.length ≡ count → call.received < count
    → drop (call.received * 32) buffer ≡ drop (call.received * 32) start
    → Front count start (advance_of (counted_of call)) (stored_of call bytes buffer)
unfolding advance_of stored_of phase_after parts.most_of parts.read_count when◌then◌else◌ counted_of tallied
block_front count start call bytes buffer few counts below same = by call.task.plan.reads refl (leb count (more_of call.received)) refl
  where
    next : more_of call.received ≡ call.received + 1
    next = omega arith

    done : leb count (more_of call.received) ≡ true → Front count start (advance_of (counted_of call)) (stored_of call bytes buffer)
    done t = inl (rw (counts, t))

    past : (call.received + 1) * 32 ≡ call.received * 32 + 32
    past = omega arith

    by : (k : Reads) → call.task.plan.reads ≡ k → (t : Bool) → leb count (more_of call.received) ≡ t → Front count start (advance_of (counted_of call)) (stored_of call bytes buffer)
    by k e true t = done t
    by reads.Nothing e false t =
        let none : 0 ≡ count = rw e at counts in
        absurd (omega arith)
    by (reads.Once ask) e false t =
        let one : 1 ≡ count = rw e at counts in
        let more = leb-false count (more_of call.received) t in
        absurd (omega arith)
    by (reads.Blocks pec) e false t = inr (
      rw (next, past, e)
          (stored_after (call.received * 32) 32 _ buffer ∙ sym (drop-drop 32 (call.received * 32) buffer) ∙ ap (drop 32) same ∙ drop-drop 32 (call.received * 32) start),
      inr (leb-false count (more_of call.received) t),
    )

module _ (count : ℕ) (start : List ℕ) (few : count ≤ 256) where
  keeps : (call after : ReadCall) (buffer left : List ℕ) → Step call buffer after left
      → Sound count start (record { call = call; buffer = buffer }) → Sound count start (record { call = after; buffer = left })
  unfolding headed_of advance_of retry_of end_of waited stored_of counted_of tallied
  keeps call after buffer left stays s = s
  keeps call after buffer left (opens e) s = record {
    counts = s.counts;
    due = λ w h. rw s.counts at (not_done _ _ w);
    more = λ w h. rw s.counts at (not_done _ _ w);
    bare = λ w h. rw s.counts at (not_done _ _ w);
    some = s.some;
    waits = s.waits;
    bound = s.bound;
    size = s.size;
    front = inr (waiting_front count start call buffer e s.front);
  }
  keeps call after buffer left (goes_on bytes e h) s =
      let below = s.due e h in record {
        counts = s.counts;
        due = λ w x. rw s.counts at (not_done _ _ w);
        more = λ w x. rw s.counts at (not_done _ _ w);
        bare = λ w x. rw s.counts at (not_done _ _ w);
        some = omega (arith, s.some);
        waits = s.waits;
        bound = s.bound;
        size = stored_length _ _ _ buffer ∙ s.size;
        front = block_front count start call bytes buffer few s.counts below (waiting_front count start call buffer e s.front).0;
      }
  keeps call after buffer left (again budget ms e less) s = record {
    counts = s.counts;
    due = λ w h. s.bare e h;
    more = λ w h. s.more e h;
    bare = λ w h. s.bare e h;
    some = s.some;
    waits = omega (arith, s.waits, s.bound);
    bound = s.bound;
    size = s.size;
    front = inr (waiting_front count start call buffer e s.front);
  }
  keeps call after buffer left (ends why e) s = record {
    counts = s.counts;
    due = λ w h. s.due e h;
    more = λ w h. s.more e h;
    bare = λ w h. s.bare e h;
    some = s.some;
    waits = s.waits;
    bound = s.bound;
    size = s.size;
    front = inr (waiting_front count start call buffer e s.front);
  }

  fed : (es : List ReadReport) (r : Reader) → Sound count start r → Sound count start (feed_r r es)
  unfolding feed_r
  fed [] r s = s
  fed (e ∷ es) r s =
      fed es (reported_r r e) (keeps r.call (reported_r r e).call r.buffer (reported_r r e).buffer (steps r.call e.outcome e.reply r.buffer e.work) s)

module _ (plan : ReadPlan) (w : ℕ) (buffer : List ℕ) (r : plan.retries ≤ 65535) (bare : parts.has_head plan.head ≡ false → 0 < parts.read_count plan.reads (length buffer))
    (few : parts.read_count plan.reads (length buffer) ≤ 256) (es : List ReadReport) where
  abbrev pub after : Reader
  after = feed_r (record { call = start_of plan (length buffer) w; buffer = buffer }) es

  pub sound : Sound (parts.read_count plan.reads (length buffer)) buffer after
  unfolding start_of nothing
  sound =
      fed (parts.read_count plan.reads (length buffer)) buffer few es (record { call = start_of plan (length buffer) w; buffer = buffer })
      (record {
        counts = refl;
        due = λ e h. bare h;
        more = λ e h. h;
        bare = λ e h. bare h;
        some = omega arith;
        waits = omega arith;
        bound = r;
        size = refl;
        front = inr (refl, inl refl);
      })

  -- a started reading call never gets near the end of a counter
  pub tame : TameR after.call
  tame = let s = sound in record { blocks = s.some; budget = s.waits; waits = omega (arith, s.waits, s.bound) }

  -- and until it has ended well, the buffer past the whole blocks is as it was
  pub kept : (after.call.phase ≡ phase.Ended answer.Done → ⊥) → drop (after.call.received * 32) after.buffer ≡ drop (after.call.received * 32) buffer
  kept undone = by sound.front
    where
      by : Front (parts.read_count plan.reads (length buffer)) buffer after.call after.buffer
          → drop (after.call.received * 32) after.buffer ≡ drop (after.call.received * 32) buffer
      by (inl d) = absurd (undone d)
      by (inr f) = f.0

  -- with a single read it is as it was altogether
  pub untouched : parts.read_count plan.reads (length buffer) ≤ 1 → (after.call.phase ≡ phase.Ended answer.Done → ⊥) → after.buffer ≡ buffer
  untouched one undone = by sound.front
    where
      by : Front (parts.read_count plan.reads (length buffer)) buffer after.call after.buffer → after.buffer ≡ buffer
      by (inl d) = absurd (undone d)
      by (inr (same, inl none)) = rw none at same
      by (inr (same, inr less)) = let none : after.call.received ≡ 0 = omega arith in rw none at same

-- no report changes what a call was started for
step_task : (call after : ReadCall) (buffer left : List ℕ) → Step call buffer after left → after.task ≡ call.task
unfolding headed_of advance_of retry_of end_of counted_of
step_task call after buffer left stays = refl
step_task call after buffer left (opens e) = refl
step_task call after buffer left (goes_on bytes e h) = refl
step_task call after buffer left (again budget ms e less) = refl
step_task call after buffer left (ends why e) = refl

pub same_task : (es : List ReadReport) (r : Reader) → (feed_r r es).call.task ≡ r.call.task
unfolding feed_r
same_task [] r = refl
same_task (e ∷ es) r =
    same_task es (reported_r r e)
    ∙ step_task r.call (reported_r r e).call r.buffer (reported_r r e).buffer (steps r.call e.outcome e.reply r.buffer e.work)

-- a call that has ended, or was refused at its start, stays as it is, and so does the buffer
pub over_stays : (es : List ReadReport) (r : Reader) (a : Answer) → r.call.phase ≡ phase.Ended a → feed_r r es ≡ r
unfolding feed_r report_of buffer_after judge_of case◌refused◌fault◌headed◌block◌ case◌waiting◌ended◌
over_stays [] r a e = refl
over_stays (x ∷ es) r a e =
    let q : reported_r r x ≡ r = rw e in ap (λ (s : Reader). feed_r s es) q ∙ over_stays es r a e
