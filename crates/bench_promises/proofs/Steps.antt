-- What a call that shows a transfer makes of an outcome: it takes every failure and every reply of the length that is asked, and refuses any other with 9.
-- Assumes nothing.
use Rattle.engine.specs.Bus.{Reported}
use Rattle.std.specs.Prelude.{Err, None, Ok, Some, Option}
use Prim.Native.Nat.{ℕ}
use mathlib.Core.Path.{◌≡◌, refl, sym, subst, ◌∙◌}
use mathlib.Core.Bool.{Bool, true, false}
use mathlib.Core.List.{List}
use lib.ListN.{length}
use borrow.Author.Tests.{eq-eqb, ne_eqb}
use Rattle.protocol.specs.Pick.{when◌then◌else◌}
use Rattle.protocol.specs.Frame.{laid_of}
use Rattle.protocol.specs.Reply.{bytes_asked, checked_of, heard_of}
use Rattle.protocol.specs.declared.error.Answer.TheVariants as answer
use Rattle.protocol.specs.declared.reply.Unheard.TheVariants as unheard
use Rattle.engine.specs.Pick.{case◌waiting◌ended◌, case◌acknowledged◌error◌timeout◌}
use Rattle.engine.specs.Bus.{write_of, fits_of}
use Rattle.engine.specs.declared.bus.Outcome.{Outcome}
use Rattle.engine.specs.declared.bus.Outcome.TheVariants as outcome
use Rattle.engine.specs.declared.bus.Phase.{Phase}
use Rattle.engine.specs.declared.bus.Phase.TheVariants as phase
use Rattle.engine.specs.declared.bus.Transfer.{Transfer}
use Rattle.engine.specs.declared.bus.Transfer.TheVariants as transfer
use Rattle.writing.specs.Writing as writing
use Rattle.writing.specs.declared.call.WriteCall.{WriteCall}
use Rattle.reading.specs.Pick.{case◌refused◌fault◌headed◌block◌}
use Rattle.reading.specs.Parts as parts
use Rattle.reading.specs.Reading as reading
use Rattle.reading.specs.declared.call.ReadCall.{ReadCall}
use Rattle.reading.specs.declared.call.Verdict.{Verdict}
use Rattle.reading.specs.declared.call.Verdict.TheVariants as verdict
use Rattle.calls.specs.Call.{next_of, wrote_of, got_of, report_of, buffer_after}
use Rattle.calls.specs.declared.call.Call.{Call}
use Rattle.calls.specs.declared.call.Call.TheVariants as call

-- how many bytes a transfer that is shown brings
abbrev pub brought : Transfer → ℕ
brought (transfer.Write n) = 0
brought (transfer.Read command n) = n
brought (transfer.Refused a) = 0
brought (transfer.Ended a) = 0

abbrev pub IsTransfer : Transfer → Type 0
IsTransfer (transfer.Write n) = Unit {0}
IsTransfer (transfer.Read command n) = Unit {0}
IsTransfer (transfer.Refused a) = ⊥
IsTransfer (transfer.Ended a) = ⊥

abbrev pub IsTaken : Reported Call → Type 0
IsTaken (Ok c) = Unit {0}
IsTaken (Err (a, c)) = ⊥

abbrev pub Failure : Outcome → Type 0
Failure outcome.Acknowledged = ⊥
Failure (outcome.BusError code) = Unit {0}
Failure outcome.Timeout = Unit {0}

-- a call with a payload of p bytes and its buffer, where a transfer that brings so many bytes is outstanding
pub record Takes (c : Call) (p : ℕ) (buffer : List ℕ) (asks : ℕ) : Type 0 where
  pub failed : (o : Outcome) (s t : List ℕ) → Failure o
      → IsTaken (report_of c o s p (length buffer) 39)
      × (report_of c o s p (length buffer) 39 ≡ report_of c o t p (length buffer) 39)
      × (buffer_after c o s buffer 39 ≡ buffer_after c o t buffer 39)
  pub right : (s : List ℕ) → length s ≡ asks → IsTaken (report_of c outcome.Acknowledged s p (length buffer) 39)
  pub wrong : (s : List ℕ) → (length s ≡ asks → ⊥)
      → (report_of c outcome.Acknowledged s p (length buffer) 39 ≡ Err (answer.WrongReply, c)) × (buffer_after c outcome.Acknowledged s buffer 39 ≡ buffer)

-- ---- a writing call

module _ (c : WriteCall) (payload : List ℕ) where
  open_w : IsTransfer (writing.next_of c payload 39) → (c.phase ≡ phase.Waiting) × (fits_of c.task.lent (length payload) 39 ≡ true)
  unfolding writing.next_of case◌waiting◌ended◌ when◌then◌else◌
  open_w h = by c.phase refl (fits_of c.task.lent (length payload) 39) refl
    where
      by : (p : Phase) → c.phase ≡ p → (f : Bool) → fits_of c.task.lent (length payload) 39 ≡ f → (c.phase ≡ phase.Waiting) × (fits_of c.task.lent (length payload) 39 ≡ true)
      by phase.Waiting q true g = (q, g)
      by phase.Waiting q false g = absurd (rw (q, g) at h)
      by (phase.Ended a) q f g = absurd (rw q at h)

  takes_w : (buffer : List ℕ) → IsTransfer (writing.next_of c payload 39) → Takes (call.Write c) (length payload) buffer 0
  unfolding report_of buffer_after wrote_of writing.report_of writing.replied_of case◌waiting◌ended◌ case◌acknowledged◌error◌timeout◌ when◌then◌else◌
  takes_w buffer h =
      let o = open_w h in
      record {
        failed = by o;
        right = λ s e. rw (o.0, o.1, eq-eqb (length s) 0 e) tt;
        wrong = λ s e. (rw (o.0, o.1, ne_eqb (length s) 0 e), refl);
      }
    where
      by : (c.phase ≡ phase.Waiting) × (fits_of c.task.lent (length payload) 39 ≡ true) → (o : Outcome) (s t : List ℕ) → Failure o
          → IsTaken (report_of (call.Write c) o s (length payload) (length buffer) 39)
          × (report_of (call.Write c) o s (length payload) (length buffer) 39 ≡ report_of (call.Write c) o t (length payload) (length buffer) 39)
          × (buffer ≡ buffer)
      by o outcome.Acknowledged s t h = absurd h
      by o (outcome.BusError code) s t h = (rw (o.0, o.1) tt, refl, refl)
      by o outcome.Timeout s t h = (rw (o.0, o.1) tt, refl, refl)

  -- it never asks for a read
  reads_none : brought (writing.next_of c payload 39) ≡ 0
  unfolding writing.next_of writing.shown_of case◌waiting◌ended◌ when◌then◌else◌ write_of
  reads_none = by c.phase (fits_of c.task.lent (length payload) 39) (writing.own_bytes c) (laid_of c.task.plan.pec (writing.due_bytes c payload) 39)
    where
      by : (p : Phase) (f own : Bool) (l : Option ℕ)
          → brought (case p waiting (when f then (when own then transfer.Write (length payload) else write_of l) else transfer.Refused answer.WrongBuffer) ended transfer.Ended) ≡ 0
      by phase.Waiting true true l = refl
      by phase.Waiting true false (Some n) = refl
      by phase.Waiting true false None = refl
      by phase.Waiting false own l = refl
      by (phase.Ended a) f own l = refl

-- ---- a reading call

abbrev NoRefusal : Verdict → Type 0
NoRefusal (verdict.Refused a) = ⊥
NoRefusal (verdict.Failed a) = Unit {0}
NoRefusal verdict.Head = Unit {0}
NoRefusal verdict.Block = Unit {0}

brought_head : (l : Option ℕ) → brought (write_of l) ≡ 0
unfolding write_of
brought_head (Some n) = refl
brought_head None = refl

believed : (pec good : Bool) → NoRefusal (reading.verdict_of (when pec then (when good then (Ok tt) else (Err unheard.WrongPec)) else (Ok tt)))
unfolding reading.verdict_of when◌then◌else◌
believed true true = tt
believed true false = tt
believed false good = tt

module _ (c : ReadCall) (payload buffer : List ℕ) where
  open_r : IsTransfer (reading.next_of c (length buffer) 39) → (c.phase ≡ phase.Waiting) × (fits_of c.task.lent (length buffer) 39 ≡ true)
  unfolding reading.next_of case◌waiting◌ended◌ when◌then◌else◌
  open_r h = by c.phase refl (fits_of c.task.lent (length buffer) 39) refl
    where
      by : (p : Phase) → c.phase ≡ p → (f : Bool) → fits_of c.task.lent (length buffer) 39 ≡ f → (c.phase ≡ phase.Waiting) × (fits_of c.task.lent (length buffer) 39 ≡ true)
      by phase.Waiting q true g = (q, g)
      by phase.Waiting q false g = absurd (rw (q, g) at h)
      by (phase.Ended a) q f g = absurd (rw q at h)

  -- what is weighed is reported
  judged : IsTransfer (reading.next_of c (length buffer) 39) → (o : Outcome) (s : List ℕ) (v : Verdict) → reading.weigh_of c o s ≡ v → reading.judge_of c o s (length buffer) 39 ≡ v
  unfolding reading.judge_of case◌waiting◌ended◌ when◌then◌else◌
  judged h o s v e =
      let w = open_r h in
      let q : reading.judge_of c o s (length buffer) 39 ≡ reading.weigh_of c o s = rw (w.1, w.0) in
      q ∙ e

  taken : (o : Outcome) (s : List ℕ) (v : Verdict) → reading.judge_of c o s (length buffer) 39 ≡ v → NoRefusal v → IsTaken (report_of (call.Read c) o s (length payload) (length buffer) 39)
  unfolding report_of got_of reading.report_of case◌refused◌fault◌headed◌block◌
  taken o s (verdict.Refused a) e h = absurd h
  taken o s (verdict.Failed a) e h = rw e tt
  taken o s verdict.Head e h = rw e tt
  taken o s verdict.Block e h = rw e tt

  -- a failure is weighed with no look at the reply
  failed_r : IsTransfer (reading.next_of c (length buffer) 39) → (o : Outcome) (s t : List ℕ) → Failure o
      → IsTaken (report_of (call.Read c) o s (length payload) (length buffer) 39)
      × (report_of (call.Read c) o s (length payload) (length buffer) 39 ≡ report_of (call.Read c) o t (length payload) (length buffer) 39)
      × (buffer_after (call.Read c) o s buffer 39 ≡ buffer_after (call.Read c) o t buffer 39)
  unfolding report_of buffer_after got_of reading.report_of reading.buffer_after reading.weigh_of case◌refused◌fault◌headed◌block◌ case◌acknowledged◌error◌timeout◌
  failed_r h outcome.Acknowledged s t f = absurd f
  failed_r h (outcome.BusError code) s t f =
      let a = judged h (outcome.BusError code) s (verdict.Failed (answer.I2c code)) refl in
      let b = judged h (outcome.BusError code) t (verdict.Failed (answer.I2c code)) refl in
      (rw a tt, rw (a, b), rw (a, b))
  failed_r h outcome.Timeout s t f =
      let a = judged h outcome.Timeout s (verdict.Failed answer.Timeout) refl in
      let b = judged h outcome.Timeout t (verdict.Failed answer.Timeout) refl in
      (rw a tt, rw (a, b), rw (a, b))

  -- how many bytes are asked: none by a head
  asked_r : IsTransfer (reading.next_of c (length buffer) 39) → brought (reading.next_of c (length buffer) 39) ≡ (when c.heading then 0 else bytes_asked (reading.due_ask c))
  unfolding reading.next_of reading.shown_of reading.shown_head reading.due_ask case◌waiting◌ended◌ when◌then◌else◌ write_of
  asked_r h = let w = open_r h in rw (w.1, w.0) (by c.heading refl)
    where
      by : (b : Bool) → c.heading ≡ b
          → brought (when b then write_of (laid_of c.task.plan.head_pec (parts.head_bytes c.task.plan.head c.received) 39)
          else transfer.Read (reading.due_ask c).command (bytes_asked (reading.due_ask c)))
          ≡ (when b then 0 else bytes_asked (reading.due_ask c))
      by true e = brought_head (laid_of c.task.plan.head_pec (parts.head_bytes c.task.plan.head c.received) 39)
      by false e = refl

  right_r : (s : List ℕ) → length s ≡ (when c.heading then 0 else bytes_asked (reading.due_ask c)) → NoRefusal (reading.weigh_of c outcome.Acknowledged s)
  unfolding reading.weigh_of reading.acknowledged_of reading.heard_head reading.heard_block reading.verdict_of heard_of case◌acknowledged◌error◌timeout◌ when◌then◌else◌
  right_r s = by c.heading
    where
      by : (b : Bool) → length s ≡ (when b then 0 else bytes_asked (reading.due_ask c)) → NoRefusal (when b then reading.heard_head (length s) else reading.heard_block (reading.due_ask c) s)
      by true e = rw (eq-eqb (length s) 0 e) tt
      by false e = rw (eq-eqb (bytes_asked (reading.due_ask c)) (length s) (sym e)) (believed (reading.due_ask c).pec (checked_of (reading.due_ask c).covered s))

  wrong_r : (s : List ℕ) → (length s ≡ (when c.heading then 0 else bytes_asked (reading.due_ask c)) → ⊥) → reading.weigh_of c outcome.Acknowledged s ≡ verdict.Refused answer.WrongReply
  unfolding reading.weigh_of reading.acknowledged_of reading.heard_head reading.heard_block reading.verdict_of heard_of case◌acknowledged◌error◌timeout◌ when◌then◌else◌
  wrong_r s = by c.heading
    where
      by : (b : Bool) → (length s ≡ (when b then 0 else bytes_asked (reading.due_ask c)) → ⊥)
          → (when b then reading.heard_head (length s) else reading.heard_block (reading.due_ask c) s) ≡ verdict.Refused answer.WrongReply
      by true e = rw (ne_eqb (length s) 0 e)
      by false e = rw (ne_eqb (bytes_asked (reading.due_ask c)) (length s) (λ q. e (sym q)))

  takes_r : IsTransfer (reading.next_of c (length buffer) 39) → Takes (call.Read c) (length payload) buffer (brought (reading.next_of c (length buffer) 39))
  unfolding report_of buffer_after got_of reading.report_of reading.buffer_after case◌refused◌fault◌headed◌block◌
  takes_r h = record {
    failed = failed_r h;
    right = λ s e. taken outcome.Acknowledged s _ (judged h outcome.Acknowledged s _ refl) (right_r s (e ∙ asked_r h));
    wrong = λ s e.
        let q = judged h outcome.Acknowledged s _ (wrong_r s (λ k. e (k ∙ sym (asked_r h)))) in
        (rw q, rw q);
  }

-- ---- any call

pub takes : (c : Call) (payload buffer : List ℕ) → IsTransfer (next_of c payload (length buffer) 39) → Takes c (length payload) buffer (brought (next_of c payload (length buffer) 39))
unfolding next_of
takes (call.Write c) payload buffer h = subst (Takes (call.Write c) (length payload) buffer) (sym (reads_none c payload)) (takes_w c payload buffer h)
takes (call.Read c) payload buffer h = takes_r c payload buffer h
