-- A call takes the outcome of the transfer that it shows, whatever it is, with as many bytes as were asked.
-- Assumes nothing.
use Rattle.std.specs.Prelude.{Ok}
use Prim.Native.Nat.{ℕ}
use mathlib.Core.Path.{◌≡◌, refl, sym, ap, subst, ◌∙◌}
use mathlib.Core.Bool.{Bool, true, false}
use mathlib.Core.List.{List}
use lib.ListN.{length}
use lib.Dec.{eqb}
use borrow.Author.Tests.{eq-eqb}
use Rattle.protocol.specs.Pick.{when◌then◌else◌}
use Rattle.protocol.specs.Reply as reply
use Rattle.protocol.specs.declared.error.Answer.TheVariants as answer
use Rattle.engine.specs.Pick.{case◌waiting◌ended◌, case◌acknowledged◌error◌timeout◌}
use Rattle.engine.specs.Made.{Made}
use Rattle.engine.specs.declared.bus.Outcome.{Outcome}
use Rattle.engine.specs.declared.bus.Outcome.TheVariants as outcome
use Rattle.engine.specs.declared.bus.Phase.TheVariants as phase
use Rattle.engine.specs.declared.bus.Transfer.{Transfer}
use Rattle.engine.specs.declared.bus.Transfer.TheVariants as transfer
use Rattle.writing.specs.Writing as writing
use Rattle.writing.specs.declared.call.WriteCall.{WriteCall}
use Rattle.reading.specs.Pick.{case◌refused◌fault◌headed◌block◌}
use Rattle.reading.specs.Reading as reading
use Rattle.reading.specs.declared.call.ReadCall.{ReadCall}
use Rattle.calls.specs.Call.{next_of, work_after, wrote_of, got_of, report_of, phase_of}
use Rattle.calls.specs.declared.call.Call.{Call}
use Rattle.calls.specs.declared.call.Call.TheVariants as call
use Rattle.original.specs.Bus.{brings}
use Rattle.answers.specs.Rows.{Same, asked}
use Rattle.answers.specs.Steps.{Shown, AsksNothing, AsksOf}
use Rattle.answers.proofs.Laws.{same_fits}
use Rattle.answers.proofs.Sorts.{shows_w, shows_r}
use Rattle.answers.proofs.Again.{again}
use Rattle.promises.specs.RunLaws.{Shows, shows_write, shows_read}

-- ---- a writing call

-- what it shows, it shows again with the work buffer as that left it
shown_w : (c : WriteCall) (payload work : List ℕ) (t : Transfer) → writing.next_of c payload (length work) ≡ t
    → Shown (Unit {0}) AsksNothing c.phase c.task.lent (length payload) (length (writing.work_after c payload work)) (writing.work_after c payload work) (writing.work_after c payload (writing.work_after c payload work)) t
shown_w c payload work t e =
    subst
    (λ (x : Transfer). Shown (Unit {0}) AsksNothing c.phase c.task.lent (length payload) (length (writing.work_after c payload work)) (writing.work_after c payload work) (writing.work_after c payload (writing.work_after c payload work)) x)
    ((again.writing c payload work).0 ∙ e) (shows_w c payload (writing.work_after c payload work))

taken_w : (c : WriteCall) (o : Outcome) (r n w : ℕ) → c.phase ≡ phase.Waiting → Same c.task.lent n w → (o ≡ outcome.Acknowledged → r ≡ 0)
    → writing.report_of c o r n w ≡ Ok (writing.settle_of (writing.counted_of c) o)
unfolding writing.report_of writing.replied_of case◌waiting◌ended◌ case◌acknowledged◌error◌timeout◌ when◌then◌else◌
taken_w c outcome.Acknowledged r n w p s h = rw (p, same_fits c.task.lent n w s, eq-eqb r 0 (h refl))
taken_w c (outcome.BusError code) r n w p s h = rw (p, same_fits c.task.lent n w s)
taken_w c outcome.Timeout r n w p s h = rw (p, same_fits c.task.lent n w s)

-- ---- a reading call

shown_r : (c : ReadCall) (n : ℕ) (work : List ℕ) (t : Transfer) → reading.next_of c n (length work) ≡ t
    → Shown (c.heading ≡ true) (AsksOf c) c.phase c.task.lent n (length (reading.work_after c n work)) (reading.work_after c n work) (reading.work_after c n (reading.work_after c n work)) t
shown_r c n work t e =
    subst
    (λ (x : Transfer). Shown (c.heading ≡ true) (AsksOf c) c.phase c.task.lent n (length (reading.work_after c n work)) (reading.work_after c n work) (reading.work_after c n (reading.work_after c n work)) x)
    ((again.reading c n work).0 ∙ e) (shows_r c n (reading.work_after c n work))

module _ (c : ReadCall) (n w : ℕ) (p : c.phase ≡ phase.Waiting) (s : Same c.task.lent n w) where
  fine : (bytes : List ℕ) → length bytes ≡ asked c → (next : ReadCall) × (reading.report_of c outcome.Acknowledged bytes n w ≡ Ok next)
  unfolding reading.report_of reading.judge_of reading.weigh_of reading.acknowledged_of reading.heard_head reading.heard_block reading.verdict_of reply.heard_of asked case◌waiting◌ended◌ case◌acknowledged◌error◌timeout◌ case◌refused◌fault◌headed◌block◌ when◌then◌else◌
  fine bytes long = by c.heading refl (reading.due_ask c).pec refl (reply.checked_of (reading.due_ask c).covered bytes) refl
    where
      asks : Bool → ℕ
      asks heading = when heading then 0 else reply.bytes_asked (reading.due_ask c)

      by : (h : Bool) → c.heading ≡ h → (k : Bool) → (reading.due_ask c).pec ≡ k → (g : Bool) → reply.checked_of (reading.due_ask c).covered bytes ≡ g
          → (next : ReadCall) × (reading.report_of c outcome.Acknowledged bytes n w ≡ Ok next)
      by true h k x g y =
          let none : length bytes ≡ 0 = long ∙ ap asks h in
          (reading.headed_of (reading.counted_of c), rw (none, same_fits c.task.lent n w s, h, p))
      by false h false x g y =
          let all : eqb (reply.bytes_asked (reading.due_ask c)) (length bytes) ≡ true = eq-eqb _ _ (sym (long ∙ ap asks h)) in
          (reading.advance_of (reading.counted_of c), rw (all, x, same_fits c.task.lent n w s, h, p))
      by false h true x true y =
          let all : eqb (reply.bytes_asked (reading.due_ask c)) (length bytes) ≡ true = eq-eqb _ _ (sym (long ∙ ap asks h)) in
          (reading.advance_of (reading.counted_of c), rw (all, x, y, same_fits c.task.lent n w s, h, p))
      by false h true x false y =
          let all : eqb (reply.bytes_asked (reading.due_ask c)) (length bytes) ≡ true = eq-eqb _ _ (sym (long ∙ ap asks h)) in
          (reading.fail_of (reading.counted_of c) answer.Pec, rw (all, x, y, same_fits c.task.lent n w s, h, p))

  taken_r : (o : Outcome) (bytes : List ℕ) → (o ≡ outcome.Acknowledged → length bytes ≡ asked c) → (next : ReadCall) × (reading.report_of c o bytes n w ≡ Ok next)
  unfolding reading.report_of reading.judge_of reading.weigh_of case◌waiting◌ended◌ case◌acknowledged◌error◌timeout◌ case◌refused◌fault◌headed◌block◌ when◌then◌else◌
  taken_r outcome.Acknowledged bytes long = fine bytes (long refl)
  taken_r (outcome.BusError code) bytes long = (reading.fail_of (reading.counted_of c) (answer.I2c code), rw (p, same_fits c.task.lent n w s))
  taken_r outcome.Timeout bytes long = (reading.fail_of (reading.counted_of c) answer.Timeout, rw (p, same_fits c.task.lent n w s))

-- ---- any call

-- a call that shows a transfer waits
pub shows_waits : (c : Call) (payload buffer work : List ℕ) (made : Made) → Shows c payload buffer work made → phase_of c ≡ phase.Waiting
unfolding next_of phase_of
shows_waits (call.Write c) payload buffer work made (shows_write n shows) = (shown_w c payload work (transfer.Write n) shows).0
shows_waits (call.Write c) payload buffer work made (shows_read command count shows) = (shown_w c payload work (transfer.Read command count) shows).0
shows_waits (call.Read c) payload buffer work made (shows_write n shows) = (shown_r c (length buffer) work (transfer.Write n) shows).0
shows_waits (call.Read c) payload buffer work made (shows_read command count shows) = (shown_r c (length buffer) work (transfer.Read command count) shows).0

-- and takes what becomes of it
pub takes : (c : Call) (payload buffer work : List ℕ) (made : Made) → Shows c payload buffer work made → (o : Outcome) (bytes : List ℕ) → (o ≡ outcome.Acknowledged → length bytes ≡ brings made)
    → (next : Call) × (report_of c o bytes (length payload) (length buffer) (length (work_after c payload (length buffer) work)) ≡ Ok next)
unfolding next_of work_after report_of wrote_of got_of brings asked when◌then◌else◌
takes (call.Write c) payload buffer work made (shows_write n shows) o bytes long =
    let s = shown_w c payload work (transfer.Write n) shows in
    (call.Write (writing.settle_of (writing.counted_of c) o), rw (taken_w c o (length bytes) (length payload) (length (writing.work_after c payload work)) s.0 s.1 long))
takes (call.Write c) payload buffer work made (shows_read command count shows) o bytes long = absurd (shown_w c payload work (transfer.Read command count) shows).2
takes (call.Read c) payload buffer work made (shows_write n shows) o bytes long =
    let s = shown_r c (length buffer) work (transfer.Write n) shows in
    let t = taken_r c (length buffer) (length (reading.work_after c (length buffer) work)) s.0 s.1 o bytes (λ e. rw s.2 (long e)) in
    (call.Read t.0, rw t.1)
takes (call.Read c) payload buffer work made (shows_read command count shows) o bytes long =
    let s = shown_r c (length buffer) work (transfer.Read command count) shows in
    let t = taken_r c (length buffer) (length (reading.work_after c (length buffer) work)) s.0 s.1 o bytes (λ e. long e ∙ s.2.2) in
    (call.Read t.0, rw t.1)

-- ---- no transfer

-- no transfer is shown: the call has ended, or is not lent the lengths of its start
abbrev pub Idle : Transfer → Type 0
Idle (transfer.Write n) = ⊥
Idle (transfer.Read command count) = ⊥
Idle (transfer.Refused a) = Unit {0}
Idle (transfer.Ended a) = Unit {0}

-- one that shows a transfer is not idle
pub not_idle : (c : Call) (payload buffer work : List ℕ) (made : Made) → Shows c payload buffer work made → Idle (next_of c payload (length buffer) (length work)) → ⊥
not_idle c payload buffer work made (shows_write n e) idle = rw e at idle
not_idle c payload buffer work made (shows_read command count e) idle = rw e at idle
