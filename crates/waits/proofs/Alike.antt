-- A call without its total and its setting goes the same way as with them: nothing that it does depends on either.
-- Assumes nothing.
use Rattle.engine.specs.Bus.{Reported}
use Rattle.std.specs.Prelude.{Err, Ok}
use Prim.Native.Nat.{ℕ}
use mathlib.Core.Path.{◌≡◌, refl, sym, ap, ◌∙◌}
use mathlib.Core.Bool.{Bool, true, false}
use mathlib.Core.List.{List, [], ◌∷◌}
use lib.Dec.{eqb}
use lib.ListN.{length}
use Rattle.protocol.specs.Pick.{when◌then◌else◌}
use Rattle.protocol.specs.declared.common.Config.{Config}
use Rattle.protocol.specs.declared.error.Answer.{Answer}
use Rattle.protocol.specs.declared.error.Answer.TheVariants as answer
use Rattle.engine.specs.Pick.{case◌waiting◌ended◌, case◌acknowledged◌error◌timeout◌, case◌retry◌spent◌}
use Rattle.engine.specs.Budget.{failed, waited, tallied}
use Rattle.engine.specs.Bus as bus
use Rattle.engine.specs.declared.budget.Tally.{Tally}
use Rattle.engine.specs.declared.bus.Outcome.{Outcome}
use Rattle.engine.specs.declared.bus.Outcome.TheVariants as outcome
use Rattle.engine.specs.declared.bus.Phase.{Phase}
use Rattle.engine.specs.declared.bus.Phase.TheVariants as phase
use Rattle.writing.specs.Writing as writing
use Rattle.writing.specs.declared.call.WriteCall.{WriteCall}
use Rattle.reading.specs.Pick.{case◌refused◌fault◌headed◌block◌}
use Rattle.reading.specs.Reading as reading
use Rattle.reading.specs.declared.call.ReadCall.{ReadCall}
use Rattle.reading.specs.declared.call.Verdict.{Verdict}
use Rattle.reading.specs.declared.call.Verdict.TheVariants as verdict
use Rattle.calls.specs.Kind.{plan_of}
use Rattle.calls.specs.Call.{start_with, start_of, next_of, work_after, part_of, wrote_of, got_of, report_of, buffer_after, phase_of, tally_of, fits_of}
use Rattle.calls.specs.declared.call.Call.{Call}
use Rattle.calls.specs.declared.call.Call.TheVariants as call
use Rattle.calls.specs.declared.kind.Kind.{Kind}
use Rattle.calls.specs.declared.kind.Plan.{Plan}
use Rattle.calls.specs.declared.kind.Plan.TheVariants as plan
use Rattle.ceilings.specs.Reports.{Report, came_of, call_after, feed}
use Rattle.waits.specs.Waits.{with_growing, refusal, AlikeButWaited}
use Rattle.waits.proofs.Plans.{paced_w, paced_r, paced, by_settings}

-- ---- a call without its total, and with waits of one length

abbrev untimed : Tally → Tally
untimed tally = record { waits = tally.waits; waited_ms = 0; transfers = tally.transfers }

abbrev untimed_w : WriteCall → WriteCall
untimed_w c = record {
  task = record { plan = paced_w false c.task.plan; lent = c.task.lent };
  phase = c.phase;
  sent = c.sent;
  budget = c.budget;
  tally = untimed c.tally;
}

abbrev untimed_r : ReadCall → ReadCall
untimed_r c = record {
  task = record { plan = paced_r false c.task.plan; lent = c.task.lent };
  phase = c.phase;
  heading = c.heading;
  received = c.received;
  budget = c.budget;
  tally = untimed c.tally;
}

abbrev untimed_call : Call → Call
untimed_call (call.Write c) = call.Write (untimed_w c)
untimed_call (call.Read c) = call.Read (untimed_r c)

abbrev untimed_in : Reported Call → Reported Call
untimed_in (Err (a, c)) = Err (a, untimed_call c)
untimed_in (Ok c) = Ok (untimed_call c)

-- ---- a report to a writing call

module _ (c : WriteCall) where
  fails_w : (why : Answer) → untimed_w (writing.fail_of (writing.counted_of c) why) ≡ untimed_w (writing.fail_of (writing.counted_of (untimed_w c)) why)
  unfolding writing.fail_of writing.counted_of writing.retry_of writing.end_of failed waited tallied case◌retry◌spent◌ when◌then◌else◌
  fails_w why = by (eqb c.budget.left 0) refl
    where
      by : (t : Bool) → eqb c.budget.left 0 ≡ t → untimed_w (writing.fail_of (writing.counted_of c) why) ≡ untimed_w (writing.fail_of (writing.counted_of (untimed_w c)) why)
      by true t = rw t
      by false t = rw t

  settles_w : (o : Outcome) → untimed_w (writing.settle_of (writing.counted_of c) o) ≡ untimed_w (writing.settle_of (writing.counted_of (untimed_w c)) o)
  unfolding writing.settle_of writing.advance_of writing.counted_of tallied case◌acknowledged◌error◌timeout◌
  settles_w outcome.Acknowledged = refl
  settles_w (outcome.BusError code) = fails_w (answer.I2c code)
  settles_w outcome.Timeout = fails_w answer.Timeout

  same_w : (o : Outcome) (r n w : ℕ) → untimed_in (wrote_of (writing.report_of c o r n w)) ≡ untimed_in (wrote_of (writing.report_of (untimed_w c) o r n w))
  unfolding writing.report_of wrote_of case◌waiting◌ended◌ when◌then◌else◌
  same_w o r n w = by c.phase refl (bus.fits_of c.task.lent n w) refl (writing.replied_of o r) refl
    where
      by : (p : Phase) → c.phase ≡ p → (t : Bool) → bus.fits_of c.task.lent n w ≡ t → (s : Bool) → writing.replied_of o r ≡ s
          → untimed_in (wrote_of (writing.report_of c o r n w)) ≡ untimed_in (wrote_of (writing.report_of (untimed_w c) o r n w))
      by (phase.Ended a) e t f s g = rw e
      by phase.Waiting e false f s g = rw (e, f)
      by phase.Waiting e true f true g = rw (e, f, g)
      by phase.Waiting e true f false g =
          let one : writing.report_of c o r n w ≡ Ok (writing.settle_of (writing.counted_of c) o) = rw (e, f, g) in
          let other : writing.report_of (untimed_w c) o r n w ≡ Ok (writing.settle_of (writing.counted_of (untimed_w c)) o) = rw (e, f, g) in
          ap (λ (u : Reported WriteCall). untimed_in (wrote_of u)) one
          ∙ ap (λ (x : WriteCall). Ok (call.Write x)) (settles_w o)
          ∙ sym (ap (λ (u : Reported WriteCall). untimed_in (wrote_of u)) other)

-- ---- a report to a reading call

module _ (c : ReadCall) where
  fails_r : (why : Answer) → untimed_r (reading.fail_of (reading.counted_of c) why) ≡ untimed_r (reading.fail_of (reading.counted_of (untimed_r c)) why)
  unfolding reading.fail_of reading.counted_of reading.retry_of reading.end_of failed waited tallied case◌retry◌spent◌ when◌then◌else◌
  fails_r why = by (eqb c.budget.left 0) refl
    where
      by : (t : Bool) → eqb c.budget.left 0 ≡ t → untimed_r (reading.fail_of (reading.counted_of c) why) ≡ untimed_r (reading.fail_of (reading.counted_of (untimed_r c)) why)
      by true t = rw t
      by false t = rw t

  heads : untimed_r (reading.headed_of (reading.counted_of c)) ≡ untimed_r (reading.headed_of (reading.counted_of (untimed_r c)))
  unfolding reading.headed_of reading.counted_of tallied
  heads = refl

  blocks : untimed_r (reading.advance_of (reading.counted_of c)) ≡ untimed_r (reading.advance_of (reading.counted_of (untimed_r c)))
  unfolding reading.advance_of reading.counted_of tallied
  blocks = refl

  judged : (o : Outcome) (reply : List ℕ) (n w : ℕ) → reading.judge_of (untimed_r c) o reply n w ≡ reading.judge_of c o reply n w
  unfolding reading.judge_of reading.weigh_of reading.acknowledged_of reading.due_ask
  judged o reply n w = refl

  same_r : (o : Outcome) (reply : List ℕ) (n w : ℕ) → untimed_in (got_of (reading.report_of c o reply n w)) ≡ untimed_in (got_of (reading.report_of (untimed_r c) o reply n w))
  unfolding reading.report_of got_of case◌refused◌fault◌headed◌block◌
  same_r o reply n w = by (reading.judge_of c o reply n w) refl
    where
      by : (v : Verdict) → reading.judge_of c o reply n w ≡ v → untimed_in (got_of (reading.report_of c o reply n w)) ≡ untimed_in (got_of (reading.report_of (untimed_r c) o reply n w))
      by (verdict.Refused why) e = rw (judged o reply n w, e)
      by (verdict.Failed why) e = rw (judged o reply n w, e) (ap (λ (x : ReadCall). Ok (call.Read x)) (fails_r why))
      by verdict.Head e = rw (judged o reply n w, e) (ap (λ (x : ReadCall). Ok (call.Read x)) heads)
      by verdict.Block e = rw (judged o reply n w, e) (ap (λ (x : ReadCall). Ok (call.Read x)) blocks)

-- ---- any report, and any list of them

same : (c : Call) (e : Report) → untimed_in (came_of c e) ≡ untimed_in (came_of (untimed_call c) e)
unfolding report_of
same (call.Write c) e = same_w c e.outcome (length e.reply) e.payload e.work
same (call.Read c) e = same_r c e.outcome e.reply e.buffer e.work

after_untimed : (u : Reported Call) → untimed_call (call_after u) ≡ call_after (untimed_in u)
after_untimed (Err (a, c)) = refl
after_untimed (Ok c) = refl

same_after : (c : Call) (e : Report) → untimed_call (call_after (came_of c e)) ≡ untimed_call (call_after (came_of (untimed_call c) e))
same_after c e = after_untimed (came_of c e) ∙ ap call_after (same c e) ∙ sym (after_untimed (came_of (untimed_call c) e))

same_fed : (es : List Report) (c d : Call) → untimed_call c ≡ untimed_call d → untimed_call (feed c es) ≡ untimed_call (feed d es)
unfolding feed
same_fed [] c d h = h
same_fed (e ∷ es) c d h =
    same_fed es (call_after (came_of c e)) (call_after (came_of d e))
    (same_after c e ∙ ap (λ (x : Call). untimed_call (call_after (came_of x e))) h ∙ sym (same_after d e))

-- ---- what a host sees of a call is what it sees of it without its total

module _ (payload : List ℕ) (n w : ℕ) where
  shown : (c : Call) → next_of c payload n w ≡ next_of (untimed_call c) payload n w
  unfolding next_of writing.next_of writing.own_bytes writing.shown_of writing.due_bytes reading.next_of reading.shown_of reading.shown_head reading.due_ask
  shown (call.Write c) = refl
  shown (call.Read c) = refl

module _ (payload : List ℕ) (n : ℕ) (work : List ℕ) where
  laid : (c : Call) → work_after c payload n work ≡ work_after (untimed_call c) payload n work
  unfolding work_after writing.work_after writing.own_bytes writing.work_shown writing.due_bytes reading.work_after reading.work_shown reading.work_head
  laid (call.Write c) = refl
  laid (call.Read c) = refl

  sent : (c : Call) → part_of c payload work n ≡ part_of (untimed_call c) payload work n
  unfolding part_of writing.part_of writing.own_bytes
  sent (call.Write c) = refl
  sent (call.Read c) = refl

module _ (o : Outcome) (reply buffer : List ℕ) (w : ℕ) where
  filled : (c : Call) → buffer_after c o reply buffer w ≡ buffer_after (untimed_call c) o reply buffer w
  unfolding buffer_after reading.buffer_after reading.judge_of reading.weigh_of reading.acknowledged_of reading.due_ask reading.stored_of
  filled (call.Write c) = refl
  filled (call.Read c) = refl

stood : (c : Call) → phase_of c ≡ phase_of (untimed_call c)
unfolding phase_of
stood (call.Write c) = refl
stood (call.Read c) = refl

fitted : (p n w : ℕ) (c : Call) → fits_of c p n w ≡ fits_of (untimed_call c) p n w
unfolding fits_of
fitted p n w (call.Write c) = refl
fitted p n w (call.Read c) = refl

rested : (c : Call) → (tally_of c).waits ≡ (tally_of (untimed_call c)).waits
unfolding tally_of
rested (call.Write c) = refl
rested (call.Read c) = refl

made : (c : Call) → (tally_of c).transfers ≡ (tally_of (untimed_call c)).transfers
unfolding tally_of
made (call.Write c) = refl
made (call.Read c) = refl

refused_untimed : (u : Reported Call) → refusal (untimed_in u) ≡ refusal u
refused_untimed (Err (a, c)) = refl
refused_untimed (Ok c) = refl

turned_down : (c : Call) (e : Report) → refusal (came_of c e) ≡ refusal (came_of (untimed_call c) e)
turned_down c e = sym (refused_untimed (came_of c e)) ∙ ap refusal (same c e) ∙ refused_untimed (came_of (untimed_call c) e)

-- what is the same of one and of the other
through : {A : Type 0} (f : Call → A) → ((c : Call) → f c ≡ f (untimed_call c)) → (c d : Call) → untimed_call c ≡ untimed_call d → f c ≡ f d
through f seen c d h = seen c ∙ ap f h ∙ sym (seen d)

alike_by : (c d : Call) → untimed_call c ≡ untimed_call d → AlikeButWaited c d
alike_by c d h = record {
  shows = λ payload n w. through (λ (x : Call). next_of x payload n w) (shown payload n w) c d h;
  lays = λ payload n work. through (λ (x : Call). work_after x payload n work) (laid payload n work) c d h;
  sends = λ payload work n. through (λ (x : Call). part_of x payload work n) (sent payload n work) c d h;
  refuses = λ e. through (λ (x : Call). refusal (came_of x e)) (λ x. turned_down x e) c d h;
  fills = λ o reply buffer w. through (λ (x : Call). buffer_after x o reply buffer w) (filled o reply buffer w) c d h;
  stands = through phase_of stood c d h;
  fits = λ p n w. through (λ (x : Call). fits_of x p n w) (fitted p n w) c d h;
  waits = through (λ (x : Call). (tally_of x).waits) rested c d h;
  transfers = through (λ (x : Call). (tally_of x).transfers) made c d h;
}

-- at its start a call differs by its plan's setting alone
starts_same : (growing : Bool) (its : Plan) (p n w : ℕ) → untimed_call (start_with (paced growing its) p n w) ≡ untimed_call (start_with its p n w)
unfolding start_with writing.start_of reading.start_of
starts_same growing (plan.Write its) p n w = refl
starts_same growing (plan.Read its) p n w = refl

set_same : (growing : Bool) (config : Config) (kind : Kind) (p n w : ℕ) → untimed_call (start_of kind (with_growing growing config) p n w) ≡ untimed_call (start_of kind config p n w)
unfolding start_of
set_same growing config kind p n w =
    ap (λ (x : Plan). untimed_call (start_with x p n w)) ((by_settings config p n kind).1 growing) ∙ starts_same growing (plan_of kind config p n) p n w

-- NOTHING ELSE DEPENDS ON THE SETTING
pub alike : (config : Config) (kind : Kind) (p n w : ℕ) (es : List Report)
    → AlikeButWaited (feed (start_of kind (with_growing true config) p n w) es) (feed (start_of kind (with_growing false config) p n w) es)
alike config kind p n w es =
    alike_by _ _ (same_fed es (start_of kind (with_growing true config) p n w) (start_of kind (with_growing false config) p n w) (set_same true config kind p n w ∙ sym (set_same false config kind p n w)))
