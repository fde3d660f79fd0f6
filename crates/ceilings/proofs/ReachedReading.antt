-- A reading call reaches its ceiling: all goes well until the last read, and then every attempt fails after its head went through.
-- Assumes nothing.
use Rattle.std.specs.Prelude.{Ok}
use Prim.Native.Nat.{ℕ, zero, suc, ◌+◌, ◌-◌, ◌*◌, ◌≤◌, ◌<◌}
use mathlib.Core.Path.{◌≡◌, refl, sym, ◌∙◌}
use mathlib.Core.List.{List, [], ◌∷◌, ◌++◌}
use mathlib.Core.Bool.{Bool, true, false, false≢true}
use native.Mathlib.Omega.{arith}
use lib.ListN.{length, replicate, length-append, length-replicate}
use lib.Seq.{take-append_seam, get_or-append_seam}
use lib.Dec.{eqb}
use borrow.Author.Tests.{eq-eqb, ne_eqb, lt-leb}
use Rattle.smbus_pec.specs.Pec.{pec_of}
use Rattle.protocol.specs.Pick.{when◌then◌else◌}
use Rattle.protocol.specs.Reply.{around_of, bytes_asked, checked_of, heard_of}
use Rattle.protocol.specs.declared.error.Answer.TheVariants as answer
use Rattle.protocol.specs.declared.reply.Ask.{Ask}
use Rattle.protocol.proofs.Shared as shared
use Rattle.engine.specs.Pick.{case◌waiting◌ended◌, case◌acknowledged◌error◌timeout◌, case◌retry◌spent◌}
use Rattle.engine.specs.Budget.{wait_of, more_of, nothing, waited, tallied}
use Rattle.engine.specs.Bus.{phase_after, fits_of}
use Rattle.engine.specs.declared.budget.Tally.{Tally}
use Rattle.engine.specs.declared.bus.Outcome.TheVariants as outcome
use Rattle.engine.specs.declared.bus.Phase.TheVariants as phase
use Rattle.engine.proofs.Laws.{laws}
use Rattle.reading.specs.Pick.{case◌refused◌fault◌headed◌block◌}
use Rattle.reading.specs.Parts.{has_head, read_count, ask_of}
use Rattle.reading.specs.Reading as reading
use Rattle.reading.specs.declared.call.ReadPlan.{ReadPlan}
use Rattle.reading.specs.declared.call.ReadCall.{ReadCall}
use Rattle.calls.specs.Call.{got_of, report_of, tally_of, start_with, phase_of}
use Rattle.calls.specs.declared.call.Call.TheVariants as call
use Rattle.calls.specs.declared.kind.Plan.TheVariants as plan
use Rattle.ceilings.specs.Ceilings.{Reached}
use Rattle.ceilings.proofs.ReachedBy.{no_more, one_more, same_reach, spends}

-- ---- some reply is believed, whatever is asked

-- bytes, and their PEC after them
checked : (covered : ℕ) (front : List ℕ) → checked_of covered (front ++ (pec_of 0 (0x16 ∷ covered ∷ 0x17 ∷ front) ∷ [])) ≡ true
unfolding checked_of when◌then◌else◌
checked covered front =
    let pec = pec_of 0 (0x16 ∷ covered ∷ 0x17 ∷ front) in
    let long : length (front ++ (pec ∷ [])) ≡ length front + 1 = length-append front (pec ∷ []) in
    let some : eqb (length (front ++ (pec ∷ []))) 0 ≡ false = ne_eqb (length (front ++ (pec ∷ []))) 0 (λ z. omega (arith, long)) in
    let at : length (front ++ (pec ∷ [])) - 1 ≡ length front = omega (arith, long) in
    rw (some, at, take-append_seam front (pec ∷ []), get_or-append_seam front pec [] 0) (eq-eqb pec pec refl)

-- a read with a PEC asks for it at the least
some_asked : (ask : Ask) → ask.pec ≡ true → 0 < bytes_asked ask
unfolding bytes_asked around_of when◌then◌else◌
some_asked ask t = rw t (omega arith)

-- zeros of the number asked, with their PEC where it is asked for
believed : (ask : Ask) → (reply : List ℕ) × (heard_of ask reply ≡ (Ok tt))
believed ask = by ask.pec refl
  where
    by : (t : Bool) → ask.pec ≡ t → (reply : List ℕ) × (heard_of ask reply ≡ (Ok tt))
    by false t = (
      replicate (bytes_asked ask) 0,
      (shared.laws).good ask (replicate (bytes_asked ask) 0) (sym (length-replicate (bytes_asked ask) 0)) (λ e. absurd (false≢true (sym t ∙ e))),
    )
    by true t =
        let front : List ℕ = replicate (bytes_asked ask - 1) 0 in
        let pec = pec_of 0 (0x16 ∷ ask.covered ∷ 0x17 ∷ front) in
        let long : length (front ++ (pec ∷ [])) ≡ length front + 1 = length-append front (pec ∷ []) in
        let all : length front ≡ bytes_asked ask - 1 = length-replicate (bytes_asked ask - 1) 0 in
        (front ++ (pec ∷ []), (shared.laws).good ask (front ++ (pec ∷ [])) (omega (arith, long, all, some_asked ask t)) (λ e. checked ask.covered front))

-- ---- a call at a step, and what reports make of it

module _ (its : ReadPlan) (p n w : ℕ) where
  -- the call that waits for its head or for read i, with so many retries left, so many waits made and whatever else it counts
  abbrev at : (heading : Bool) (i left waits : ℕ) → Tally → ReadCall
  at heading i left waits t = record {
    task = record { plan = its; lent = record { length = n; work = w } };
    phase = phase.Waiting;
    heading = heading;
    received = i;
    budget = record { left = left };
    tally = record { waits = waits; waited_ms = t.waited_ms; transfers = t.transfers };
  }

  -- what else it counts after a failed attempt that is retried, with so many retries left
  abbrev missed : ℕ → Tally → Tally
  missed left t = waited (tallied t) (wait_of its.growing (its.retries - suc left))

  -- a timeout with a retry left
  retried : (h : Bool) (i left v : ℕ) (t : Tally) → report_of (call.Read (at h i (suc left) v t)) outcome.Timeout [] p n w ≡ Ok (call.Read (at (has_head its.head) i left (more_of v) (missed left t)))
  unfolding report_of got_of reading.report_of reading.judge_of reading.weigh_of reading.fail_of reading.counted_of reading.retry_of
      case◌waiting◌ended◌ case◌acknowledged◌error◌timeout◌ case◌retry◌spent◌ case◌refused◌fault◌headed◌block◌ waited tallied fits_of when◌then◌else◌
  retried h i left v t = rw (eq-eqb n n refl, eq-eqb w w refl, laws.retries its.retries left its.growing)

  -- and with none
  gives_up : (h : Bool) (i v : ℕ) (t : Tally) → report_of (call.Read (at h i 0 v t)) outcome.Timeout [] p n w ≡ Ok (call.Read (reading.end_of (at h i 0 v (tallied t)) answer.Timeout))
  unfolding report_of got_of reading.report_of reading.judge_of reading.weigh_of reading.fail_of reading.counted_of
      case◌waiting◌ended◌ case◌acknowledged◌error◌timeout◌ case◌retry◌spent◌ case◌refused◌fault◌headed◌block◌ tallied fits_of when◌then◌else◌
  gives_up h i v t = rw (eq-eqb n n refl, eq-eqb w w refl, laws.spent its.retries its.growing)

  -- a head that goes through, before a read
  opened : (i left v : ℕ) (t : Tally) → i < read_count its.reads n → report_of (call.Read (at true i left v t)) outcome.Acknowledged [] p n w ≡ Ok (call.Read (at false i left v (tallied t)))
  unfolding report_of got_of reading.report_of reading.judge_of reading.weigh_of reading.acknowledged_of reading.heard_head reading.counted_of reading.headed_of
      case◌waiting◌ended◌ case◌acknowledged◌error◌timeout◌ case◌refused◌fault◌headed◌block◌ phase_after tallied fits_of when◌then◌else◌
  opened i left v t more = rw (eq-eqb n n refl, eq-eqb w w refl, lt-leb (read_count its.reads n) i more)

  -- a reply that is believed, before another
  advanced : (i left v : ℕ) (t : Tally) (reply : List ℕ) → heard_of (ask_of its.reads n i) reply ≡ (Ok tt) → more_of i < read_count its.reads n
      → report_of (call.Read (at false i left v t)) outcome.Acknowledged reply p n w ≡ Ok (call.Read (at false (more_of i) left v (tallied t)))
  unfolding report_of got_of reading.report_of reading.judge_of reading.weigh_of reading.acknowledged_of reading.heard_block reading.verdict_of reading.due_ask reading.counted_of reading.advance_of
      case◌waiting◌ended◌ case◌acknowledged◌error◌timeout◌ case◌refused◌fault◌headed◌block◌ phase_after tallied fits_of when◌then◌else◌
  advanced i left v t reply good more = rw (eq-eqb n n refl, eq-eqb w w refl, good, lt-leb (read_count its.reads n) (more_of i) more)

  -- the failure that ends the call is one transfer
  last : (h : Bool) (i v : ℕ) (t : Tally) → Reached 1 v (call.Read (at h i 0 v t))
  unfolding tally_of reading.end_of
  last h i v t = one_more _ _ outcome.Timeout [] p n w 0 v (gives_up h i v t) (no_more _)

  -- a plain read, or a head that no read follows: a retry is one transfer
  alone : (left v : ℕ) (t : Tally) → v + left ≤ 4294967295 → Reached (1 * left + 1) (v + left) (call.Read (at (has_head its.head) 0 left v t))
  alone left v t room =
      spends (λ (l x : ℕ) (y : Tally). call.Read (at (has_head its.head) 0 l x y)) 1
      (λ l x y m u rest. one_more _ _ outcome.Timeout [] p n w m u (retried (has_head its.head) 0 l x y) (rest (missed l y)))
      left v t 1 (v + left) room (last (has_head its.head) 0 (v + left))

  -- so they reach their ceiling
  pub reach_alone : its.retries ≤ 4294967295 → phase_of (start_with (plan.Read its) p n w) ≡ phase.Waiting → Reached (its.retries + 1) its.retries (start_with (plan.Read its) p n w)
  unfolding start_with phase_of reading.start_of nothing
  reach_alone room e =
      let times : 1 * its.retries + 1 ≡ its.retries + 1 = omega arith in
      let waits : 0 + its.retries ≡ its.retries = omega arith in
      rw e (same_reach _ _ _ _ _ times waits (alone its.retries 0 nothing (omega (arith, room))))

  module _ (first : has_head its.head ≡ true) where
    -- behind a head it is two: the head goes out again
    again : (i : ℕ) → i < read_count its.reads n → (left v : ℕ) (t : Tally) (m u : ℕ) → ((t' : Tally) → Reached m u (call.Read (at false i left (more_of v) t')))
        → Reached (2 + m) u (call.Read (at false i (suc left) v t))
    again i more left v t m u rest =
        same_reach _ (1 + (1 + m)) (2 + m) u u (omega arith) refl
        (one_more _ _ outcome.Timeout [] p n w (1 + m) u (retried false i left v t)
        (rw first (one_more _ _ outcome.Acknowledged [] p n w m u (opened i left (more_of v) (missed left t) more) (rest (tallied (missed left t))))))

    -- read i and so many later ones
    reads : (later i left v : ℕ) (t : Tally) → read_count its.reads n ≡ i + suc later → i + suc later ≤ 4294967295 → v + left ≤ 4294967295
        → Reached (later + (2 * left + 1)) (v + left) (call.Read (at false i left v t))
    reads zero i left v t whole few room =
        same_reach _ (2 * left + 1) _ _ _ (omega arith) refl (spends (λ (l x : ℕ) (y : Tally). call.Read (at false i l x y)) 2 (again i (omega (arith, whole))) left v t 1 (v + left) room (last false i (v + left)))
    reads (suc later) i left v t whole few room =
        let next : more_of i ≡ i + 1 = omega (arith, few) in
        let reply = believed (ask_of its.reads n i) in
        same_reach _ (1 + (later + (2 * left + 1))) _ _ _ (omega arith) refl
        (one_more _ _ outcome.Acknowledged reply.0 p n w (later + (2 * left + 1)) (v + left) (advanced i left v t reply.0 reply.1 (omega (arith, whole, next)))
        (reads later (more_of i) left v (tallied t) (omega (arith, whole, next)) (omega (arith, few, next)) room))

    -- so a head and b reads reach theirs
    pub reach_head : (b : ℕ) → read_count its.reads n ≡ b → 0 < b → b + 1 + 2 * its.retries ≤ 4294967295 → phase_of (start_with (plan.Read its) p n w) ≡ phase.Waiting
        → Reached (b + 1 + 2 * its.retries) its.retries (start_with (plan.Read its) p n w)
    unfolding start_with phase_of reading.start_of nothing
    reach_head zero whole some room e = absurd (omega arith)
    reach_head (suc later) whole some room e =
        let times : 1 + (later + (2 * its.retries + 1)) ≡ suc later + 1 + 2 * its.retries = omega arith in
        let waits : 0 + its.retries ≡ its.retries = omega arith in
        rw (e, first) (same_reach _ _ _ _ _ times waits
        (one_more _ _ outcome.Acknowledged [] p n w _ _ (opened 0 its.retries 0 nothing (omega (arith, whole))) (reads later 0 its.retries 0 (tallied nothing) (omega (arith, whole)) (omega (arith, room)) (omega (arith, room)))))
