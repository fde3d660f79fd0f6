-- A writing call reaches its ceiling: each frame fails until its budget is spent and then goes through, and the last one fails once more.
-- Assumes nothing.
use Rattle.std.specs.Prelude.{Ok}
use Prim.Native.Nat.{ℕ, zero, suc, ◌+◌, ◌-◌, ◌*◌, ◌≤◌, ◌<◌}
use mathlib.Core.Path.{◌≡◌, refl}
use mathlib.Core.List.{[]}
use native.Mathlib.Omega.{arith}
use native.Mathlib.Nat.{suc-mul, mul-suc}
use native.Mathlib.Numerals.{add-one}
use borrow.Author.Tests.{eq-eqb, lt-leb}
use Rattle.protocol.specs.Pick.{when◌then◌else◌}
use Rattle.protocol.specs.declared.error.Answer.TheVariants as answer
use Rattle.engine.specs.Pick.{case◌waiting◌ended◌, case◌acknowledged◌error◌timeout◌, case◌retry◌spent◌}
use Rattle.engine.specs.Budget.{wait_of, more_of, nothing, waited, tallied}
use Rattle.engine.specs.Bus.{phase_after, fits_of}
use Rattle.engine.proofs.Laws.{laws}
use Rattle.engine.specs.declared.budget.Tally.{Tally}
use Rattle.engine.specs.declared.bus.Outcome.TheVariants as outcome
use Rattle.engine.specs.declared.bus.Phase.TheVariants as phase
use Rattle.writing.specs.Frames.{frame_count}
use Rattle.writing.specs.Writing as writing
use Rattle.writing.specs.declared.call.WritePlan.{WritePlan}
use Rattle.writing.specs.declared.call.WriteCall.{WriteCall}
use Rattle.calls.specs.Call.{wrote_of, report_of, tally_of, start_with, phase_of}
use Rattle.calls.specs.declared.call.Call.TheVariants as call
use Rattle.calls.specs.declared.kind.Plan.TheVariants as plan
use Rattle.ceilings.specs.Ceilings.{Reached}
use Rattle.ceilings.proofs.ReachedBy.{no_more, one_more, same_reach, spends}

module _ (its : WritePlan) (p n w : ℕ) where
  -- the call that waits for frame i, with so many retries left, so many waits made and whatever else it counts
  abbrev at : (i left waits : ℕ) → Tally → WriteCall
  at i left waits t = record {
    task = record { plan = its; lent = record { length = p; work = w } };
    phase = phase.Waiting;
    sent = i;
    budget = record { left = left };
    tally = record { waits = waits; waited_ms = t.waited_ms; transfers = t.transfers };
  }

  -- what else it counts after a failed attempt that is retried, with so many retries left
  abbrev missed : ℕ → Tally → Tally
  missed left t = waited (tallied t) (wait_of its.growing (its.retries - suc left))

  -- a timeout with a retry left
  retried : (i left v : ℕ) (t : Tally) → report_of (call.Write (at i (suc left) v t)) outcome.Timeout [] p n w ≡ Ok (call.Write (at i left (more_of v) (missed left t)))
  unfolding report_of wrote_of writing.report_of writing.replied_of writing.settle_of writing.fail_of writing.counted_of writing.retry_of
      case◌waiting◌ended◌ case◌acknowledged◌error◌timeout◌ case◌retry◌spent◌ waited tallied fits_of when◌then◌else◌
  retried i left v t = rw (eq-eqb p p refl, eq-eqb w w refl, laws.retries its.retries left its.growing)

  -- and with none
  gives_up : (i v : ℕ) (t : Tally) → report_of (call.Write (at i 0 v t)) outcome.Timeout [] p n w ≡ Ok (call.Write (writing.end_of (at i 0 v (tallied t)) answer.Timeout))
  unfolding report_of wrote_of writing.report_of writing.replied_of writing.settle_of writing.fail_of writing.counted_of
      case◌waiting◌ended◌ case◌acknowledged◌error◌timeout◌ case◌retry◌spent◌ tallied fits_of when◌then◌else◌
  gives_up i v t = rw (eq-eqb p p refl, eq-eqb w w refl, laws.spent its.retries its.growing)

  -- a frame that goes through, before others
  advanced : (i left v : ℕ) (t : Tally) → more_of i < frame_count its.frames p
      → report_of (call.Write (at i left v t)) outcome.Acknowledged [] p n w ≡ Ok (call.Write (at (more_of i) its.retries v (tallied t)))
  unfolding report_of wrote_of writing.report_of writing.replied_of writing.settle_of writing.counted_of writing.advance_of
      case◌waiting◌ended◌ case◌acknowledged◌error◌timeout◌ phase_after tallied fits_of when◌then◌else◌
  advanced i left v t more = rw (eq-eqb p p refl, eq-eqb w w refl, lt-leb (frame_count its.frames p) (more_of i) more)

  -- frame i fails until its budget is spent: a retry is one transfer
  fails : (i v : ℕ) (t : Tally) (m u : ℕ) → v + its.retries ≤ 4294967295 → ((t' : Tally) → Reached m u (call.Write (at i 0 (v + its.retries) t')))
      → Reached (1 * its.retries + m) u (call.Write (at i its.retries v t))
  fails i v t = spends (λ (l x : ℕ) (y : Tally). call.Write (at i l x y)) 1 (λ l x y m u rest. one_more _ _ outcome.Timeout [] p n w m u (retried i l x y) (rest (missed l y))) its.retries v t

  -- the failure that ends the call is one transfer
  last : (i v : ℕ) (t : Tally) → Reached 1 v (call.Write (at i 0 v t))
  unfolding tally_of writing.end_of
  last i v t = one_more _ _ outcome.Timeout [] p n w 0 v (gives_up i v t) (no_more _)

  -- frame i and so many later ones, each with a budget of its own
  frames : (later i v : ℕ) (t : Tally) → frame_count its.frames p ≡ i + suc later → i + suc later ≤ 4294967295 → v + suc later * its.retries ≤ 4294967295
      → Reached (suc later * (its.retries + 1)) (v + suc later * its.retries) (call.Write (at i its.retries v t))
  frames zero i v t whole few room =
      same_reach _ (1 * its.retries + 1) _ (v + its.retries) _ (omega arith) (omega arith)
      (fails i v t 1 (v + its.retries) (omega (arith, room)) (last i (v + its.retries)))
  frames (suc later) i v t whole few room =
      let times = suc-mul (suc later) (its.retries + 1) in
      let waits = suc-mul (suc later) its.retries in
      let next : more_of i ≡ i + 1 = omega (arith, few) in
      same_reach _ (1 * its.retries + (1 + suc later * (its.retries + 1))) _ (v + its.retries + suc later * its.retries) _ (omega (arith, times)) (omega (arith, waits))
      (fails i v t (1 + suc later * (its.retries + 1)) (v + its.retries + suc later * its.retries) (omega (arith, room, waits)) (λ t'.
      one_more _ _ outcome.Acknowledged [] p n w (suc later * (its.retries + 1)) (v + its.retries + suc later * its.retries) (advanced i 0 (v + its.retries) t' (omega (arith, whole, next)))
      (frames later (more_of i) (v + its.retries) (tallied t') (omega (arith, whole, next)) (omega (arith, few, next)) (omega (arith, room, waits)))))

  -- so a call of f frames reaches its ceiling
  pub reach_frames : (f : ℕ) → frame_count its.frames p ≡ f → 0 < f → f * (its.retries + 1) ≤ 4294967295 → phase_of (start_with (plan.Write its) p n w) ≡ phase.Waiting
      → Reached (f * (its.retries + 1)) (f * its.retries) (start_with (plan.Write its) p n w)
  unfolding start_with phase_of writing.start_of nothing
  reach_frames zero whole some room e = absurd (omega arith)
  reach_frames (suc later) whole some room e =
      let each : suc later * (its.retries + 1) ≡ suc later * its.retries + suc later = rw add-one (mul-suc (suc later) its.retries) in
      let none : 0 + suc later * its.retries ≡ suc later * its.retries = omega arith in
      rw e (same_reach _ _ _ _ _ refl none (frames later 0 0 nothing (omega (arith, whole)) (omega (arith, room, each)) (omega (arith, room, each))))
