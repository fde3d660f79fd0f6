-- A call at its start can accept as many outcomes as the shape of its plan says.
-- Assumes nothing.
use Prim.Native.Nat.{ℕ, ◌+◌, ◌-◌, ◌*◌, ◌≤◌, ◌<◌}
use mathlib.Core.Path.{◌≡◌, refl}
use mathlib.Core.Bool.{true, false}
use native.Mathlib.Omega.{arith}
use native.Mathlib.Nat.{mul-suc}
use native.Mathlib.Numerals.{add-one}
use Rattle.engine.specs.Budget.{nothing}
use Rattle.engine.specs.declared.bus.Phase.TheVariants as phase
use Rattle.writing.specs.Frames.{frame_count}
use Rattle.writing.specs.Writing as writing
use Rattle.writing.specs.declared.call.WritePlan.{WritePlan}
use Rattle.reading.specs.Parts.{has_head, read_count}
use Rattle.reading.specs.Reading as reading
use Rattle.reading.specs.declared.call.ReadPlan.{ReadPlan}
use Rattle.calls.specs.Call.{start_with, phase_of}
use Rattle.calls.specs.declared.kind.Plan.{Plan}
use Rattle.calls.specs.declared.kind.Plan.TheVariants as plan
use Rattle.ceilings.proofs.Numbers.{one_less}
use Rattle.ceilings.proofs.Reading.{head_due, only_head, bare_due}
use Rattle.ceilings.proofs.Calls.{Sound}

-- a call that does not wait at its start accepts nothing
pub idle : (its : Plan) (p n w : ℕ) → (phase_of (start_with its p n w) ≡ phase.Waiting → ⊥) → Sound 0 0 0 (start_with its p n w)
unfolding start_with phase_of writing.start_of reading.start_of nothing
idle (plan.Write its) p n w over = record { counted = refl; rests = omega arith; due = λ e. absurd (over e) }
idle (plan.Read its) p n w over = record { counted = refl; rests = omega arith; due = λ e. absurd (over e) }

module _ (its : WritePlan) (p n w f : ℕ) (whole : frame_count its.frames p ≡ f) where
  -- f frames, each with a budget of its own
  pub by_frames : (phase_of (start_with (plan.Write its) p n w) ≡ phase.Waiting → (0 < f) × (f * (its.retries + 1) ≤ 4294967295))
      → Sound 0 (f * (its.retries + 1)) (f * its.retries) (start_with (plan.Write its) p n w)
  unfolding start_with phase_of writing.start_of nothing
  by_frames bounded = record {
    counted = refl;
    rests = omega arith;
    due = λ e.
        let some : 0 < f = (bounded e).0 in
        let room : f * (its.retries + 1) ≤ 4294967295 = (bounded e).1 in
        let times = one_less f (its.retries + 1) some in
        let waits = one_less f its.retries some in
        let each : f * (its.retries + 1) ≡ f * its.retries + f = rw add-one (mul-suc f its.retries) in
        record {
          later = f - 1;
          whole = omega (arith, whole, some);
          few = omega (arith, some, room, each);
          enough = omega (arith, times);
          room = omega (arith, room);
          rest = omega (arith, waits);
        };
  }

module _ (its : ReadPlan) (p n w b : ℕ) (whole : read_count its.reads n ≡ b) where
  -- b reads with no head, from one budget
  pub by_reads : has_head its.head ≡ false → (phase_of (start_with (plan.Read its) p n w) ≡ phase.Waiting → (0 < b) × (b + its.retries ≤ 4294967295))
      → Sound 0 (b + its.retries) its.retries (start_with (plan.Read its) p n w)
  unfolding start_with phase_of reading.start_of nothing
  by_reads bare bounded = record {
    counted = refl;
    rests = omega arith;
    due = λ e.
        let some : 0 < b = (bounded e).0 in
        let room : b + its.retries ≤ 4294967295 = (bounded e).1 in
        record {
          few = omega (arith, whole, room);
          enough = bare_due bare bare (b - 1) (omega (arith, whole, some)) (omega (arith, some));
          room = omega (arith, room);
          rest = omega arith;
        };
  }

  -- a head and b reads, from one budget
  pub by_head : has_head its.head ≡ true → (phase_of (start_with (plan.Read its) p n w) ≡ phase.Waiting → (0 < b) × (b + 1 + 2 * its.retries ≤ 4294967295))
      → Sound 0 (b + 1 + 2 * its.retries) its.retries (start_with (plan.Read its) p n w)
  unfolding start_with phase_of reading.start_of nothing
  by_head headed bounded = record {
    counted = refl;
    rests = omega arith;
    due = λ e.
        let some : 0 < b = (bounded e).0 in
        let room : b + 1 + 2 * its.retries ≤ 4294967295 = (bounded e).1 in
        record {
          few = omega (arith, whole, room);
          enough = head_due headed headed (b - 1) (omega (arith, whole, some)) (omega (arith, some));
          room = omega (arith, room);
          rest = omega arith;
        };
  }

-- a head that no read follows
pub by_head_alone : (its : ReadPlan) (p n w : ℕ) → has_head its.head ≡ true → read_count its.reads n ≡ 0
    → (phase_of (start_with (plan.Read its) p n w) ≡ phase.Waiting → its.retries + 1 ≤ 4294967295)
    → Sound 0 (its.retries + 1) its.retries (start_with (plan.Read its) p n w)
unfolding start_with phase_of reading.start_of nothing
by_head_alone its p n w headed none bounded = record {
  counted = refl;
  rests = omega arith;
  due = λ e.
      let room : its.retries + 1 ≤ 4294967295 = bounded e in
      record {
        few = omega (arith, none);
        enough = only_head headed headed none (omega arith);
        room = omega (arith, room);
        rest = omega arith;
      };
}
