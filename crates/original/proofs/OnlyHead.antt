-- A head that no read follows, fed, is the loop of write_with_retries_internal.
-- Assumes nothing.
use Prim.Native.Nat.{ℕ, ◌+◌, ◌-◌, ◌≤◌, ◌<◌}
use mathlib.Core.Path.{◌≡◌, refl, ◌∙◌}
use mathlib.Core.List.{List, [], ◌∷◌}
use mathlib.Core.Bool.{Bool, true, false}
use native.Mathlib.Omega.{arith}
use lib.ListN.{length}
use lib.Dec.{eqb}
use borrow.Author.Tests.{eqb-false}
use Rattle.protocol.specs.Pick.{when◌then◌else◌}
use Rattle.protocol.specs.Answer.{number_of}
use Rattle.protocol.specs.declared.error.Answer.{Answer}
use Rattle.protocol.specs.declared.error.Answer.TheVariants as answer
use Rattle.engine.specs.Budget.{tallied}
use Rattle.engine.specs.Bus.{phase_after}
use Rattle.engine.specs.declared.budget.Tally.{Tally}
use Rattle.engine.specs.declared.bus.Phase.TheVariants as phase
use Rattle.reading.specs.Parts as parts
use Rattle.reading.specs.Reading as reading
use Rattle.reading.specs.declared.parts.Reads.TheVariants as reads
use Rattle.reading.specs.declared.call.ReadPlan.{ReadPlan}
use Rattle.original.specs.Bus.{BusOutcome, Acknowledged, BusError, Timeout, Made, Ok, Err, ◌leaving◌, bus_op◌err◌ok◌}
use Rattle.original.specs.Fed.{Lending, Lends, answered, fed_read}
use Rattle.original.specs.OriginalInterface.{write_with_retries_internal}
use Rattle.original.proofs.Laws.{missed, one_wait}
use Rattle.original.proofs.ReadTurns.{at_end, at, head_at, waits_head, turn_head, after_failure}

module _ (plan : ReadPlan) (buffer : List ℕ) (w : ℕ) (lent : ℕ → Lending) (steady : Lends w lent) (opens : parts.has_head plan.head ≡ true) (alone : plan.reads ≡ reads.Nothing) (fitting : length (parts.head_bytes plan.head 0) < w) where
  abbrev frame : List ℕ
  frame = head_at plan (length buffer) w 0

  abbrev Same : List BusOutcome → Type 0
  Same outcomes = (left : ℕ) (tally : Tally) (done : List Made) → tally.waits + left ≤ 65535
      → fed_read (at plan (length buffer) w true 0 left tally) buffer lent done outcomes ≡ write_with_retries_internal left frame (record { transfers = done; waits = tally.waits }) outcomes leaving buffer

  -- the head was heard, and that is all
  after : (left : ℕ) (tally : Tally) (done : List Made) (outcomes : List BusOutcome)
      → fed_read (reading.headed_of (at plan (length buffer) w true 0 left tally)) buffer lent done outcomes ≡ Ok (record { transfers = done; waits = tally.waits }) outcomes leaving buffer
  unfolding reading.headed_of phase_after parts.read_count answered when◌then◌else◌
  after left tally done outcomes =
      let p : (reading.headed_of (at plan (length buffer) w true 0 left tally)).phase ≡ phase.Ended answer.Done = rw alone in
      at_end (reading.headed_of (at plan (length buffer) w true 0 left tally)) buffer lent done answer.Done p outcomes

  fault : (outcomes : List BusOutcome) → Same outcomes → (left : ℕ) (tally : Tally) (why : Answer) (done : List Made) → eqb (number_of why) 0 ≡ false → tally.waits + left ≤ 65535 → (t : Bool) → eqb left 0 ≡ t
      → fed_read (reading.fail_of (at plan (length buffer) w true 0 left tally) why) buffer lent done outcomes
      ≡ (when eqb left 0 then Err why (record { transfers = done; waits = tally.waits }) outcomes else write_with_retries_internal (left - 1) frame (record { transfers = done; waits = tally.waits + 1 }) outcomes) leaving buffer
  unfolding when◌then◌else◌
  fault outcomes ih left tally why done bad b true t =
      after_failure plan (length buffer) w lent true 0 left tally why buffer done outcomes bad true t ∙ rw t
  fault outcomes ih left tally why done bad b false t =
      let m : (missed plan.growing plan.retries left tally).waits ≡ tally.waits + 1 = one_wait plan.growing plan.retries left tally (omega arith) in
      after_failure plan (length buffer) w lent true 0 left tally why buffer done outcomes bad false t
      ∙ rw (t, opens, ← m) (ih (left - 1) (missed plan.growing plan.retries left tally) done (omega (arith, eqb-false left 0 t)))

  pub same : (outcomes : List BusOutcome) → Same outcomes
  unfolding write_with_retries_internal bus_op◌err◌ok◌ tallied
  same [] left tally done b = waits_head plan (length buffer) w lent steady 0 left tally buffer done refl fitting
  same (Acknowledged bytes ∷ outcomes) left tally done b =
      turn_head plan (length buffer) w lent steady 0 left tally buffer done (Acknowledged bytes) outcomes refl fitting ∙ after left (tallied tally) _ outcomes
  same (BusError code ∷ outcomes) left tally done b =
      turn_head plan (length buffer) w lent steady 0 left tally buffer done (BusError code) outcomes refl fitting
      ∙ fault outcomes (same outcomes) left (tallied tally) (answer.I2c code) _ refl b (eqb left 0) refl
  same (Timeout ∷ outcomes) left tally done b =
      turn_head plan (length buffer) w lent steady 0 left tally buffer done Timeout outcomes refl fitting
      ∙ fault outcomes (same outcomes) left (tallied tally) answer.Timeout _ refl b (eqb left 0) refl
