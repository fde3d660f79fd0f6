-- Showing keeps the work buffer's length: nothing is laid there, or a head over its front.
-- Assumes nothing.
use Prim.Native.Nat.{ℕ}
use mathlib.Core.Path.{◌≡◌, refl}
use mathlib.Core.Bool.{Bool, true, false}
use mathlib.Core.List.{List}
use lib.ListN.{length}
use Rattle.protocol.specs.Pick.{when◌then◌else◌}
use Rattle.protocol.proofs.Laws.{length_laid}
use Rattle.engine.specs.Pick.{case◌waiting◌ended◌}
use Rattle.engine.specs.Bus.{fits_of}
use Rattle.engine.specs.declared.bus.Phase.{Phase}
use Rattle.engine.specs.declared.bus.Phase.TheVariants as phase
use Rattle.reading.specs.Reading as reading
use Rattle.reading.specs.declared.call.ReadCall.{ReadCall}

pub read_work : (call : ReadCall) (n : ℕ) (work : List ℕ) → length (reading.work_after call n work) ≡ length work
unfolding reading.work_after reading.work_shown reading.work_head case◌waiting◌ended◌ when◌then◌else◌
read_work call n work = by call.phase (fits_of call.task.lent n (length work)) call.heading
  where
    by : (p : Phase) (f h : Bool) → length (case◌waiting◌ended◌ p (when f then (when h then reading.work_head call work else work) else work) (λ a. work)) ≡ length work
    by phase.Waiting true true = length_laid call.task.plan.head_pec _ work
    by phase.Waiting true false = refl
    by phase.Waiting false h = refl
    by (phase.Ended a) f h = refl
