-- Showing keeps the work buffer's length: nothing is laid there, or a frame over its front.
-- Assumes nothing.
use Prim.Native.Nat.{ℕ}
use mathlib.Core.Path.{◌≡◌, refl}
use mathlib.Core.Bool.{Bool, true, false}
use mathlib.Core.List.{List}
use lib.ListN.{length}
use Rattle.protocol.specs.Pick.{when◌then◌else◌}
use Rattle.protocol.proofs.Laws.{length_laid}
use Rattle.engine.specs.Pick.{case◌waiting◌ended◌}
use Rattle.engine.specs.Bus.{fits_of}
use Rattle.engine.specs.declared.bus.Phase.{Phase}
use Rattle.engine.specs.declared.bus.Phase.TheVariants as phase
use Rattle.writing.specs.Writing as writing
use Rattle.writing.specs.declared.call.WriteCall.{WriteCall}

pub write_work : (call : WriteCall) (payload work : List ℕ) → length (writing.work_after call payload work) ≡ length work
unfolding writing.work_after writing.work_shown case◌waiting◌ended◌ when◌then◌else◌
write_work call payload work = by call.phase (fits_of call.task.lent (length payload) (length work)) (writing.own_bytes call)
  where
    by : (p : Phase) (f o : Bool) → length (case◌waiting◌ended◌ p (when f then (when o then work else writing.work_shown call payload work) else work) (λ a. work)) ≡ length work
    by phase.Waiting true true = refl
    by phase.Waiting true false = length_laid call.task.plan.pec (writing.due_bytes call payload) work
    by phase.Waiting false o = refl
    by (phase.Ended a) f o = refl
