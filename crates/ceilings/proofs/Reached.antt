-- Every call that waits at its start can be made to reach its ceiling, by the shape of its plan.
-- Assumes nothing.
use Prim.Native.Nat.{ℕ}
use mathlib.Core.Path.{◌≡◌}
use native.Mathlib.Omega.{arith}
use Rattle.protocol.specs.Common.{TwoByteBudgets}
use Rattle.protocol.specs.declared.common.Config.{Config}
use Rattle.engine.specs.declared.bus.Phase.TheVariants as phase
use Rattle.calls.specs.Kind.{plan_of}
use Rattle.calls.specs.Sides.{budget_of}
use Rattle.calls.specs.Call.{start_with, start_of, phase_of}
use Rattle.calls.specs.declared.kind.Kind.{Kind}
use Rattle.calls.specs.declared.kind.Plan.{Plan}
use Rattle.ceilings.specs.Ceilings.{CeilingOf, Reached}
use Rattle.ceilings.proofs.Names.{Shape, of_none, of_frames, of_read_lem, of_head, of_head_alone, shape_named}
use Rattle.ceilings.proofs.ReachedWriting.{reach_frames}
use Rattle.ceilings.proofs.ReachedReading.{reach_alone, reach_head}

-- by shape
reached_shaped : (p n w : ℕ) (its : Plan) (most waits : ℕ) → Shape p n w its most waits → phase_of (start_with its p n w) ≡ phase.Waiting → Reached most waits (start_with its p n w)
reached_shaped p n w its most waits (of_none some over) e = absurd (over e)
reached_shaped p n w its most waits (of_frames some f whole bounded) e = let b = bounded e in reach_frames some p n w f whole b.0 b.1 e
reached_shaped p n w its most waits (of_read_lem some bare one few) e = reach_alone some p n w (omega (arith, few)) e
reached_shaped p n w its most waits (of_head some b first whole bounded) e = let c = bounded e in reach_head some p n w first b whole c.0 c.1 e
reached_shaped p n w its most waits (of_head_alone some first none few) e = reach_alone some p n w (omega (arith, few)) e

-- and by name
pub reached : (config : Config) → TwoByteBudgets config → (kind : Kind) (p n w most waits : ℕ) → CeilingOf (budget_of kind config n) p n kind most waits
    → phase_of (start_of kind config p n w) ≡ phase.Waiting → Reached most waits (start_of kind config p n w)
unfolding start_of
reached config few kind p n w most waits name e = reached_shaped p n w (plan_of kind config p n) most waits (shape_named config few p n w kind most waits name) e
