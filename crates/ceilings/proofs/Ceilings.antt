-- Every call stays below its ceiling: what it can still accept falls with each outcome, from the start on.
-- Assumes nothing.
use Prim.Native.Nat.{ℕ}
use mathlib.Core.Path.{◌≡◌}
use mathlib.Core.List.{List}
use native.Mathlib.Omega.{arith}
use Rattle.protocol.specs.declared.common.Config.{Config}
use Rattle.protocol.specs.declared.error.Answer.{Answer}
use Rattle.engine.specs.declared.bus.Phase.TheVariants as phase
use Rattle.calls.specs.Kind.{plan_of}
use Rattle.calls.specs.Call.{start_of, phase_of}
use Rattle.calls.specs.declared.kind.Kind.{Kind}
use Rattle.ceilings.specs.Reports.{Report}
use Rattle.ceilings.specs.Ceilings.{Ceiling, Shapes, Ceilings}
use Rattle.ceilings.proofs.Numbers.{blocks, blocks_one}
use Rattle.ceilings.proofs.Calls.{ceiling}
use Rattle.ceilings.proofs.Starts.{idle, by_frames, by_reads, by_head, by_head_alone}
use Rattle.ceilings.proofs.Names.{sound_named}
use Rattle.ceilings.proofs.Reached.{reached}
use Rattle.ceilings.proofs.Each.{some, one}

shapes : Shapes
shapes = record {
  frames = λ its p n w f whole some room es. ceiling _ _ _ (by_frames its p n w f whole (λ e. (some, room))) es;
  bare = λ its p n w b bare whole some room es. ceiling _ _ _ (by_reads its p n w b whole bare (λ e. (some, room))) es;
  headed = λ its p n w b headed whole some room es. ceiling _ _ _ (by_head its p n w b whole headed (λ e. (some, room))) es;
  alone = λ its p n w headed none room es. ceiling _ _ _ (by_head_alone its p n w headed none (λ e. room)) es;
}

none : (config : Config) (kind : Kind) (p n w : ℕ) (a : Answer) → phase_of (start_of kind config p n w) ≡ phase.Ended a
    → (es : List Report) → Ceiling 0 0 (start_of kind config p n w) es
unfolding start_of
none config kind p n w a over es =
    ceiling 0 0 (start_of kind config p n w) (idle (plan_of kind config p n) p n w (λ e. let z : ◌≡◌ {A = ℕ} 0 1 = cc in absurd (omega arith))) es

pub ceilings : Ceilings
ceilings = record {
  shapes = shapes;
  named = λ config few kind p n w most waits name es. ceiling most waits (start_of kind config p n w) (sound_named config few p n w kind most waits name) es;
  reached = reached;
  none = none;
  some = some;
  one = one;
  blocks = blocks;
  blocks_one = blocks_one;
}
