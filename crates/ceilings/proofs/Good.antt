-- How many outcomes a call can still accept: the number falls with each that it takes, and a call that waits has some left.
-- Assumes nothing.
use Rattle.engine.specs.Bus.{Reported}
use Rattle.std.specs.Prelude.{Err, Ok}
use Prim.Native.Nat.{ℕ, suc, ◌≤◌, ◌<◌}
use mathlib.Core.Path.{◌≡◌, sym, ap, subst, ◌∙◌}
use mathlib.Core.List.{List}
use Rattle.protocol.specs.Common.{TwoByteBudgets}
use Rattle.protocol.specs.declared.common.Config.{Config}
use Rattle.engine.specs.declared.bus.Outcome.{Outcome}
use Rattle.engine.specs.declared.bus.Phase.TheVariants as phase
use Rattle.calls.specs.Sides.{budget_of}
use Rattle.calls.specs.Call.{start_of, report_of, phase_of, tally_of}
use Rattle.calls.specs.declared.call.Call.{Call}
use Rattle.calls.specs.declared.kind.Kind.{Kind}
use Rattle.ceilings.specs.Ceilings.{CeilingOf}
use Rattle.ceilings.proofs.Calls.{Sound, Sounds, sounds, waits_more, counted, rested}
use Rattle.ceilings.proofs.Names.{sound_named}

-- at most m more outcomes are accepted, and all waits come to v at the most, whatever it has counted so far
abbrev pub Good : (m v : ℕ) → Call → Type 0
Good m v call = (k : ℕ) × Sound k m v call

-- a call that waits has an outcome to accept
pub waits_some : (m v : ℕ) (call : Call) → Good m v call → phase_of call ≡ phase.Waiting → 0 < m
waits_some m v call (k, s) e = waits_more k m v call s e

-- its waits
pub rests : (m v : ℕ) (call : Call) → Good m v call → (tally_of call).waits ≤ v
rests m v call (k, s) = rested k m v call s

-- a report that is refused leaves as many, one that is taken one fewer
abbrev pub Follows : (m v : ℕ) → Reported Call → Type 0
Follows m v (Err (why, call)) = Good m v call
Follows m v (Ok next) = (l : ℕ) × (m ≡ suc l) × Good l v next

follows_so : (k m v : ℕ) (r : Reported Call) → Sounds k m v r → Follows m v r
follows_so k m v (Err (why, call)) s = (k, s)
follows_so k m v (Ok next) (l, e, s) = (l, e, (suc k, s))

pub follows : (m v : ℕ) (call : Call) → Good m v call → (o : Outcome) (reply : List ℕ) (p n w : ℕ) → Follows m v (report_of call o reply p n w)
follows m v call (k, s) o reply p n w = follows_so k m v (report_of call o reply p n w) (sounds k m v call s o reply p n w)

-- and an outcome that is taken is counted
pub counts : (m v : ℕ) (call next : Call) → Good m v call → (o : Outcome) (reply : List ℕ) (p n w : ℕ) → report_of call o reply p n w ≡ Ok next
    → (tally_of next).transfers ≡ suc (tally_of call).transfers
counts m v call next (k, s) o reply p n w e =
    let after : Sounds k m v (Ok next) = subst (Sounds k m v) e (sounds k m v call s o reply p n w) in
    counted (suc k) after.0 v next after.2 ∙ ap suc (sym (counted k m v call s))

-- a call by its name starts with its ceiling
pub good_named : (config : Config) → TwoByteBudgets config → (kind : Kind) (p n w most waits : ℕ)
    → CeilingOf (budget_of kind config n) p n kind most waits → Good most waits (start_of kind config p n w)
good_named config few kind p n w most waits name = (0, sound_named config few p n w kind most waits name)
