-- What becomes of each transfer of a call, and what it does then: the events that demand 3 speaks of.
-- Assumes nothing.
use Rattle.std.specs.Prelude.{ℕ, suc, List, [], ◌∷◌}
use Rattle.engine.specs.declared.bus.Outcome.{Outcome}
use Rattle.engine.specs.declared.bus.Outcome.TheVariants as outcome
use Rattle.model_gauge.specs.Gauge.{stored}

-- why it failed
pub data Cause : Type 0 where
  bus_error : ℕ → Cause
  timed_out : Cause

-- acknowledged, with its full work done; failed with nothing done; failed with its full work done unheard
pub data Event : Type 0 where
  acknowledged : Event
  failed unheard : Cause → Event

abbrev pub cause_of : Cause → Outcome
cause_of (bus_error code) = outcome.BusError code
cause_of timed_out = outcome.Timeout

-- what the host hears
abbrev pub heard_as : Event → Outcome
heard_as acknowledged = outcome.Acknowledged
heard_as (failed c) = cause_of c
heard_as (unheard c) = cause_of c

-- the reply that it lends: what an acknowledged transfer brought, or whatever lies there beside a failure
abbrev pub lent_of : Event → (brought beside : List ℕ) → List ℕ
lent_of acknowledged brought beside = brought
lent_of (failed c) brought beside = beside
lent_of (unheard c) brought beside = beside

-- its full work is done, unless it failed with nothing done: the one place where that is supposed
abbrev pub after : {A : Type 0} → Event → (before done : A) → A
after acknowledged before done = done
after (failed c) before done = before
after (unheard c) before done = done

-- what a frame does to the flash
abbrev pub flash_after : Event → List ℕ → List ℕ → List ℕ
flash_after e frame flash = after e flash (stored frame flash)

-- one more, where it was acknowledged
abbrev pub acked_after : Event → ℕ → ℕ
acked_after acknowledged i = suc i
acked_after (failed c) i = i
acked_after (unheard c) i = i

-- one thing after the other
unfoldable pub each : {A W : Type 0} → (A → W → W) → List A → W → W
each does [] w = w
each does (one ∷ more) w = each does more (does one w)
