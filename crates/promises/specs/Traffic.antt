-- What a call puts on the bus: at most so many transfers, and it ends. (02, W-208, W-211)
-- The ceilings by engine, by shape and by name, over any list of reports, are those of `ceilings`. Here a host makes the transfers and reports what came of them, and
-- then a run over a course of the model gauge does.
-- Assumes nothing.
use Rattle.std.specs.Prelude.{ℕ, ◌≤◌, ◌<◌, ◌≡◌, true, List, [], map, length, take}
use Rattle.protocol.specs.Common.{TwoByteBudgets}
use Rattle.protocol.specs.declared.common.Config.{Config}
use Rattle.engine.specs.declared.budget.Tally.{Tally}
use Rattle.engine.specs.declared.bus.Phase.TheVariants as phase
use Rattle.calls.specs.Sides.{budget_of}
use Rattle.calls.specs.Call.{start_of, phase_of, tally_of}
use Rattle.calls.specs.declared.call.Call.{Call}
use Rattle.calls.specs.declared.kind.Kind.{Kind}
use Rattle.ceilings.specs.Reports.{Report, feed, accepted}
use Rattle.ceilings.specs.Ceilings.{CeilingOf}
use Rattle.waits.specs.Waits.{outcomes_of}
use Rattle.model_gauge.specs.declared.gauge.Gauge.{Gauge}
use Rattle.courses.specs.Course.{sound_of}
use Rattle.courses.specs.Run.{World, Left, world, run_of}
use Rattle.courses.specs.declared.course.End.TheVariants as end
use Rattle.original.specs.Bus.{BusOutcome, told, NoMore, Over}
use Rattle.original.specs.Fed.{Lending, Lends, fed, fed_call}

-- ---- demand 1: every call that is fed ends

-- each call by its name, whatever the bus does
pub record Ends : Type 0 where
  -- EVERY CALL ENDS: with as many outcomes as its ceiling a call that is fed has its answer
  pub answers : (config : Config) → TwoByteBudgets config → (kind : Kind) (payload buffer : List ℕ) (w most waits : ℕ)
      → CeilingOf (budget_of kind config (length buffer)) (length payload) (length buffer) kind most waits → (lent : ℕ → Lending) (outcomes : List BusOutcome)
      → most ≤ length outcomes → Over (fed (start_of kind config (length payload) (length buffer) w) payload buffer lent [] outcomes)
  -- and that is its own: where the lengths of the start are lent at each step, it does not wait any more
  pub ends : (config : Config) → TwoByteBudgets config → (kind : Kind) (payload buffer : List ℕ) (w most waits : ℕ)
      → CeilingOf (budget_of kind config (length buffer)) (length payload) (length buffer) kind most waits → (lent : ℕ → Lending) → Lends w lent → (outcomes : List BusOutcome)
      → most ≤ length outcomes → phase_of (fed_call (start_of kind config (length payload) (length buffer) w) payload buffer lent 0 outcomes) ≡ phase.Waiting → ⊥
  -- whatever work buffers are lent (at the first of another length 8 is shown, and the host stops), no more transfers than that are made, and no more waits
  pub makes : (config : Config) → TwoByteBudgets config → (kind : Kind) (payload buffer : List ℕ) (w most waits : ℕ)
      → CeilingOf (budget_of kind config (length buffer)) (length payload) (length buffer) kind most waits → (lent : ℕ → Lending) (outcomes : List BusOutcome)
      → NoMore most waits (fed (start_of kind config (length payload) (length buffer) w) payload buffer lent [] outcomes)

-- the call that a host is left with is one that was reported to, so that what is said after any list of reports (`ceilings`, `waits`) is said of it
pub record AsReported (call : Call) (payload buffer : List ℕ) (lent : ℕ → Lending) (outcomes : List BusOutcome) : Type 0 where
  pub reports : List Report
  pub same : fed_call call payload buffer lent 0 outcomes ≡ feed call reports
  -- the outcomes that it took are the first ones of what the bus did
  pub first : outcomes_of call reports ≡ map told (take (accepted call reports) outcomes)

-- ---- the same on courses

-- a call of this kind starts, with a gauge on the other side of the bus
abbrev pub begins : Kind → Config → (payload buffer work flash : List ℕ) → Gauge → World
begins kind config payload buffer work flash gauge =
    world (record { call = start_of kind config (length payload) (length buffer) (length work); gauge = gauge }) buffer work flash

-- what it has counted where a run left it
abbrev pub tally_left : Left → Tally
tally_left left = tally_of left.run.link.call

-- a run of such a call over a course
pub record RunWithin (payload course : List ℕ) (most waits : ℕ) (from : World) : Type 0 where
  -- makes at most so many transfers, and so many waits
  pub makes : ((tally_left (run_of payload course from)).transfers ≤ most) × ((tally_left (run_of payload course from)).waits ≤ waits)
  -- uses up a byte for each transfer and no more: over those bytes alone the run is the same, where no byte is bad
  pub uses : sound_of course ≡ true → run_of payload course from ≡ run_of payload (take (tally_left (run_of payload course from)).transfers course) from
  -- if it is cut, it has used up its course, which is shorter than the ceiling
  pub cut : (run_of payload course from).run.end ≡ end.Cut → ((tally_left (run_of payload course from)).transfers ≡ length course) × (length course < most)

pub record CourseTraffic : Type 0 where
  pub runs : (config : Config) → TwoByteBudgets config → (kind : Kind) (payload buffer work flash : List ℕ) (gauge : Gauge) (course : List ℕ) (most waits : ℕ)
      → CeilingOf (budget_of kind config (length buffer)) (length payload) (length buffer) kind most waits
      → RunWithin payload course most waits (begins kind config payload buffer work flash gauge)
