-- How long a call waits: the total that its tally carries beside its answer, for each call by its kind and any list of reports to it; and what it is for two calls to differ in that
-- alone, which demand 2 says of the setting. (02, W-203)
-- Assumes nothing.
use Rattle.engine.specs.Bus.{Reported}
use Rattle.std.specs.Prelude.{ℕ, ◌+◌, ◌*◌, ◌≤◌, ◌<◌, ◌≡◌, Bool, true, false, List, [], ◌∷◌, Err, Ok}
use Rattle.protocol.specs.Common.{TwoByteBudgets}
use Rattle.protocol.specs.declared.common.Config.{Config}
use Rattle.protocol.specs.declared.error.Answer.{Answer}
use Rattle.engine.specs.declared.budget.Tally.{Tally}
use Rattle.engine.specs.declared.bus.Outcome.{Outcome}
use Rattle.writing.specs.Frames.{frame_count}
use Rattle.writing.specs.declared.call.WritePlan.{WritePlan}
use Rattle.reading.specs.declared.call.ReadPlan.{ReadPlan}
use Rattle.calls.specs.Kind.{plan_of}
use Rattle.calls.specs.Sides.{budget_of}
use Rattle.calls.specs.Call.{start_of, next_of, work_after, part_of, buffer_after, phase_of, tally_of, fits_of}
use Rattle.calls.specs.declared.call.Call.{Call}
use Rattle.calls.specs.declared.kind.Kind.{Kind}
use Rattle.calls.specs.declared.kind.Plan.{Plan}
use Rattle.calls.specs.declared.kind.Plan.TheVariants as plan
use Rattle.ceilings.specs.Reports.{Report, came_of, call_after, feed}
use Rattle.waits.specs.Costs.{budget_cost, frames_cost}

-- ---- what a call takes of a list of reports

-- the outcome of a report goes in front of others, where it is taken
abbrev pub takes : Outcome → Reported Call → List Outcome → List Outcome
takes o (Err (a, call)) os = os
takes o (Ok call) os = o ∷ os

-- the outcomes that it takes, first to last
unfoldable pub outcomes_of : Call → List Report → List Outcome
outcomes_of call [] = []
outcomes_of call (e ∷ es) = takes e.outcome (came_of call e) (outcomes_of (call_after (came_of call e)) es)

-- ---- how long a host waits after a report

-- the lengths that a wait can have
pub data WaitLength : (growing : Bool) → ℕ → Type 0 where
  ten : (growing : Bool) → WaitLength growing 10
  twenty : WaitLength true 20
  forty : WaitLength true 40
  eighty : WaitLength true 80

-- what a report does to what a call counts: no wait, and the total is as it was; or one wait more, and the total has grown by its length
pub data Growth (growing : Bool) (before after : Tally) : Type 0 where
  none : after.waits ≡ before.waits → after.waited_ms ≡ before.waited_ms → Growth growing before after
  one : (ms : ℕ) → WaitLength growing ms → after.waits ≡ before.waits + 1 → after.waited_ms ≡ before.waited_ms + ms → Growth growing before after

-- ---- what does not depend on the setting

-- these settings, with waits that grow or do not
abbrev pub with_growing : Bool → Config → Config
with_growing growing config = record {
  max_write_retries = config.max_write_retries;
  max_read_retries = config.max_read_retries;
  pec_write = config.pec_write;
  pec_read = config.pec_read;
  growing_waits = growing;
}

-- the answer that a report is refused with; none where it is taken
abbrev pub refusal : Reported Call → List Answer
refusal (Err (a, call)) = a ∷ []
refusal (Ok call) = []

-- two calls that differ to their host at most in how long they have waited
pub record AlikeButWaited (a b : Call) : Type 0 where
  -- what they show, what that leaves in the work buffer, and the part to send
  pub shows : (payload : List ℕ) (n w : ℕ) → next_of a payload n w ≡ next_of b payload n w
  pub lays : (payload : List ℕ) (n : ℕ) (work : List ℕ) → work_after a payload n work ≡ work_after b payload n work
  pub sends : (payload work : List ℕ) (n : ℕ) → part_of a payload work n ≡ part_of b payload work n
  -- which reports they refuse, and what a report leaves in the buffer
  pub refuses : (e : Report) → refusal (came_of a e) ≡ refusal (came_of b e)
  pub fills : (o : Outcome) (reply buffer : List ℕ) (w : ℕ) → buffer_after a o reply buffer w ≡ buffer_after b o reply buffer w
  -- where they stand, with which answer; the lengths of the start, and what they count
  pub stands : phase_of a ≡ phase_of b
  pub fits : (p n w : ℕ) → fits_of a p n w ≡ fits_of b p n w
  pub waits : (tally_of a).waits ≡ (tally_of b).waits
  pub transfers : (tally_of a).transfers ≡ (tally_of b).transfers

-- ---- how many budgets a call has: a writing call one for each frame, a reading call one

abbrev pub budgets_in : Plan → (p : ℕ) → ℕ
budgets_in (plan.Write its) p = frame_count its.frames p
budgets_in (plan.Read its) p = 1

-- ---- a call by its kind, started with a payload of p bytes, a buffer of n and a work buffer of w, after any list of reports

abbrev pub counts_of : Kind → Config → (p n w : ℕ) → List Report → Tally
counts_of kind config p n w es = tally_of (feed (start_of kind config p n w) es)

pub record Waits : Type 0 where
  -- IN CLOSED WORDS: a reading call has one budget, and all its waits are of that
  pub reads : (config : Config) → TwoByteBudgets config → (kind : Kind) (p n w : ℕ) (its : ReadPlan) → plan_of kind config p n ≡ plan.Read its → (es : List Report)
      → (counts_of kind config p n w es).waited_ms ≡ budget_cost config.growing_waits (counts_of kind config p n w es).waits
  -- a writing call has one for each frame
  pub writes : (config : Config) → TwoByteBudgets config → (kind : Kind) (p n w : ℕ) (its : WritePlan) → plan_of kind config p n ≡ plan.Write its → (es : List Report)
      → (counts_of kind config p n w es).waited_ms
      ≡ frames_cost config.growing_waits (budget_of kind config n) 0 (outcomes_of (start_of kind config p n w) es)
  -- with the setting off all waits are 10 ms, so that the total is ten times the count
  pub steady : (config : Config) → TwoByteBudgets config → config.growing_waits ≡ false → (kind : Kind) (p n w : ℕ) (es : List Report)
      → (counts_of kind config p n w es).waited_ms ≡ (counts_of kind config p n w es).waits * 10
  -- a report adds nothing, or one wait and its length: so a host waits for as many milliseconds as the total has grown by
  pub grows : (config : Config) → TwoByteBudgets config → (kind : Kind) (p n w : ℕ) (es : List Report) (e : Report)
      → Growth config.growing_waits (counts_of kind config p n w es) (tally_of (call_after (came_of (feed (start_of kind config p n w) es) e)))
  -- 32 bits are enough: the total is at most 256 frames * 65,535 waits * 80 ms, not a third of what they hold
  pub small : (config : Config) → TwoByteBudgets config → (kind : Kind) (p n w : ℕ) (es : List Report)
      → ((counts_of kind config p n w es).waited_ms ≤ 256 * 65535 * 80) × (256 * 65535 * 80 * 3 < 4294967295)
  -- and at most what r retried failures come to, for each budget
  pub most : (config : Config) → TwoByteBudgets config → (kind : Kind) (p n w : ℕ) (es : List Report)
      → (counts_of kind config p n w es).waited_ms ≤ budgets_in (plan_of kind config p n) p * budget_cost config.growing_waits (budget_of kind config n)
