-- Demand 2: frames, order, waits, answers and buffers equal the Rust's wherever it does not panic, and the transfers that a call counts are those that the Rust
-- makes (02, W-208). For any two budgets the Rust is set with that of the call's side as `max_bus_retries` (02, W-211). Where waits grow it holds of everything but
-- how long they are (02, W-203). It no longer covers read_register_unchecked and write_register_unchecked, which were retired (02, W-210).
-- `Equal` (crate `original`) has a line for each call: the machine, fed any list of bus outcomes, is the Rust's function written down in the Rust's own order,
-- whatever lies in the work buffer that each step lends and whatever lies in the reply beside a failure.
-- Assumes nothing.
use Rattle.std.specs.Prelude.{ℕ, ◌≤◌, ◌≡◌, true, false, List, length}
use Rattle.protocol.specs.Common.{TwoByteBudgets}
use Rattle.protocol.specs.declared.common.Side.{Side}
use Rattle.protocol.specs.declared.common.Config.{Config}
use Rattle.calls.specs.Sides.{budget_of, Sides}
use Rattle.calls.specs.Call.{start_of}
use Rattle.calls.specs.declared.kind.Kind.{Kind}
use Rattle.ceilings.specs.Reports.{Report, feed}
use Rattle.ceilings.specs.Ceilings.{CeilingOf}
use Rattle.waits.specs.Waits.{with_growing, AlikeButWaited}
use Rattle.original.specs.OriginalCommon.{set_for}
use Rattle.original.specs.Bus.{BusOutcome, NoMore, Over}
use Rattle.original.specs.Fed.{Lending, Lends}
use Rattle.original.specs.Equal.{Equal}
use Rattle.original.specs.ByKind.{rust_of, Defined, EqualByKind}
use Rattle.promises.specs.CountByKind.{CountByKind}

pub record Demand2 : Type 0 where
  -- each call is made with the budget of its side, and is the same call whatever the other is
  pub sides : Sides
  -- where the two are equal the Rust has that one for every call
  pub one_setting : (config : Config) (r : ℕ) → config.max_write_retries ≡ r → config.max_read_retries ≡ r → (s : Side)
      → set_for s config ≡ record { max_bus_retries = r; pec_write = config.pec_write; pec_read = config.pec_read }
  pub equal : (config : Config) → TwoByteBudgets config → (w : ℕ) → 39 ≤ w → (lent : ℕ → Lending) → Lends w lent → (outcomes : List BusOutcome)
      → Equal config w lent outcomes
  -- and as a host has it: a call started by its kind
  pub by_kind : (config : Config) → TwoByteBudgets config → (w : ℕ) → 39 ≤ w → (lent : ℕ → Lending) → Lends w lent → (outcomes : List BusOutcome)
      → EqualByKind config w lent outcomes
  -- the transfers that the call counts are those that the Rust's function lists and has had an outcome for, and its waits are the Rust's, of
  -- 10 ms each where they do not grow
  pub counts : (config : Config) → TwoByteBudgets config → (w : ℕ) → 39 ≤ w → (lent : ℕ → Lending) → Lends w lent → (outcomes : List BusOutcome)
      → CountByKind config w lent outcomes
  -- so the ceilings, of transfers and of waits, are the Rust's too, and its functions end
  pub ceilings : (config : Config) → TwoByteBudgets config → (kind : Kind) (payload buffer : List ℕ) → Defined kind config payload buffer → (most waits : ℕ)
      → CeilingOf (budget_of kind config (length buffer)) (length payload) (length buffer) kind most waits → (outcomes : List BusOutcome)
      → NoMore most waits (rust_of kind config payload buffer outcomes) × (most ≤ length outcomes → Over (rust_of kind config payload buffer outcomes))
  -- and whatever is reported, no transfer, answer or buffer, and no count but that of the milliseconds, depends on whether waits grow
  pub alike : (config : Config) (kind : Kind) (p n w : ℕ) (es : List Report)
      → AlikeButWaited (feed (start_of kind (with_growing true config) p n w) es) (feed (start_of kind (with_growing false config) p n w) es)
