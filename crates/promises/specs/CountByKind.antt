-- The counts are the original's: the transfers that a call counts are those that the Rust makes and the bus has answered for (02, W-208), and where waits do not
-- grow its total is 10 ms for each of the Rust's delays (02, W-203).
-- Assumes nothing.
use Rattle.std.specs.Prelude.{ℕ, ◌*◌, ◌≡◌, false, List, length}
use Rattle.protocol.specs.declared.common.Config.{Config}
use Rattle.protocol.specs.declared.error.Answer.{Answer}
use Rattle.calls.specs.Call.{start_of, tally_of}
use Rattle.calls.specs.declared.kind.Kind.{Kind}
use Rattle.original.specs.Bus.{BusOutcome, answered_in, waits_in}
use Rattle.original.specs.Fed.{Lending, fed_call}
use Rattle.original.specs.ByKind.{rust_of, Defined, Added}

-- every kind, for these settings, a work buffer of w bytes at each step, what is lent and these outcomes
pub record CountByKind (config : Config) (w : ℕ) (lent : ℕ → Lending) (outcomes : List BusOutcome) : Type 0 where
  -- the call has counted the transfers that the Rust's function lists and has had an outcome for, and its waits
  pub same : (kind : Kind) (payload buffer : List ℕ) → Defined kind config payload buffer
      → ((tally_of (fed_call (start_of kind config (length payload) (length buffer) w) payload buffer lent 0 outcomes)).transfers
      ≡ answered_in (rust_of kind config payload buffer outcomes))
      × ((tally_of (fed_call (start_of kind config (length payload) (length buffer) w) payload buffer lent 0 outcomes)).waits ≡ waits_in (rust_of kind config payload buffer outcomes))
  -- with the setting off it has waited for 10 ms for each of the Rust's delays
  pub steady : config.growing_waits ≡ false → (kind : Kind) (payload buffer : List ℕ) → Defined kind config payload buffer
      → (tally_of (fed_call (start_of kind config (length payload) (length buffer) w) payload buffer lent 0 outcomes)).waited_ms
      ≡ waits_in (rust_of kind config payload buffer outcomes) * 10
  -- where the added refusal stands, nothing is counted
  pub added : (kind : Kind) (payload buffer : List ℕ) (a : Answer) → Added config payload buffer kind a
      → tally_of (fed_call (start_of kind config (length payload) (length buffer) w) payload buffer lent 0 outcomes) ≡ record { waits = 0; waited_ms = 0; transfers = 0 }
