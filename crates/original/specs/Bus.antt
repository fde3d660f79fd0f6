-- What passes between a call and the bus, as its user sees it: what the bus does, what a call has done so far, what it comes to.
-- Assumes nothing.
use Rattle.std.specs.Prelude.{ℕ, ◌+◌, ◌-◌, ◌≤◌, List, [], ◌∷◌, ◌++◌, length, take, replicate}
use Rattle.protocol.specs.declared.error.Answer.{Answer}
use Rattle.protocol.specs.declared.error.Answer.TheVariants as answer
pub use Rattle.engine.specs.Made.{Made, write, read}
use Rattle.engine.specs.declared.bus.Outcome.{Outcome}
use Rattle.engine.specs.declared.bus.Outcome.TheVariants as outcome

-- what the bus does with one transfer: acknowledges it, with the bytes that a read brings; a bus error with its code; no answer in time
pub data BusOutcome : Type 0 where
  Acknowledged : List ℕ → BusOutcome
  BusError : ℕ → BusOutcome
  Timeout : BusOutcome

-- an outcome in the machine's words
unfoldable pub told : BusOutcome → Outcome
told (Acknowledged bytes) = outcome.Acknowledged
told (BusError code) = outcome.BusError code
told Timeout = outcome.Timeout

-- how many bytes a transfer brings
unfoldable pub brings : Made → ℕ
brings (write frame) = 0
brings (read command count) = count

-- an acknowledged read of n brings exactly n bytes: a longer list is cut, a shorter one ends in zeros
abbrev pub delivered : ℕ → List ℕ → List ℕ
delivered n bytes = take n (bytes ++ replicate n 0)

-- what a call has done so far: its transfers, first to last, and how often it has waited (each of the Rust's waits is 10 ms)
pub record Log : Type 0 where
  pub transfers : List Made
  pub waits : ℕ

abbrev pub begun : Log
begun = record { transfers = []; waits = 0 }

-- one more transfer
abbrev pub made : Made → Log → Log
made t log = record { transfers = log.transfers ++ (t ∷ []); waits = log.waits }

-- one more wait (delay_ms)
abbrev pub delayed : Log → Log
delayed log = record { transfers = log.transfers; waits = log.waits + 1 }

-- what a call comes to: Ok or an error, with the outcomes that it has not used; or it still waits for the outcome of its last transfer
pub data Came : Type 0 where
  Ok : Log → List BusOutcome → Came
  Err : Answer → Log → List BusOutcome → Came
  Waiting : Log → Came

-- what a reading call comes to: the same, and what is in its caller's buffer
infix 12 ◌leaving◌
pub data Read : Type 0 where
  ◌leaving◌ : Came → List ℕ → Read

-- the transfers that it has made
unfoldable pub transfers_of : Read → List Made
transfers_of (Ok log outcomes leaving left) = log.transfers
transfers_of (Err e log outcomes leaving left) = log.transfers
transfers_of (Waiting log leaving left) = log.transfers

-- the transfers listed that the bus has answered for: a call that still waits has none for its last one
unfoldable pub answered_in : Read → ℕ
answered_in (Ok log outcomes leaving left) = length log.transfers
answered_in (Err a log outcomes leaving left) = length log.transfers
answered_in (Waiting log leaving left) = length log.transfers - 1

-- how often it has waited
unfoldable pub waits_in : Read → ℕ
waits_in (Ok log outcomes leaving left) = log.waits
waits_in (Err a log outcomes leaving left) = log.waits
waits_in (Waiting log leaving left) = log.waits

-- at most so many transfers are made, and so many waits
abbrev pub NoMore : (most waits : ℕ) → Read → Type 0
NoMore most waits r = (length (transfers_of r) ≤ most) × (waits_in r ≤ waits)

-- it does not wait for an outcome
abbrev pub Over : Read → Type 0
Over (Ok log outcomes leaving left) = Unit {0}
Over (Err a log outcomes leaving left) = Unit {0}
Over (Waiting log leaving left) = ⊥

-- bus_op! and what is done with its result: I2c or Timeout, or Ok with the bytes that came
infixr 10 bus_op◌err◌ok◌
unfoldable pub bus_op◌err◌ok◌ : {A : Type 0} → BusOutcome → (Answer → A) → (List ℕ → A) → A
bus_op (Acknowledged bytes) err f ok g = g bytes
bus_op (BusError code) err f ok g = f (answer.I2c code)
bus_op Timeout err f ok g = f answer.Timeout

-- what follows a call: on Ok the rest, otherwise the error as the second makes it
unfoldable pub settle : (Log → List BusOutcome → Came) → (Answer → Answer) → Came → Came
settle rest why (Ok log outcomes) = rest log outcomes
settle rest why (Err e log outcomes) = Err (why e) log outcomes
settle rest why (Waiting log) = Waiting log

-- Rust's `?`: an error is returned as it is
abbrev pub and_then : (Log → List BusOutcome → Came) → Came → Came
and_then rest came = settle rest (λ e. e) came

-- `?`, then data.copy_from_slice(&read_buf[..data.len()]): the caller's bytes stay as they were until the read is Ok
unfoldable pub copied : List ℕ → Read → Read
copied bytes (Ok log outcomes leaving read_buf) = Ok log outcomes leaving take (length bytes) read_buf
copied bytes (Err e log outcomes leaving read_buf) = Err e log outcomes leaving bytes
copied bytes (Waiting log leaving read_buf) = Waiting log leaving bytes
