-- What a host may do with a call: lend any work buffer and any bytes beside a failure, and report in between what is refused.
-- Assumes nothing.
use Rattle.std.specs.Prelude.{ℕ, ◌≡◌, ◌⊎◌, List, [], ◌∷◌}
use Rattle.protocol.specs.declared.error.Answer.{Answer}
use Rattle.engine.specs.declared.bus.Outcome.{Outcome}
use Rattle.engine.specs.declared.bus.Outcome.TheVariants as outcome
use Rattle.engine.specs.declared.bus.Transfer.{Transfer}
use Rattle.engine.specs.declared.bus.Transfer.TheVariants as transfer
use Rattle.promises.specs.Events.{Event}

-- what a host does: it lends a work buffer, makes the transfer that is shown and reports what became of it, with any bytes lying in the reply beside a
-- failure; or it reports something in between, with that many bytes lent and that many in the work buffer
pub data Doing : Type 0 where
  transfers : Event → (work beside : List ℕ) → Doing
  reports : Outcome → (reply : List ℕ) → (lent work : ℕ) → Doing

-- what becomes of its transfers
abbrev pub events : List Doing → List Event
events [] = []
events (transfers e work beside ∷ ds) = e ∷ events ds
events (reports o reply lent work ∷ ds) = events ds

-- one thing for a write of n bytes that is shown, one for a read, one where no transfer is
unfoldable pub makes : {A : Type 0} → (ℕ → A) → (ℕ → ℕ → A) → A → Transfer → A
makes write read none (transfer.Write n) = write n
makes write read none (transfer.Read command count) = read command count
makes write read none (transfer.Refused a) = none
makes write read none (transfer.Ended a) = none

-- how many bytes a transfer asks for
abbrev pub asks : Transfer → ℕ
asks (transfer.Write n) = 0
asks (transfer.Read command count) = count
asks (transfer.Refused a) = 0
asks (transfer.Ended a) = 0

-- a report that document 01 refuses, where t is shown and n and w bytes were lent at the start: the call has ended (10), a lent length differs (8), or an
-- acknowledgement brings another number of bytes than was asked (9)
pub data Misplaced (t : Transfer) (n w : ℕ) (o : Outcome) (reply lent work : ℕ) : Type 0 where
  has_ended : (a : Answer) → t ≡ transfer.Ended a → Misplaced t n w o reply lent work
  wrong_buffer : (lent ≡ n → ⊥) ⊎ (work ≡ w → ⊥) → Misplaced t n w o reply lent work
  wrong_reply : o ≡ outcome.Acknowledged → (reply ≡ asks t → ⊥) → Misplaced t n w o reply lent work

-- each thing that a host does is one that it may do where the call then is
abbrev pub Allowed : {W : Type 0} → (Doing → W → W) → (Doing → W → Type 0) → List Doing → W → Type 0
Allowed does May [] w = Unit {0}
Allowed does May (d ∷ ds) w = May d w × Allowed does May ds (does d w)
