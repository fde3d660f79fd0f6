-- What passes between a call and the bus, and where a call stands. (01, The step machine)
-- Assumes nothing.
use Rattle.std.specs.Prelude.{ℕ, Bool, ◌&&◌, leb, eqb, Option, Some, None, Result}
use Rattle.protocol.specs.Pick.{when◌then◌else◌}
use Rattle.protocol.specs.declared.error.Answer.{Answer}
use Rattle.protocol.specs.declared.error.Answer.TheVariants as answer
use Rattle.engine.specs.declared.bus.Lent.{Lent}
use Rattle.engine.specs.declared.bus.Phase.{Phase}
use Rattle.engine.specs.declared.bus.Phase.TheVariants as phase
use Rattle.engine.specs.declared.bus.Transfer.{Transfer}
use Rattle.engine.specs.declared.bus.Transfer.TheVariants as transfer

-- a frame that was laid is to be sent; 8 where it has no room
unfoldable pub write_of : Option ℕ → Transfer
write_of (Some n) = transfer.Write n
write_of None = transfer.Refused answer.WrongBuffer

-- how many bytes a transfer sends, where it is a write
abbrev pub sent_by : Transfer → ℕ
sent_by (transfer.Write n) = n
sent_by (transfer.Read command n) = 0
sent_by (transfer.Refused a) = 0
sent_by (transfer.Ended a) = 0

-- what comes of a report: the new call, or a refusal and the call as it was
abbrev pub Reported : Type 0 → Type 0
Reported C = Result C (Answer × C)

-- a call of so many steps is done once it has made them all
unfoldable pub phase_after : ℕ → ℕ → Phase
phase_after steps made = when leb steps made then phase.Ended answer.Done else phase.Waiting

-- the lent lengths are those of the start
unfoldable pub fits_of : Lent → ℕ → ℕ → Bool
fits_of lent n w = eqb n lent.length && eqb w lent.work
