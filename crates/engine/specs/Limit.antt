-- How a call is admitted. (01, The step machine: at the start the order is 8, 4, 5, 7)
-- Assumes nothing.
use Rattle.std.specs.Prelude.{ℕ, ltb, eqb}
use Rattle.protocol.specs.Pick.{when◌then◌else◌}
use Rattle.protocol.specs.Window.{in_window}
use Rattle.protocol.specs.declared.error.Answer.TheVariants as answer
use Rattle.engine.specs.declared.bus.Phase.{Phase}
use Rattle.engine.specs.declared.bus.Phase.TheVariants as phase
use Rattle.engine.specs.declared.limit.Limit.{Limit}
use Rattle.engine.specs.declared.limit.Limit.TheVariants as limit

-- a data-flash transfer: outside the window 5, an empty one done at once
unfoldable pub windowed : ℕ → ℕ → Phase
windowed address n =
    when in_window address n then (when eqb n 0 then phase.Ended answer.Done else phase.Waiting)
    else phase.Ended answer.DataFlashAddressOutOfRange

-- a command: input and output of at most 32 bytes, else 4; no input, else 7
unfoldable pub commanded : ℕ → ℕ → Phase
commanded input output =
    when ltb 32 input then phase.Ended answer.DataTooLarge else
    when ltb 32 output then phase.Ended answer.DataTooLarge else
    when eqb input 0 then phase.Waiting else phase.Ended answer.NotACommand

-- what n lent bytes come to, of data flash from an address on
unfoldable pub measured : Limit → ℕ → ℕ → Phase
measured limit.Free start n = phase.Waiting
measured (limit.AtMost most) start n = when ltb most n then phase.Ended answer.DataTooLarge else phase.Waiting
measured (limit.Exactly size) start n = when eqb n size then phase.Waiting else phase.Ended answer.WrongBuffer
measured limit.Window start n = windowed start n
measured (limit.Command input) start n = commanded input n

-- first of all, the work buffer has at least 39 bytes
unfoldable pub admitted : Limit → ℕ → ℕ → ℕ → Phase
admitted l start n w = when ltb w 39 then phase.Ended answer.WrongBuffer else measured l start n
