-- What becomes of the transfers that the Rust makes: a flash with the events laid over them, and where the call stands. The step machine does not occur here.
-- Assumes nothing.
use Rattle.std.specs.Prelude.{ℕ, List, [], ◌∷◌}
use Rattle.protocol.specs.declared.error.Answer.TheVariants as answer
use Rattle.courses.specs.declared.course.End.{End}
use Rattle.courses.specs.declared.course.End.TheVariants as end
use Rattle.original.specs.Bus.{BusOutcome, Acknowledged, BusError, Timeout, Made, write, read, Came, Ok, Err, Waiting}
use Rattle.promises.specs.Events.{Cause, bus_error, timed_out, Event, acknowledged, failed, unheard, flash_after}

-- what the bus does, in the Rust's words
abbrev pub failure_in : Cause → BusOutcome
failure_in (bus_error code) = BusError code
failure_in timed_out = Timeout

abbrev pub outcome_in : Event → BusOutcome
outcome_in acknowledged = Acknowledged []
outcome_in (failed c) = failure_in c
outcome_in (unheard c) = failure_in c

abbrev pub outcomes_in : List Event → List BusOutcome
outcomes_in [] = []
outcomes_in (e ∷ es) = outcome_in e ∷ outcomes_in es

-- the transfers that a call made
abbrev pub made_in : Came → List Made
made_in (Ok log outcomes) = log.transfers
made_in (Err a log outcomes) = log.transfers
made_in (Waiting log) = log.transfers

-- what becomes of each of them, laid over a flash; the last has no event yet where the call was cut
abbrev pub laid_over : List Event → List Made → List ℕ → List ℕ
laid_over [] ts flash = flash
laid_over (e ∷ es) [] flash = flash
laid_over (e ∷ es) (write frame ∷ ts) flash = laid_over es ts (flash_after e frame flash)
laid_over (e ∷ es) (read command count ∷ ts) flash = laid_over es ts flash

-- how a call stopped: cut where it still waits; its Ok is the answer 0
abbrev pub stop_of : Came → End
stop_of (Ok log outcomes) = end.Answered answer.Done
stop_of (Err a log outcomes) = end.Answered a
stop_of (Waiting log) = end.Cut
