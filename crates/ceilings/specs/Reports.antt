-- A call fed any list of reports, each with any outcome, any reply and any lent lengths; and how many of them it takes. (01, The step machine)
-- Assumes nothing.
use Rattle.engine.specs.Bus.{Reported}
use Rattle.std.specs.Prelude.{ℕ, ◌+◌, List, [], ◌∷◌, Err, Ok}
use Rattle.engine.specs.declared.bus.Outcome.{Outcome}
use Rattle.calls.specs.Call.{report_of}
use Rattle.calls.specs.declared.call.Call.{Call}

-- an outcome, the reply beside it, and the lengths of payload, buffer and work buffer that are lent with it
pub record Report : Type 0 where
  pub outcome : Outcome
  pub reply : List ℕ
  pub payload : ℕ
  pub buffer : ℕ
  pub work : ℕ

-- what comes of it
abbrev pub came_of : Call → Report → Reported Call
came_of call e = report_of call e.outcome e.reply e.payload e.buffer e.work

-- the call after a report: the new one, or as it was where the report is refused
abbrev pub call_after : Reported Call → Call
call_after (Err (a, call)) = call
call_after (Ok call) = call

-- an outcome that is accepted is one; a report that is refused (8, 9 or 10) is none
abbrev pub taken_in : Reported Call → ℕ
taken_in (Err (a, call)) = 0
taken_in (Ok call) = 1

-- one report after the other
unfoldable pub feed : Call → List Report → Call
feed call [] = call
feed call (e ∷ es) = feed (call_after (came_of call e)) es

-- the number of outcomes that the call accepts
unfoldable pub accepted : Call → List Report → ℕ
accepted call [] = 0
accepted call (e ∷ es) = taken_in (came_of call e) + accepted (call_after (came_of call e)) es
