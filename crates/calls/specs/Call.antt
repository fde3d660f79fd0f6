-- A call, step by step: what the engine that carries it out does, with the one of payload and buffer that it looks at. (01, The step machine)
-- Assumes nothing.
use Rattle.std.specs.Prelude.{ℕ, Bool, List, length, take, Ok, Err}
use Rattle.protocol.specs.declared.common.Config.{Config}
use Rattle.engine.specs.Bus as bus
use Rattle.engine.specs.Bus.{Reported}
use Rattle.engine.specs.declared.budget.Tally.{Tally}
use Rattle.engine.specs.declared.bus.Outcome.{Outcome}
use Rattle.engine.specs.declared.bus.Phase.{Phase}
use Rattle.engine.specs.declared.bus.Transfer.{Transfer}
use Rattle.writing.specs.Writing as writing
use Rattle.writing.specs.declared.call.WriteCall.{WriteCall}
use Rattle.reading.specs.Reading as reading
use Rattle.reading.specs.declared.call.ReadCall.{ReadCall}
use Rattle.calls.specs.Kind.{plan_of}
use Rattle.calls.specs.declared.kind.Kind.{Kind}
use Rattle.calls.specs.declared.kind.Plan.{Plan}
use Rattle.calls.specs.declared.kind.Plan.TheVariants as plan
use Rattle.calls.specs.declared.call.Call.{Call}
use Rattle.calls.specs.declared.call.Call.TheVariants as call

-- a plan starts, with a payload of p bytes, a buffer of n and a work buffer of w
unfoldable pub start_with : Plan → ℕ → ℕ → ℕ → Call
start_with (plan.Write plan) p n w = call.Write (writing.start_of plan p w)
start_with (plan.Read plan) p n w = call.Read (reading.start_of plan n w)

unfoldable pub start_of : Kind → Config → ℕ → ℕ → ℕ → Call
start_of kind config p n w = start_with (plan_of kind config p n) p n w

-- what a call shows, given the payload, a buffer of n bytes and a work buffer of w
unfoldable pub next_of : Call → List ℕ → ℕ → ℕ → Transfer
next_of (call.Write c) payload n w = writing.next_of c payload w
next_of (call.Read c) payload n w = reading.next_of c n w

-- what showing leaves in the work buffer
unfoldable pub work_after : Call → List ℕ → ℕ → List ℕ → List ℕ
work_after (call.Write c) payload n work = writing.work_after c payload work
work_after (call.Read c) payload n work = reading.work_after c n work

-- the part to send: the head of a read is always built in the work buffer
unfoldable pub part_of : Call → List ℕ → List ℕ → ℕ → List ℕ
part_of (call.Write c) payload work n = writing.part_of c payload work n
part_of (call.Read c) payload work n = take n work

-- what came of a report
unfoldable pub wrote_of : Reported WriteCall → Reported Call
wrote_of (Err (why, c)) = Err (why, call.Write c)
wrote_of (Ok c) = Ok (call.Write c)

unfoldable pub got_of : Reported ReadCall → Reported Call
got_of (Err (why, c)) = Err (why, call.Read c)
got_of (Ok c) = Ok (call.Read c)

-- an outcome with a reply, a payload of p bytes, a buffer of n and a work buffer of w
unfoldable pub report_of : Call → Outcome → List ℕ → ℕ → ℕ → ℕ → Reported Call
report_of (call.Write c) o reply p n w = wrote_of (writing.report_of c o (length reply) p w)
report_of (call.Read c) o reply p n w = got_of (reading.report_of c o reply n w)

-- what it leaves in the buffer
unfoldable pub buffer_after : Call → Outcome → List ℕ → List ℕ → ℕ → List ℕ
buffer_after (call.Write c) o reply buffer w = buffer
buffer_after (call.Read c) o reply buffer w = reading.buffer_after c o reply buffer w

-- where it stands
unfoldable pub phase_of : Call → Phase
phase_of (call.Write c) = c.phase
phase_of (call.Read c) = c.phase

-- what it counts
unfoldable pub tally_of : Call → Tally
tally_of (call.Write c) = c.tally
tally_of (call.Read c) = c.tally

-- the lengths of the start are lent again
unfoldable pub fits_of : Call → ℕ → ℕ → ℕ → Bool
fits_of (call.Write c) p n w = bus.fits_of c.task.lent p w
fits_of (call.Read c) p n w = bus.fits_of c.task.lent n w
