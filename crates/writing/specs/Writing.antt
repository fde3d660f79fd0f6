-- A writing call, step by step. (01, The step machine; Frames and retries)
-- Assumes nothing.
use Rattle.std.specs.Prelude.{ℕ, Bool, true, false, List, length, eqb, Ok, Err}
use Rattle.protocol.specs.Pick.{when◌then◌else◌}
use Rattle.protocol.specs.Bytes.{send_of, block_start}
use Rattle.protocol.specs.Frame.{laid_of, work_laid}
use Rattle.protocol.specs.declared.common.Config.{Config}
use Rattle.protocol.specs.declared.error.Answer.{Answer}
use Rattle.protocol.specs.declared.error.Answer.TheVariants as answer
use Rattle.engine.specs.Pick.{case◌waiting◌ended◌, case◌acknowledged◌error◌timeout◌, case◌retry◌spent◌}
use Rattle.engine.specs.Budget.{failed, more_of, nothing, waited, tallied}
use Rattle.engine.specs.Bus.{Reported, write_of, phase_after, fits_of}
use Rattle.engine.specs.Limit.{admitted}
use Rattle.engine.specs.declared.budget.Budget.{Budget}
use Rattle.engine.specs.declared.bus.Outcome.{Outcome}
use Rattle.engine.specs.declared.bus.Phase.TheVariants as phase
use Rattle.engine.specs.declared.limit.Limit.{Limit}
use Rattle.engine.specs.declared.bus.Transfer.{Transfer}
use Rattle.engine.specs.declared.bus.Transfer.TheVariants as transfer
use Rattle.writing.specs.Frames.{is_plain, is_flash, first_address, frame_count, bytes_at}
use Rattle.writing.specs.declared.frames.Frames.{Frames}
use Rattle.writing.specs.declared.call.WritePlan.{WritePlan}
use Rattle.writing.specs.declared.call.WriteCall.{WriteCall}

-- by the settings' waits, and by their retries and PEC for what writes
unfoldable pub plan_of : Config → Limit → Frames → WritePlan
plan_of config limit frames = record {
  retries = config.max_write_retries;
  growing = config.growing_waits;
  pec = config.pec_write;
  limit = limit;
  frames = frames;
}

-- a call with a payload of n bytes and a work buffer of w
unfoldable pub start_of : WritePlan → ℕ → ℕ → WriteCall
start_of plan n w = record {
  task = record { plan = plan; lent = record { length = n; work = w } };
  phase = admitted plan.limit (first_address plan.frames) n w;
  sent = 0;
  budget = record { left = plan.retries };
  tally = nothing;
}

-- a plain write with no PEC sends the caller's own bytes
unfoldable pub own_bytes : WriteCall → Bool
own_bytes call = when is_plain call.task.plan.frames then (when call.task.plan.pec then false else true) else false

-- the frame that is due, before its PEC
unfoldable pub due_bytes : WriteCall → List ℕ → List ℕ
due_bytes call payload = bytes_at call.task.plan.frames call.sent payload

unfoldable pub shown_of : WriteCall → List ℕ → ℕ → Transfer
shown_of call payload w = write_of (laid_of call.task.plan.pec (due_bytes call payload) w)

unfoldable pub work_shown : WriteCall → List ℕ → List ℕ → List ℕ
work_shown call payload work = work_laid call.task.plan.pec (due_bytes call payload) work

-- what a call shows, given the payload and a work buffer of w bytes
unfoldable pub next_of : WriteCall → List ℕ → ℕ → Transfer
next_of call payload w =
    case call.phase
    waiting (when fits_of call.task.lent (length payload) w then
    (when own_bytes call then transfer.Write (length payload) else shown_of call payload w)
    else transfer.Refused answer.WrongBuffer)
    ended transfer.Ended

-- what showing leaves in the work buffer
unfoldable pub work_after : WriteCall → List ℕ → List ℕ → List ℕ
work_after call payload work =
    case call.phase
    waiting (when fits_of call.task.lent (length payload) (length work) then
    (when own_bytes call then work else work_shown call payload work)
    else work)
    ended (λ a. work)

-- the part to send, from whichever holds it
unfoldable pub part_of : WriteCall → List ℕ → List ℕ → ℕ → List ℕ
part_of call payload work n = when own_bytes call then send_of payload work false n else send_of payload work true n

-- the next frame, with a budget of its own
unfoldable pub advance_of : WriteCall → WriteCall
advance_of call = record {
  task = call.task;
  phase = phase_after (frame_count call.task.plan.frames call.task.lent.length) (more_of call.sent);
  sent = more_of call.sent;
  budget = record { left = call.task.plan.retries };
  tally = call.tally;
}

-- a data-flash write that failed after at least one block says how much was acknowledged, in place of 1 or 2
unfoldable pub gave_up : Frames → ℕ → Answer → Answer
gave_up fs sent why = when is_flash fs then (when eqb sent 0 then why else answer.PartialDataFlashWrite (block_start sent)) else why

-- the same frame again, after a wait of so many milliseconds
unfoldable pub retry_of : WriteCall → Budget → ℕ → WriteCall
retry_of call left ms = record {
  task = call.task;
  phase = phase.Waiting;
  sent = call.sent;
  budget = left;
  tally = waited call.tally ms;
}

-- the call gives up
unfoldable pub end_of : WriteCall → Answer → WriteCall
end_of call why = record {
  task = call.task;
  phase = phase.Ended (gave_up call.task.plan.frames call.sent why);
  sent = call.sent;
  budget = call.budget;
  tally = call.tally;  -- no wait for the failure that ends the call
}

unfoldable pub fail_of : WriteCall → Answer → WriteCall
fail_of call why =
    case failed call.task.plan.retries call.task.plan.growing call.budget
    retry retry_of call
    spent end_of call why

unfoldable pub settle_of : WriteCall → Outcome → WriteCall
settle_of call o =
    case o
    acknowledged advance_of call
    error (λ code. fail_of call (answer.I2c code))
    timeout fail_of call answer.Timeout

-- an acknowledged write brings no reply; that of a failure is not looked at
unfoldable pub replied_of : Outcome → ℕ → Bool
replied_of o r =
    case o
    acknowledged (when eqb r 0 then false else true)
    error (λ code. false)
    timeout false

-- one transfer more is counted
unfoldable pub counted_of : WriteCall → WriteCall
counted_of call = record {
  task = call.task;
  phase = call.phase;
  sent = call.sent;
  budget = call.budget;
  tally = tallied call.tally;
}

-- an outcome with a reply of r bytes, a payload of n and a work buffer of w: 10, 8, 9, or taken and counted
unfoldable pub report_of : WriteCall → Outcome → ℕ → ℕ → ℕ → Reported WriteCall
report_of call o r n w =
    case call.phase
    waiting (when fits_of call.task.lent n w then
    (when replied_of o r then Err (answer.WrongReply, call) else Ok (settle_of (counted_of call) o))
    else Err (answer.WrongBuffer, call))
    ended (λ a. Err (answer.NothingOutstanding, call))
