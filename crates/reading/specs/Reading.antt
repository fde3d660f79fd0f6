-- A reading call, step by step. (01, The step machine; Frames and retries)
-- Assumes nothing.
use Rattle.std.specs.Prelude.{ℕ, false, List, length, eqb, Result, Ok, Err}
use Rattle.protocol.specs.Pick.{when◌then◌else◌}
use Rattle.protocol.specs.Common.{retries_on, pec_on}
use Rattle.protocol.specs.Bytes.{stored_at, block_start}
use Rattle.protocol.specs.Frame.{laid_of, work_laid}
use Rattle.protocol.specs.Reply.{mac_ask, bytes_asked, heard_of, data_of}
use Rattle.protocol.specs.declared.common.Config.{Config}
use Rattle.protocol.specs.declared.error.Answer.{Answer}
use Rattle.protocol.specs.declared.error.Answer.TheVariants as answer
use Rattle.protocol.specs.declared.frame.MacCommand.{MacCommand}
use Rattle.protocol.specs.declared.reply.Ask.{Ask}
use Rattle.protocol.specs.declared.reply.Unheard.{Unheard}
use Rattle.protocol.specs.declared.reply.Unheard.TheVariants as unheard
use Rattle.engine.specs.Pick.{case◌waiting◌ended◌, case◌acknowledged◌error◌timeout◌, case◌retry◌spent◌}
use Rattle.engine.specs.Budget.{failed, more_of, nothing, waited, tallied}
use Rattle.engine.specs.Bus.{Reported, write_of, phase_after, fits_of}
use Rattle.engine.specs.Limit.{admitted}
use Rattle.engine.specs.declared.budget.Budget.{Budget}
use Rattle.engine.specs.declared.bus.Outcome.{Outcome}
use Rattle.engine.specs.declared.bus.Phase.TheVariants as phase
use Rattle.engine.specs.declared.limit.Limit.{Limit}
use Rattle.engine.specs.declared.bus.Transfer.{Transfer}
use Rattle.engine.specs.declared.bus.Transfer.TheVariants as transfer
use Rattle.reading.specs.Pick.{case◌refused◌fault◌headed◌block◌}
use Rattle.reading.specs.Parts as parts
use Rattle.reading.specs.declared.parts.Head.{Head}
use Rattle.reading.specs.declared.parts.Head.TheVariants as head
use Rattle.reading.specs.declared.parts.Reads.{Reads}
use Rattle.reading.specs.declared.parts.Reads.TheVariants as reads
use Rattle.reading.specs.declared.call.ReadPlan.{ReadPlan}
use Rattle.reading.specs.declared.call.ReadCall.{ReadCall}
use Rattle.reading.specs.declared.call.Verdict.{Verdict}
use Rattle.reading.specs.declared.call.Verdict.TheVariants as verdict

-- by the settings' waits and, on the side of its reads, their retries and PEC: its head goes by the budget of its reads (02, W-211)
abbrev pub plan_of : Config → Limit → Head → Reads → ReadPlan
plan_of config limit head reads = record {
  retries = retries_on config (parts.reads_side reads);
  growing = config.growing_waits;
  limit = limit;
  head = head;
  head_pec = pec_on config (parts.reads_side reads);
  reads = reads;
}

-- one plain read, with no head
unfoldable pub plain_plan : Config → Limit → Ask → ReadPlan
plain_plan config limit ask = plan_of config limit head.Bare (reads.Once ask)

-- a MAC read: the command's frame, then one read
unfoldable pub mac_plan : Config → Limit → MacCommand → ℕ → ReadPlan
mac_plan config limit command wanted = plan_of config limit (head.Mac command) (reads.Once (mac_ask 0x44 wanted config.pec_read))

-- a call with a buffer of n bytes and a work buffer of w
unfoldable pub start_of : ReadPlan → ℕ → ℕ → ReadCall
start_of plan n w = record {
  task = record { plan = plan; lent = record { length = n; work = w } };
  phase = admitted plan.limit (parts.first_address plan.head) n w;
  heading = parts.has_head plan.head;
  received = 0;
  budget = record { left = plan.retries };
  tally = nothing;
}

-- what the read that is due asks for
unfoldable pub due_ask : ReadCall → Ask
due_ask call = parts.ask_of call.task.plan.reads call.task.lent.length call.received

unfoldable pub shown_head : ReadCall → ℕ → Transfer
shown_head call w = write_of (laid_of call.task.plan.head_pec (parts.head_bytes call.task.plan.head call.received) w)

unfoldable pub work_head : ReadCall → List ℕ → List ℕ
work_head call work = work_laid call.task.plan.head_pec (parts.head_bytes call.task.plan.head call.received) work

-- the head that is due, or a read: its command goes back as a number
unfoldable pub shown_of : ReadCall → ℕ → Transfer
shown_of call w =
    when call.heading then shown_head call w
    else transfer.Read (due_ask call).command (bytes_asked (due_ask call))

unfoldable pub work_shown : ReadCall → List ℕ → List ℕ
work_shown call work = when call.heading then work_head call work else work

-- what a call shows, given a buffer of n bytes and a work buffer of w
unfoldable pub next_of : ReadCall → ℕ → ℕ → Transfer
next_of call n w =
    case call.phase
    waiting (when fits_of call.task.lent n w then shown_of call w else transfer.Refused answer.WrongBuffer)
    ended transfer.Ended

-- what showing leaves in the work buffer
unfoldable pub work_after : ReadCall → ℕ → List ℕ → List ℕ
work_after call n work =
    case call.phase
    waiting (when fits_of call.task.lent n (length work) then work_shown call work else work)
    ended (λ a. work)

-- the head was heard: it is not repeated until something fails
unfoldable pub headed_of : ReadCall → ReadCall
headed_of call = record {
  task = call.task;
  phase = phase_after (parts.read_count call.task.plan.reads call.task.lent.length) call.received;
  heading = false;
  received = call.received;
  budget = call.budget;
  tally = call.tally;
}

-- a block was handed over: the next one, from the same budget
unfoldable pub advance_of : ReadCall → ReadCall
advance_of call = record {
  task = call.task;
  phase = phase_after (parts.read_count call.task.plan.reads call.task.lent.length) (more_of call.received);
  heading = false;
  received = more_of call.received;
  budget = call.budget;
  tally = call.tally;
}

-- after a failure, and a wait of so many milliseconds, the head is due again
unfoldable pub retry_of : ReadCall → Budget → ℕ → ReadCall
retry_of call left ms = record {
  task = call.task;
  phase = phase.Waiting;
  heading = parts.has_head call.task.plan.head;
  received = call.received;
  budget = left;
  tally = waited call.tally ms;
}

unfoldable pub end_of : ReadCall → Answer → ReadCall
end_of call why = record {
  task = call.task;
  phase = phase.Ended why;
  heading = call.heading;
  received = call.received;
  budget = call.budget;
  tally = call.tally;
}

unfoldable pub fail_of : ReadCall → Answer → ReadCall
fail_of call why =
    case failed call.task.plan.retries call.task.plan.growing call.budget
    retry retry_of call
    spent end_of call why

-- an acknowledged head brings no reply
unfoldable pub heard_head : ℕ → Verdict
heard_head r = when eqb r 0 then verdict.Head else verdict.Refused answer.WrongReply

-- an acknowledged read: 9, a failed attempt with 3, or a block
unfoldable pub verdict_of : Result (Unit {0}) Unheard → Verdict
verdict_of (Err unheard.WrongLength) = verdict.Refused answer.WrongReply
verdict_of (Err unheard.WrongPec) = verdict.Failed answer.Pec
verdict_of (Ok done) = verdict.Block

unfoldable pub heard_block : Ask → List ℕ → Verdict
heard_block ask reply = verdict_of (heard_of ask reply)

unfoldable pub acknowledged_of : ReadCall → List ℕ → Verdict
acknowledged_of call reply = when call.heading then heard_head (length reply) else heard_block (due_ask call) reply

-- the reply of a failure is not looked at
unfoldable pub weigh_of : ReadCall → Outcome → List ℕ → Verdict
weigh_of call o reply =
    case o
    acknowledged acknowledged_of call reply
    error (λ code. verdict.Failed (answer.I2c code))
    timeout verdict.Failed answer.Timeout

-- all the tests of a report with a buffer of n bytes and a work buffer of w: 10, 8, 9
unfoldable pub judge_of : ReadCall → Outcome → List ℕ → ℕ → ℕ → Verdict
judge_of call o reply n w =
    case call.phase
    waiting (when fits_of call.task.lent n w then weigh_of call o reply else verdict.Refused answer.WrongBuffer)
    ended (λ a. verdict.Refused answer.NothingOutstanding)

-- the data goes into the buffer after the blocks that are there
unfoldable pub stored_of : ReadCall → List ℕ → List ℕ → List ℕ
stored_of call reply buffer =
    stored_at (block_start call.received) (parts.most_of call.task.plan.reads call.task.lent.length) (data_of (due_ask call) reply) buffer

-- one transfer more is counted
unfoldable pub counted_of : ReadCall → ReadCall
counted_of call = record {
  task = call.task;
  phase = call.phase;
  heading = call.heading;
  received = call.received;
  budget = call.budget;
  tally = tallied call.tally;
}

-- refused, or taken and counted
unfoldable pub report_of : ReadCall → Outcome → List ℕ → ℕ → ℕ → Reported ReadCall
report_of call o reply n w =
    case judge_of call o reply n w
    refused (λ why. Err (why, call))
    fault (λ why. Ok (fail_of (counted_of call) why))
    headed Ok (headed_of (counted_of call))
    block Ok (advance_of (counted_of call))

-- only a block that is believed changes the buffer
unfoldable pub buffer_after : ReadCall → Outcome → List ℕ → List ℕ → ℕ → List ℕ
buffer_after call o reply buffer w =
    case judge_of call o reply (length buffer) w
    refused (λ why. buffer)
    fault (λ why. buffer)
    headed buffer
    block stored_of call reply buffer
