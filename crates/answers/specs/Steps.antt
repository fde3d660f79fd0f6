-- What a step does to what is lent, and what it costs. (01, The step machine; Frames and retries; 02, W-203)
-- Assumes nothing.
use Rattle.engine.specs.Bus.{Reported}
use Rattle.std.specs.Prelude.{ℕ, ◌+◌, ◌-◌, ◌*◌, ◌≡◌, Bool, true, false, List, ◌⊎◌, ◌↔◌, length, take, drop, Err, Ok}
use Rattle.protocol.specs.Common.{TwoByteBudgets}
use Rattle.protocol.specs.Pick.{when◌then◌else◌}
use Rattle.protocol.specs.Answer.{number_of}
use Rattle.protocol.specs.declared.common.Config.{Config}
use Rattle.protocol.specs.declared.error.Answer.TheVariants as answer
use Rattle.engine.specs.Budget.{wait_of, plus_of, more_of}
use Rattle.engine.specs.declared.budget.Budget.{Budget}
use Rattle.engine.specs.declared.budget.Tally.{Tally}
use Rattle.engine.specs.declared.bus.Lent.{Lent}
use Rattle.engine.specs.declared.bus.Outcome.{Outcome}
use Rattle.engine.specs.declared.bus.Outcome.TheVariants as outcome
use Rattle.engine.specs.declared.bus.Phase.{Phase}
use Rattle.engine.specs.declared.bus.Phase.TheVariants as phase
use Rattle.engine.specs.declared.bus.Transfer.{Transfer}
use Rattle.engine.specs.declared.bus.Transfer.TheVariants as transfer
use Rattle.writing.specs.Writing as writing
use Rattle.writing.specs.declared.call.WritePlan.{WritePlan}
use Rattle.writing.specs.declared.call.WriteCall.{WriteCall}
use Rattle.reading.specs.Reading as reading
use Rattle.reading.specs.declared.parts.Head.TheVariants as head
use Rattle.reading.specs.declared.call.ReadPlan.{ReadPlan}
use Rattle.reading.specs.declared.call.ReadCall.{ReadCall}
use Rattle.answers.specs.Rows.{Same, Failure, asked, Damaged, reads_made}
use Rattle.answers.specs.Runs.{WriteReport, feed_w, ReadReport, feed_r}
use Rattle.answers.specs.Within.{WritesBy, write_with_retries_lem, write_register_lem, write_buffer_lem, write_security_keys_lem, write_authentication_key_lem, write_charging_voltage_override_lem, send_access_key_lem, unseal_fg_lem, write_mfg_info_c_lem, write_mfg_info_lem, write_dataflash_lem, ReadsBy}

-- ---- what is shown: an ended call its answer at any lent length, a waiting one a transfer at the lengths of the start, or 8; a frame changes no more of the
-- work buffer than its own length in front (what lies there: `HandsOut`), and all else spares it. `Framed` says when a frame is shown, `Asks` what is asked for

abbrev pub Shown : (Framed : Type 0) (Asks : ℕ → ℕ → Type 0) → Phase → Lent → ℕ → ℕ → List ℕ → List ℕ → Transfer → Type 0
Shown Framed Asks p lent n w before after (transfer.Ended a) = (p ≡ phase.Ended a) × (after ≡ before)
Shown Framed Asks p lent n w before after (transfer.Refused a) = (p ≡ phase.Waiting) × (number_of a ≡ 8) × (after ≡ before)
Shown Framed Asks p lent n w before after (transfer.Write count) = (p ≡ phase.Waiting) × Same lent n w × Framed × (drop count after ≡ drop count before)
Shown Framed Asks p lent n w before after (transfer.Read command count) = (p ≡ phase.Waiting) × Same lent n w × Asks command count × (after ≡ before)

-- a writing call asks for nothing
abbrev pub AsksNothing : ℕ → ℕ → Type 0
AsksNothing command count = ⊥

-- a reading call whose head is not due asks by the command of its read, for as many bytes as it then takes (`Reads`)
abbrev pub AsksOf : ReadCall → ℕ → ℕ → Type 0
AsksOf call command count = (call.heading ≡ false) × (command ≡ (reading.due_ask call).command) × (count ≡ asked call)

-- asked again, with the work buffer as the first time left it, a call shows the same and leaves the same there
pub record Again : Type 0 where
  pub writing : (call : WriteCall) (payload work : List ℕ)
      → (writing.next_of call payload (length (writing.work_after call payload work)) ≡ writing.next_of call payload (length work))
      × (writing.work_after call payload (writing.work_after call payload work) ≡ writing.work_after call payload work)
  pub reading : (call : ReadCall) (n : ℕ) (work : List ℕ)
      → (reading.next_of call n (length (reading.work_after call n work)) ≡ reading.next_of call n (length work))
      × (reading.work_after call n (reading.work_after call n work) ≡ reading.work_after call n work)

-- ---- what is handed out to be sent, by the call's name

-- every frame is built in the work buffer, but that of a plain write with `pec_write` off, which the caller built
abbrev pub builds : (config : Config) (plan : WritePlan) → WritesBy config plan → Bool
builds config plan (write_with_retries_lem) = config.pec_write
builds config plan (write_register_lem address) = true
builds config plan (write_buffer_lem address) = true
builds config plan (write_security_keys_lem) = true
builds config plan (write_authentication_key_lem) = true
builds config plan (write_charging_voltage_override_lem) = true
builds config plan (send_access_key_lem lower upper) = true
builds config plan (unseal_fg_lem lower upper) = true
builds config plan (write_mfg_info_c_lem lower upper) = true
builds config plan (write_mfg_info_lem) = true
builds config plan (write_dataflash_lem start) = true

-- the part to send has the n bytes that were shown. Of a frame that is built it is the front of the work buffer, and nothing else has changed there;
-- otherwise it is the caller's own bytes, all of them, and the work buffer is as it was
abbrev pub Handed : Bool → List ℕ → List ℕ → List ℕ → ℕ → List ℕ → Type 0
Handed true payload before after n part = (length part ≡ n) × (part ≡ take n after) × (drop n after ≡ drop n before) × (length after ≡ length before)
Handed false payload before after n part = (length part ≡ n) × (part ≡ payload) × (after ≡ before)

-- of a call that stands at p and was started at these lengths
pub record Hands (built : Bool) (p : Phase) (lent : Lent) (payload before after : List ℕ) (part : List ℕ → ℕ → List ℕ) (shown : Transfer) : Type 0 where
  -- a waiting call shows 8 exactly where the lent lengths differ
  pub refuses : (shown ≡ transfer.Refused answer.WrongBuffer) ↔ ((p ≡ phase.Waiting) × (Same lent (length payload) (length before) → ⊥))
  -- whatever number is asked for, the front of the work buffer is handed out, or of the caller's bytes
  pub fronts : (work : List ℕ) (k : ℕ) → part work k ≡ when built then take k work else take k payload
  -- what it shows as a write is handed out
  pub hands : (n : ℕ) → shown ≡ transfer.Write n → Handed built payload before after n (part after n)

abbrev pub HandsW : Bool → Lent → WriteCall → List ℕ → List ℕ → Type 0
HandsW built lent call payload work =
    Hands built call.phase lent payload work (writing.work_after call payload work) (writing.part_of call payload) (writing.next_of call payload (length work))

-- a head is built; of the buffer only the length is looked at
abbrev pub HandsR : Lent → ReadCall → List ℕ → List ℕ → Type 0
HandsR lent call buffer work =
    Hands true call.phase lent buffer work (reading.work_after call (length buffer) work) (λ work n. take n work) (reading.next_of call (length buffer) (length work))

-- each call, started at any lengths and however it is fed, whatever is lent then
pub record HandsOut : Type 0 where
  pub writing : (config : Config) → TwoByteBudgets config → (plan : WritePlan) (name : WritesBy config plan) (n w : ℕ) (es : List WriteReport)
      → (payload work : List ℕ) → HandsW (builds config plan name) (record { length = n; work = w }) (feed_w (writing.start_of plan n w) es) payload work
  pub reading : (config : Config) → TwoByteBudgets config → (start : List ℕ) (plan : ReadPlan) → ReadsBy config (length start) plan
      → (w : ℕ) (es : List ReadReport) (buffer work : List ℕ)
      → HandsR (record { length = length start; work = w }) (feed_r (record { call = reading.start_of plan (length start) w; buffer = start }) es).call buffer work

-- ---- what a report costs

-- no wait is made
abbrev pub Unwaited : Tally → Tally → Type 0
Unwaited tally tally' = (tally'.waits ≡ tally.waits) × (tally'.waited_ms ≡ tally.waited_ms)

-- a failed attempt of a budget that began with r retries takes one of them and one wait, whose length goes by the failures of the same budget before it; with none left
-- it ends the call, with no wait
abbrev pub FailedOnce : (r : ℕ) (growing : Bool) → Budget → Tally → Phase → Budget → Tally → Type 0
FailedOnce r growing left tally p left' tally' =
    ((p ≡ phase.Waiting) × (left'.left + 1 ≡ left.left) × (tally'.waits ≡ more_of tally.waits)
    × (tally'.waited_ms ≡ plus_of tally.waited_ms (wait_of growing (r - left.left))))
    ⊎ ((p ≡ phase.Waiting → ⊥) × (left.left ≡ 0) × (left'.left ≡ 0) × Unwaited tally tally')

-- of a write, after a failed attempt the same frame is due
abbrev pub MissedW : WriteCall → WriteCall → Type 0
MissedW call next =
    FailedOnce call.task.plan.retries call.task.plan.growing call.budget call.tally next.phase next.budget next.tally × (next.sent ≡ call.sent)

-- an acknowledged frame is one more sent, and is followed by one with a budget of its own; no wait is made for it
abbrev pub PaidW : WriteCall → Outcome → WriteCall → Type 0
PaidW call outcome.Acknowledged next =
    (next.budget.left ≡ call.task.plan.retries) × Unwaited call.tally next.tally × (next.sent ≡ more_of call.sent)
PaidW call (outcome.BusError code) next = MissedW call next
PaidW call outcome.Timeout next = MissedW call next

-- a refused report costs nothing (`SortW`); one that is taken is one transfer more, and does not change what the call was started for
abbrev pub CostW : WriteCall → Outcome → Reported WriteCall → Type 0
CostW call o (Err (a, same)) = Unit {0}
CostW call o (Ok next) = (next.task ≡ call.task) × (next.tally.transfers ≡ more_of call.tally.transfers) × PaidW call o next

-- of a read, after a failed attempt the head is due again exactly where there is one, with as many blocks received
abbrev pub MissedR : ReadCall → ReadCall → Type 0
MissedR call next =
    FailedOnce call.task.plan.retries call.task.plan.growing call.budget call.tally next.phase next.budget next.tally
    × (next.phase ≡ phase.Waiting → (next.heading ≡ false) ↔ (call.task.plan.head ≡ head.Bare))
    × ((next.phase ≡ phase.Waiting → ⊥) → next.heading ≡ call.heading)
    × (next.received ≡ call.received)

-- an acknowledged head or a believed reply leaves the budget of the whole call as it was, with no wait, and no head is due; a reply is one block more
abbrev pub HeardR : ReadCall → ReadCall → Type 0
HeardR call next =
    (next.budget.left ≡ call.budget.left) × Unwaited call.tally next.tally × (next.heading ≡ false) × (next.received ≡ reads_made call)

-- a read whose PEC differs is a failed attempt
abbrev pub PaidR : ReadCall → Outcome → List ℕ → ReadCall → Type 0
PaidR call outcome.Acknowledged bytes next = (Damaged call bytes → MissedR call next) × ((Damaged call bytes → ⊥) → HeardR call next)
PaidR call (outcome.BusError code) bytes next = MissedR call next
PaidR call outcome.Timeout bytes next = MissedR call next

abbrev pub CostR : ReadCall → Outcome → List ℕ → Reported ReadCall → Type 0
CostR call o bytes (Err (a, same)) = Unit {0}
CostR call o bytes (Ok next) = (next.task ≡ call.task) × (next.tally.transfers ≡ more_of call.tally.transfers) × PaidR call o bytes next

-- ---- what a report leaves in a reading call's buffer: a head, a failure or a wrong PEC brings nothing, and the blocks in front stay

pub record Delivers (call : ReadCall) (o : Outcome) (bytes before after : List ℕ) : Type 0 where
  pub no_reply : call.heading ≡ true → after ≡ before
  pub failed_reply : Failure o → after ≡ before
  pub damaged_reply : Damaged call bytes → after ≡ before
  pub front : take (call.received * 32) after ≡ take (call.received * 32) before
  pub size : length after ≡ length before
