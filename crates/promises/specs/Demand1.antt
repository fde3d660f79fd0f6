-- Demand 1: every request, setting and bus outcome gets an answer; each is given exactly when its row of document 01's table says so; a refusal changes nothing.
-- The rows are those of `answers` (Starts, Writes, Reads), by the paper's number and detail. That each step has an answer at all is that the calls are functions
-- with no `requires`; that each call has one in the end, fed by any host that lends the lengths of the start, is `ceilings` and `ends` below.
-- Assumes nothing.
use Rattle.std.specs.Prelude.{ℕ, ◌≤◌, ◌≡◌, true, List, ◌↔◌, length}
use Rattle.protocol.specs.Common.{TwoByteBudgets}
use Rattle.protocol.specs.declared.common.Config.{Config}
use Rattle.engine.specs.Limit.{admitted}
use Rattle.engine.specs.declared.bus.Outcome.{Outcome}
use Rattle.engine.specs.declared.limit.Limit.{Limit}
use Rattle.writing.specs.Writing as writing
use Rattle.writing.specs.declared.call.WriteCall.{WriteCall}
use Rattle.reading.specs.Reading as reading
use Rattle.reading.specs.declared.call.ReadCall.{ReadCall}
use Rattle.calls.specs.declared.call.Call.{Call}
use Rattle.original.specs.Bus.{BusOutcome}
use Rattle.original.specs.Fed.{Lending, Lends}
use Rattle.original.specs.Fronts.{Fronts}
use Rattle.answers.specs.Rows.{Numbers, Says, Starts, Failure, said_w, said_r, Writes, Reads, SortW, SortR}
use Rattle.answers.specs.Steps.{Shown, AsksNothing, AsksOf, Again, HandsOut, CostW, CostR, Delivers}
use Rattle.answers.specs.Calls.{Admitted, Limits}
use Rattle.answers.specs.Runs.{Stays}
use Rattle.answers.specs.Unique.{Unique}
use Rattle.answers.specs.Within.{Within}
use Rattle.ceilings.specs.Ceilings.{Ceilings}
use Rattle.waits.specs.Waits.{Waits}
use Rattle.promises.specs.CourseRows.{CourseRows}
use Rattle.promises.specs.RunLaws.{RunLaws}
use Rattle.promises.specs.Traffic.{Ends, AsReported, CourseTraffic}

pub record Demand1 : Type 1 where
  -- the answers' numbers and details
  pub numbers : Numbers
  -- at the start, for every limit and first address; and which limit each call has
  pub starts : (l : Limit) (start n w k d : ℕ) → Says k d (admitted l start n w) ↔ Starts start n w l k d
  pub starts_so : Admitted
  pub limits : (config : Config) → Limits config
  -- at a report, for every state, outcome, reply and lent length
  pub writes : (call : WriteCall) (o : Outcome) (r n w k d : ℕ) → Says k d (said_w (writing.report_of call o r n w)) ↔ Writes call o r n w k d
  pub reads : (call : ReadCall) (o : Outcome) (bytes : List ℕ) (n w k d : ℕ) → Says k d (said_r (reading.report_of call o bytes n w)) ↔ Reads call o bytes n w k d
  -- with a bus error or a timeout a lent reply is not looked at
  pub unlooked_w : (call : WriteCall) (o : Outcome) → Failure o → (r r' n w : ℕ) → writing.report_of call o r n w ≡ writing.report_of call o r' n w
  pub unlooked_r : (call : ReadCall) (o : Outcome) → Failure o → (bytes bytes' buffer : List ℕ) (w : ℕ)
      → (reading.report_of call o bytes (length buffer) w ≡ reading.report_of call o bytes' (length buffer) w)
      × (reading.buffer_after call o bytes buffer w ≡ reading.buffer_after call o bytes' buffer w)
  -- a refusal of a report hands back call and buffer as they were; an ending other than 0 leaves the buffer as it was before that report
  pub refused_w : (call : WriteCall) (o : Outcome) (r n w : ℕ) → SortW call (writing.report_of call o r n w)
  pub refused_r : (call : ReadCall) (o : Outcome) (bytes buffer : List ℕ) (w : ℕ)
      → SortR call buffer (reading.buffer_after call o bytes buffer w) (reading.report_of call o bytes (length buffer) w)
  -- what a report costs: a transfer, retries and waits with their lengths, and what is due after it
  pub costs_w : (call : WriteCall) (o : Outcome) (r n w : ℕ) → CostW call o (writing.report_of call o r n w)
  pub costs_r : (call : ReadCall) (o : Outcome) (bytes : List ℕ) (n w : ℕ) → CostR call o bytes (reading.report_of call o bytes n w)
  -- what a report leaves in the caller's buffer
  pub delivers : (call : ReadCall) (buffer : List ℕ) (o : Outcome) (bytes : List ℕ) (w : ℕ) → Delivers call o bytes buffer (reading.buffer_after call o bytes buffer w)
  -- wherever a reading call stops, ended well, failed or cut, the front of the buffer is the data of the replies that were believed, and the rest is as it was
  pub fronts : (config : Config) → TwoByteBudgets config → (w : ℕ) → 39 ≤ w → (lent : ℕ → Lending) → Lends w lent → (outcomes : List BusOutcome)
      → Fronts config w lent outcomes
  -- what is shown, and when the work buffer is spared: a writing call shows frames alone, a reading call its head where that is due, else what it asks for
  pub shown_w : (call : WriteCall) (payload work : List ℕ)
      → Shown (Unit {0}) AsksNothing call.phase call.task.lent (length payload) (length work) work (writing.work_after call payload work) (writing.next_of call payload (length work))
  pub shown_r : (call : ReadCall) (n : ℕ) (work : List ℕ)
      → Shown (call.heading ≡ true) (AsksOf call) call.phase call.task.lent n (length work) work (reading.work_after call n work) (reading.next_of call n (length work))
  -- the same if asked again
  pub shown_again : Again
  -- an answer stands: no report changes a call that has ended or was refused, nor the buffer
  pub stays : Stays
  -- each call by name, however it is fed: what it hands out to be sent, and when it shows 8
  pub hands_out : HandsOut
  -- each call by name, however it is fed: it has a next transfer until it ends, no counter saturates (of the transfers: `ceilings`; of the milliseconds: `waits`),
  -- and an ending other than 0 leaves the buffer past whole blocks as it was
  pub within : Within
  -- EVERY CALL ENDS: each call by name, for any list of reports, accepts and counts at most so many outcomes, and then no longer waits
  pub ceilings : Ceilings
  -- and so does each call of a host that makes the transfers which are shown and reports what the bus did
  pub ends : Ends
  -- rows 8 and 11 of a run over a course, by a call that waits
  pub courses : CourseRows
  -- what a run over a course does for any call that waits, byte by byte
  pub runs : RunLaws
  -- a run over a course makes at most so many transfers, and uses up a byte for each
  pub traffic : CourseTraffic
  -- HOW LONG A CALL WAITS: the milliseconds that its tally carries, by the settings and the outcomes, and what a report adds to them
  pub waits : Waits
  -- a host's call is one that is reported to, with the outcomes of the bus from the first on
  pub hosts : (call : Call) (payload buffer : List ℕ) (lent : ℕ → Lending) (outcomes : List BusOutcome) → AsReported call payload buffer lent outcomes
  -- each contract has one answer
  pub unique : Unique
