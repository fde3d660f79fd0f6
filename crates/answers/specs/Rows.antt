-- The table of answers: for each row, when it is given. (01, The step machine) Of 15, which no call gives, only the number stands here: when it is given is
-- said of the bench program (`bench_promises`, Retired).
-- The rows go by the paper's number and detail. `Starts`, `Writes` and `Reads` have a constructor for each case of a row that can come there: no other answer comes.
-- Assumes nothing.
use Rattle.engine.specs.Bus.{Reported}
use Rattle.std.specs.Prelude.{ℕ, ◌+◌, ◌-◌, ◌*◌, ◌≤◌, ◌<◌, ◌≡◌, true, false, List, [], ◌∷◌, ◌⊎◌, length, Err, Ok}
use Rattle.protocol.specs.Pick.{when◌then◌else◌}
use Rattle.protocol.specs.Answer.{number_of, detail_of}
use Rattle.protocol.specs.Reply as reply
use Rattle.protocol.specs.declared.error.Answer.{Answer}
use Rattle.protocol.specs.declared.error.Answer.TheVariants as answer
use Rattle.engine.specs.Budget.{more_of}
use Rattle.engine.specs.declared.bus.Lent.{Lent}
use Rattle.engine.specs.declared.bus.Outcome.{Outcome}
use Rattle.engine.specs.declared.bus.Outcome.TheVariants as outcome
use Rattle.engine.specs.declared.bus.Phase.{Phase}
use Rattle.engine.specs.declared.bus.Phase.TheVariants as phase
use Rattle.engine.specs.declared.limit.Limit.{Limit}
use Rattle.engine.specs.declared.limit.Limit.TheVariants as limit
use Rattle.writing.specs.Frames as frames
use Rattle.writing.specs.declared.frames.Frames.TheVariants as sent
use Rattle.writing.specs.declared.call.WriteCall.{WriteCall}
use Rattle.reading.specs.Parts as parts
use Rattle.reading.specs.Reading.{due_ask}
use Rattle.reading.specs.declared.call.ReadCall.{ReadCall}

-- ---- the number of each answer, and its detail

-- k is one of these
abbrev pub OneOf : List ℕ → ℕ → Type 0
OneOf [] k = ⊥
OneOf (j ∷ js) k = (k ≡ j) ⊎ OneOf js k

-- what `number_of` and `detail_of`, the table itself, come to
pub record Numbers : Type 0 where
  -- a number and a detail are those of one answer
  pub told_apart : (a b : Answer) → number_of a ≡ number_of b → detail_of a ≡ detail_of b → a ≡ b
  -- 1 has a code and 6 the bytes committed; no other answer has a detail
  pub detailed : (a : Answer) → (detail_of a ≡ 0) ⊎ OneOf (1 ∷ 6 ∷ []) (number_of a)
  -- the rows are 0 to 11, and 15
  pub rows : (a : Answer) → (number_of a ≤ 11) ⊎ (number_of a ≡ 15)
  -- a bus error with its code, the bytes committed, a timeout
  pub code : (n : ℕ) → (number_of (answer.I2c n) ≡ 1) × (detail_of (answer.I2c n) ≡ n)
  pub committed : (n : ℕ) → (number_of (answer.PartialDataFlashWrite n) ≡ 6) × (detail_of (answer.PartialDataFlashWrite n) ≡ n)
  pub none : (number_of answer.Timeout ≡ 2) × (detail_of answer.Timeout ≡ 0)
  -- the names of the rows that no other statement names
  pub wrong_reply : number_of answer.WrongReply ≡ 9
  pub nothing_outstanding : number_of answer.NothingOutstanding ≡ 10
  pub retired_kind : number_of answer.RetiredKind ≡ 15

-- a phase says the answer of number k with detail d; one that waits says none
abbrev pub Says : ℕ → ℕ → Phase → Type 0
Says k d phase.Waiting = ⊥
Says k d (phase.Ended a) = (number_of a ≡ k) × (detail_of a ≡ d)

-- the answer that a phase says, if it says one, has one of these numbers
abbrev pub Among : List ℕ → Phase → Type 0
Among ks phase.Waiting = Unit {0}
Among ks (phase.Ended a) = OneOf ks (number_of a)

-- ---- at the start: the first address of data flash, n lent bytes, a work buffer of w; the call's limit, the answer's number and detail

pub data Starts (start n w : ℕ) : Limit → ℕ → ℕ → Type 0 where
  -- 0: an empty data-flash transfer is done at once
  nothing_to_do : 39 ≤ w → n ≡ 0 → Starts start n w limit.Window 0 0
  -- 4: a length is over its limit
  too_large : (most : ℕ) → 39 ≤ w → most < n → Starts start n w (limit.AtMost most) 4 0
  large_input : (input : ℕ) → 39 ≤ w → 32 < input → Starts start n w (limit.Command input) 4 0
  large_output : (input : ℕ) → 39 ≤ w → 32 < n → Starts start n w (limit.Command input) 4 0
  -- 5: the window rule fails
  below : 39 ≤ w → 0 < n → start < 0x4000 → Starts start n w limit.Window 5 0
  beyond : 39 ≤ w → 0 < n → 0x5FFF < start + (n - 1) → Starts start n w limit.Window 5 0
  -- 7: command input is not empty
  input_given : (input : ℕ) → 39 ≤ w → 0 < input → input ≤ 32 → n ≤ 32 → Starts start n w (limit.Command input) 7 0
  -- 8: a key's length is wrong, or the work buffer is under 39 bytes
  wrong_size : (size : ℕ) → 39 ≤ w → (n ≡ size → ⊥) → Starts start n w (limit.Exactly size) 8 0
  short_work : (l : Limit) → w < 39 → Starts start n w l 8 0

-- ---- at a report: where the call stands, and what is lent

-- the same lengths as at the start
abbrev pub Same : Lent → ℕ → ℕ → Type 0
Same lent n w = (n ≡ lent.length) × (w ≡ lent.work)

-- an attempt failed
abbrev pub Failure : Outcome → Type 0
Failure outcome.Acknowledged = ⊥
Failure (outcome.BusError code) = Unit {0}
Failure outcome.Timeout = Unit {0}

-- the answer that a report leaves the caller with: a refusal's, or that of a call that has ended with it
abbrev pub said_w : Reported WriteCall → Phase
said_w (Err (a, call)) = phase.Ended a
said_w (Ok call) = call.phase

abbrev pub said_r : Reported ReadCall → Phase
said_r (Err (a, call)) = phase.Ended a
said_r (Ok call) = call.phase

-- a waiting call with the right buffers
abbrev pub OpenW : WriteCall → ℕ → ℕ → Type 0
OpenW call n w = (call.phase ≡ phase.Waiting) × Same call.task.lent n w

abbrev pub OpenR : ReadCall → ℕ → ℕ → Type 0
OpenR call n w = (call.phase ≡ phase.Waiting) × Same call.task.lent n w

-- its frames write data flash, and blocks were acknowledged before
abbrev pub Partial : WriteCall → Type 0
Partial call = ((start : ℕ) × (call.task.plan.frames ≡ sent.DataFlash start)) × (0 < call.sent)

-- ---- a writing call: an outcome with a reply of r bytes, a payload of n, a work buffer of w; the answer's number and detail

pub data Writes (call : WriteCall) (o : Outcome) (r n w : ℕ) : ℕ → ℕ → Type 0 where
  -- 0: its last frame is acknowledged
  done : OpenW call n w → o ≡ outcome.Acknowledged → r ≡ 0
      → frames.frame_count call.task.plan.frames call.task.lent.length ≤ more_of call.sent → Writes call o r n w 0 0
  -- 1, 2: the last allowed attempt failed, with no block of data flash before it
  bus_error : (code : ℕ) → OpenW call n w → o ≡ outcome.BusError code → call.budget.left ≡ 0 → (Partial call → ⊥) → Writes call o r n w 1 code
  timed_out : OpenW call n w → o ≡ outcome.Timeout → call.budget.left ≡ 0 → (Partial call → ⊥) → Writes call o r n w 2 0
  -- 6: it failed after at least one block
  partly : OpenW call n w → Failure o → call.budget.left ≡ 0 → Partial call → Writes call o r n w 6 (call.sent * 32)
  -- 8: a lent length differs from the start's
  wrong_buffer : call.phase ≡ phase.Waiting → (Same call.task.lent n w → ⊥) → Writes call o r n w 8 0
  -- 9: a reply to a write
  wrong_reply : OpenW call n w → o ≡ outcome.Acknowledged → (r ≡ 0 → ⊥) → Writes call o r n w 9 0
  -- 10: the call has ended, or was refused
  nothing_outstanding : (call.phase ≡ phase.Waiting → ⊥) → Writes call o r n w 10 0

-- ---- a reading call: an outcome with a reply, a buffer of n bytes, a work buffer of w; the answer's number and detail

-- the number of bytes asked: none by a head
unfoldable pub asked : ReadCall → ℕ
asked call = when call.heading then 0 else reply.bytes_asked (due_ask call)

-- a read's PEC differs
abbrev pub Damaged : ReadCall → List ℕ → Type 0
Damaged call bytes = (call.heading ≡ false) × ((due_ask call).pec ≡ true) × (reply.checked_of (due_ask call).covered bytes ≡ false)

-- the reads that are done with this one; a head is none
unfoldable pub reads_made : ReadCall → ℕ
reads_made call = when call.heading then call.received else more_of call.received

pub data Reads (call : ReadCall) (o : Outcome) (bytes : List ℕ) (n w : ℕ) : ℕ → ℕ → Type 0 where
  -- 0: all reads are made, or its head where it has none
  done : OpenR call n w → o ≡ outcome.Acknowledged → length bytes ≡ asked call → (Damaged call bytes → ⊥)
      → parts.read_count call.task.plan.reads call.task.lent.length ≤ reads_made call → Reads call o bytes n w 0 0
  -- 1, 2, 3: the last allowed attempt failed
  bus_error : (code : ℕ) → OpenR call n w → o ≡ outcome.BusError code → call.budget.left ≡ 0 → Reads call o bytes n w 1 code
  timed_out : OpenR call n w → o ≡ outcome.Timeout → call.budget.left ≡ 0 → Reads call o bytes n w 2 0
  wrong_pec : OpenR call n w → o ≡ outcome.Acknowledged → length bytes ≡ asked call → Damaged call bytes → call.budget.left ≡ 0 → Reads call o bytes n w 3 0
  -- 8: a lent length differs from the start's
  wrong_buffer : call.phase ≡ phase.Waiting → (Same call.task.lent n w → ⊥) → Reads call o bytes n w 8 0
  -- 9: the reply's length differs from the number asked
  wrong_reply : OpenR call n w → o ≡ outcome.Acknowledged → (length bytes ≡ asked call → ⊥) → Reads call o bytes n w 9 0
  -- 10: the call has ended, or was refused
  nothing_outstanding : (call.phase ≡ phase.Waiting → ⊥) → Reads call o bytes n w 10 0

-- ---- a refusal of a step is 8, 9 or 10 and hands the call back as it was; after a report that was taken a call waits, or ends with 0, 1, 2 or 6 if it
-- writes, with 0, 1, 2 or 3 if it reads

abbrev pub SortW : WriteCall → Reported WriteCall → Type 0
SortW call (Err (a, same)) = OneOf (8 ∷ 9 ∷ 10 ∷ []) (number_of a) × (same ≡ call)
SortW call (Ok next) = (call.phase ≡ phase.Waiting) × Among (0 ∷ 1 ∷ 2 ∷ 6 ∷ []) next.phase

-- of a read, the buffer after a refusal, and after every ending but 0, is the buffer before
abbrev pub Kept : Phase → List ℕ → List ℕ → Type 0
Kept p before after = (p ≡ phase.Waiting → ⊥) → (Says 0 0 p → ⊥) → after ≡ before

abbrev pub SortR : ReadCall → List ℕ → List ℕ → Reported ReadCall → Type 0
SortR call before after (Err (a, same)) = OneOf (8 ∷ 9 ∷ 10 ∷ []) (number_of a) × (same ≡ call) × (after ≡ before)
SortR call before after (Ok next) = (call.phase ≡ phase.Waiting) × Among (0 ∷ 1 ∷ 2 ∷ 3 ∷ []) next.phase × Kept next.phase before after
