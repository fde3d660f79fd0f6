-- A call of the step machine and its host: the call shows a transfer, the host makes it and reports what the bus did, until the call ends or the outcomes run out.
-- Assumes nothing.
use Rattle.engine.specs.Bus.{Reported}
use Rattle.std.specs.Prelude.{ℕ, suc, ◌≡◌, List, [], ◌∷◌, ◌++◌, length, take, eqb, Err, Ok}
use Rattle.protocol.specs.Pick.{when◌then◌else◌}
use Rattle.protocol.specs.Answer.{number_of}
use Rattle.protocol.specs.declared.error.Answer.{Answer}
use Rattle.engine.specs.declared.bus.Transfer.{Transfer}
use Rattle.engine.specs.declared.bus.Transfer.TheVariants as transfer
use Rattle.calls.specs.Call.{next_of, work_after, part_of, report_of, buffer_after, tally_of}
use Rattle.calls.specs.declared.call.Call.{Call}
use Rattle.writing.specs.Writing as writing
use Rattle.writing.specs.declared.call.WritePlan.{WritePlan}
use Rattle.writing.specs.declared.call.WriteCall.{WriteCall}
use Rattle.reading.specs.Reading as reading
use Rattle.reading.specs.declared.call.ReadPlan.{ReadPlan}
use Rattle.reading.specs.declared.call.ReadCall.{ReadCall}
unfoldable pub use Rattle.original.specs.Bus.{told}
use Rattle.original.specs.Bus.{BusOutcome, Acknowledged, BusError, Timeout, delivered, Made, write, read, brings, Log, Came, Ok, Err, Waiting, Read, ◌leaving◌}

-- what a host lends at one step: a work buffer, and the bytes that lie in the reply beside a failure, which are not looked at
pub record Lending : Type 0 where
  pub work : List ℕ
  pub beside : List ℕ

-- every work buffer has w bytes
abbrev pub Lends : ℕ → (ℕ → Lending) → Type 0
Lends w lent = (i : ℕ) → length (lent i).work ≡ w

-- the reply that the host lends: the bytes of an acknowledged transfer, or whatever lies there beside a failure
unfoldable pub reply : Made → List ℕ → BusOutcome → List ℕ
reply t beside (Acknowledged bytes) = delivered (brings t) bytes
reply t beside (BusError code) = beside
reply t beside Timeout = beside

-- answer 0 is the Rust's Ok, any other an error
unfoldable pub answered : Answer → Log → List BusOutcome → Came
answered a log outcomes = when eqb (number_of a) 0 then Ok log outcomes else Err a log outcomes

-- what a call shows: a transfer, with the part to send where it is a write; or an answer
infixr 10 shows◌sending◌transfer◌answer◌
unfoldable pub shows◌sending◌transfer◌answer◌ : {A : Type 0} → Transfer → (ℕ → List ℕ) → (Made → A) → (Answer → A) → A
shows transfer.Write n sending part transfer f answer g = f (write (part n))
shows transfer.Read command n sending part transfer f answer g = f (read command n)
shows transfer.Refused a sending part transfer f answer g = g a
shows transfer.Ended a sending part transfer f answer g = g a

-- what a report comes to: the call goes on, or the report is refused
infixr 10 wrote◌taken◌refused◌
unfoldable pub wrote◌taken◌refused◌ : {A : Type 0} → Reported WriteCall → (WriteCall → A) → (Answer → A) → A
wrote Ok call taken f refused g = f call
wrote Err (a, call) taken f refused g = g a

-- a writing call, fed: `done` are its transfers so far, the next is step number `length done`, `shown` is that step's work buffer once it has shown it,
-- and its waits are those that it counts; nothing of a work buffer is kept for the next step
unfoldable pub fed_write : WriteCall → List ℕ → (ℕ → Lending) → List Made → List BusOutcome → Came
fed_write call payload lent done [] =
    let work : List ℕ = (lent (length done)).work in
    let shown : List ℕ = writing.work_after call payload work in
    let waits : ℕ = call.tally.waits in
    shows writing.next_of call payload (length work) sending writing.part_of call payload shown
    transfer (λ t. Waiting (record { transfers = done ++ (t ∷ []); waits = waits }))
    answer (λ a. answered a (record { transfers = done; waits = waits }) [])
fed_write call payload lent done (o ∷ outcomes) =
    let work : List ℕ = (lent (length done)).work in
    let came : Made → List ℕ = λ t. reply t (lent (length done)).beside o in
    let shown : List ℕ = writing.work_after call payload work in
    let waits : ℕ = call.tally.waits in
    shows writing.next_of call payload (length work) sending writing.part_of call payload shown
    transfer (λ t. wrote writing.report_of call (told o) (length (came t)) (length payload) (length shown)
    taken (λ next. fed_write next payload lent (done ++ (t ∷ [])) outcomes)
    refused (λ a. answered a (record { transfers = done ++ (t ∷ []); waits = waits }) outcomes))
    answer (λ a. answered a (record { transfers = done; waits = waits }) (o ∷ outcomes))

infixr 10 heard◌taken◌refused◌
unfoldable pub heard◌taken◌refused◌ : {A : Type 0} → Reported ReadCall → (ReadCall → A) → (Answer → A) → A
heard Ok call taken f refused g = f call
heard Err (a, call) taken f refused g = g a

-- a reading call, fed: its head goes out from the front of the work buffer
unfoldable pub fed_read : ReadCall → List ℕ → (ℕ → Lending) → List Made → List BusOutcome → Read
fed_read call buffer lent done [] =
    let work : List ℕ = (lent (length done)).work in
    let shown : List ℕ = reading.work_after call (length buffer) work in
    let waits : ℕ = call.tally.waits in
    shows reading.next_of call (length buffer) (length work) sending (λ n. take n shown)
    transfer (λ t. Waiting (record { transfers = done ++ (t ∷ []); waits = waits }) leaving buffer)
    answer (λ a. answered a (record { transfers = done; waits = waits }) [] leaving buffer)
fed_read call buffer lent done (o ∷ outcomes) =
    let work : List ℕ = (lent (length done)).work in
    let came : Made → List ℕ = λ t. reply t (lent (length done)).beside o in
    let shown : List ℕ = reading.work_after call (length buffer) work in
    let waits : ℕ = call.tally.waits in
    shows reading.next_of call (length buffer) (length work) sending (λ n. take n shown)
    transfer (λ t. heard reading.report_of call (told o) (came t) (length buffer) (length shown)
    taken (λ next. fed_read next (reading.buffer_after call (told o) (came t) buffer (length shown)) lent (done ++ (t ∷ [])) outcomes)
    refused (λ a. answered a (record { transfers = done ++ (t ∷ []); waits = waits }) outcomes leaving buffer))
    answer (λ a. answered a (record { transfers = done; waits = waits }) (o ∷ outcomes) leaving buffer)

-- a writing call from its start, with a work buffer of w bytes
abbrev pub writes : WritePlan → List ℕ → ℕ → (ℕ → Lending) → List BusOutcome → Came
writes plan payload w lent outcomes = fed_write (writing.start_of plan (length payload) w) payload lent [] outcomes

-- a reading call from its start
abbrev pub reads : ReadPlan → List ℕ → ℕ → (ℕ → Lending) → List BusOutcome → Read
reads plan buffer w lent outcomes = fed_read (reading.start_of plan (length buffer) w) buffer lent [] outcomes

infixr 10 came◌taken◌refused◌
unfoldable pub came◌taken◌refused◌ : {A : Type 0} → Reported Call → (Call → A) → (Answer → A) → A
came Ok call taken f refused g = f call
came Err (a, call) taken f refused g = g a

-- a call, fed, as its engine is: what a host has
unfoldable pub fed : Call → (payload buffer : List ℕ) → (ℕ → Lending) → List Made → List BusOutcome → Read
fed call payload buffer lent done [] =
    let work : List ℕ = (lent (length done)).work in
    let shown : List ℕ = work_after call payload (length buffer) work in
    let waits : ℕ = (tally_of call).waits in
    shows next_of call payload (length buffer) (length work) sending part_of call payload shown
    transfer (λ t. Waiting (record { transfers = done ++ (t ∷ []); waits = waits }) leaving buffer)
    answer (λ a. answered a (record { transfers = done; waits = waits }) [] leaving buffer)
fed call payload buffer lent done (o ∷ outcomes) =
    let work : List ℕ = (lent (length done)).work in
    let bytes : Made → List ℕ = λ t. reply t (lent (length done)).beside o in
    let shown : List ℕ = work_after call payload (length buffer) work in
    let waits : ℕ = (tally_of call).waits in
    shows next_of call payload (length buffer) (length work) sending part_of call payload shown
    transfer (λ t. came report_of call (told o) (bytes t) (length payload) (length buffer) (length shown)
    taken (λ next. fed next payload (buffer_after call (told o) (bytes t) buffer (length shown)) lent (done ++ (t ∷ [])) outcomes)
    refused (λ a. answered a (record { transfers = done ++ (t ∷ []); waits = waits }) outcomes leaving buffer))
    answer (λ a. answered a (record { transfers = done; waits = waits }) (o ∷ outcomes) leaving buffer)

-- the call after the steps of `fed`, which this follows line by line: the same host and the same outcomes, and the call itself in place of what it comes to; i is the
-- number of the next step
unfoldable pub fed_call : Call → (payload buffer : List ℕ) → (ℕ → Lending) → ℕ → List BusOutcome → Call
fed_call call payload buffer lent i [] = call
fed_call call payload buffer lent i (o ∷ outcomes) =
    let work : List ℕ = (lent i).work in
    let bytes : Made → List ℕ = λ t. reply t (lent i).beside o in
    let shown : List ℕ = work_after call payload (length buffer) work in
    shows next_of call payload (length buffer) (length work) sending part_of call payload shown
    transfer (λ t. came report_of call (told o) (bytes t) (length payload) (length buffer) (length shown)
    taken (λ next. fed_call next payload (buffer_after call (told o) (bytes t) buffer (length shown)) lent (suc i) outcomes)
    refused (λ a. call))
    answer (λ a. call)
