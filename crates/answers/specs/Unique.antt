-- Each contract of a call has one answer: start, next transfer, the part to send and report of both engines. (01, How far each statement must reach)
-- A contract is written here as it stands under `ensures` in call.rt of `writing` and `reading`, of the lent bytes and what they are after the call.
-- Assumes nothing.
use Rattle.engine.specs.Bus.{Reported}
use Rattle.std.specs.Prelude.{ℕ, ◌≡◌, List, length, take}
use Rattle.engine.specs.declared.bus.Outcome.{Outcome}
use Rattle.engine.specs.declared.bus.Transfer.{Transfer}
use Rattle.writing.specs.Writing as writing
use Rattle.writing.specs.declared.call.WritePlan.{WritePlan}
use Rattle.writing.specs.declared.call.WriteCall.{WriteCall}
use Rattle.reading.specs.Reading as reading
use Rattle.reading.specs.declared.call.ReadPlan.{ReadPlan}
use Rattle.reading.specs.declared.call.ReadCall.{ReadCall}

-- ---- the contracts of a writing call

abbrev pub StartsW : WritePlan → List ℕ → List ℕ → WriteCall → Type 0
StartsW plan payload work result = result ≡ writing.start_of plan (length payload) (length work)

abbrev pub ShowsW : WriteCall → List ℕ → List ℕ → Transfer × List ℕ → Type 0
ShowsW call payload work (result, after) = (result ≡ writing.next_of call payload (length work)) × (after ≡ writing.work_after call payload work)

abbrev pub SendsW : WriteCall → List ℕ → List ℕ → ℕ → List ℕ → Type 0
SendsW call payload work n result = result ≡ writing.part_of call payload work n

abbrev pub ReportsW : WriteCall → Outcome → List ℕ → List ℕ → List ℕ → Reported WriteCall → Type 0
ReportsW call outcome reply payload work result = result ≡ writing.report_of call outcome (length reply) (length payload) (length work)

-- ---- the contracts of a reading call

abbrev pub StartsR : ReadPlan → List ℕ → List ℕ → ReadCall → Type 0
StartsR plan buffer work result = result ≡ reading.start_of plan (length buffer) (length work)

abbrev pub ShowsR : ReadCall → List ℕ → List ℕ → Transfer × List ℕ → Type 0
ShowsR call buffer work (result, after) = (result ≡ reading.next_of call (length buffer) (length work)) × (after ≡ reading.work_after call (length buffer) work)

abbrev pub SendsR : ReadCall → List ℕ → ℕ → List ℕ → Type 0
SendsR call work n result = result ≡ take n work

abbrev pub ReportsR : ReadCall → Outcome → List ℕ → List ℕ → List ℕ → Reported ReadCall × List ℕ → Type 0
ReportsR call outcome reply buffer work (result, after) =
    (result ≡ reading.report_of call outcome reply (length buffer) (length work))
    × (after ≡ reading.buffer_after call outcome reply buffer (length work))

-- ---- one answer

-- something meets a contract, and any two that meet it are the same
pub record One {A : Type 0} (Meets : A → Type 0) : Type 0 where
  pub some : (result : A) × Meets result
  pub same : (result other : A) → Meets result → Meets other → result ≡ other

pub record Unique : Type 1 where
  -- an equation for the result, or for the result and what is lent: the form of every contract of a call
  pub equation : {A : Type 0} (answer : A) → One (λ (result : A). result ≡ answer)
  pub equations : {A B : Type 0} (answer : A) (after : B) → One (λ (result : A × B). (result.0 ≡ answer) × (result.1 ≡ after))
  -- a writing call: the call; the transfer and the work buffer; the bytes; what came of a report
  pub starts_w : (plan : WritePlan) (payload work : List ℕ) → One (StartsW plan payload work)
  pub shows_w : (call : WriteCall) (payload work : List ℕ) → One (ShowsW call payload work)
  pub sends_w : (call : WriteCall) (payload work : List ℕ) (n : ℕ) → One (SendsW call payload work n)
  pub reports_w : (call : WriteCall) (outcome : Outcome) (reply payload work : List ℕ) → One (ReportsW call outcome reply payload work)
  -- a reading call: the same, and beside what came of a report the caller's buffer
  pub starts_r : (plan : ReadPlan) (buffer work : List ℕ) → One (StartsR plan buffer work)
  pub shows_r : (call : ReadCall) (buffer work : List ℕ) → One (ShowsR call buffer work)
  pub sends_r : (call : ReadCall) (work : List ℕ) (n : ℕ) → One (SendsR call work n)
  pub reports_r : (call : ReadCall) (outcome : Outcome) (reply buffer work : List ℕ) → One (ReportsR call outcome reply buffer work)
