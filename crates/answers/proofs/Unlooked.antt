-- With a bus error or a timeout a lent reply is not looked at: no test of a report asks for it, and no block is handed over.
-- Assumes nothing.
use Prim.Native.Nat.{ℕ}
use mathlib.Core.Path.{◌≡◌, refl, sym, ◌∙◌}
use mathlib.Core.List.{List}
use lib.ListN.{length}
use Rattle.engine.specs.Pick.{case◌acknowledged◌error◌timeout◌}
use Rattle.engine.specs.declared.bus.Outcome.{Outcome}
use Rattle.engine.specs.declared.bus.Outcome.TheVariants as outcome
use Rattle.writing.specs.Writing as writing
use Rattle.writing.specs.declared.call.WriteCall.{WriteCall}
use Rattle.reading.specs.Reading as reading
use Rattle.reading.specs.declared.call.ReadCall.{ReadCall}
use Rattle.answers.specs.Rows.{Failure}
use Rattle.answers.proofs.Costs.{delivers}

pub unlooked_w : (call : WriteCall) (o : Outcome) → Failure o → (r r' n w : ℕ) → writing.report_of call o r n w ≡ writing.report_of call o r' n w
unfolding writing.report_of writing.replied_of case◌acknowledged◌error◌timeout◌
unlooked_w call outcome.Acknowledged bad r r' n w = absurd bad
unlooked_w call (outcome.BusError code) bad r r' n w = refl
unlooked_w call outcome.Timeout bad r r' n w = refl

same_report : (call : ReadCall) (o : Outcome) → Failure o → (bytes bytes' : List ℕ) (n w : ℕ) → reading.report_of call o bytes n w ≡ reading.report_of call o bytes' n w
unfolding reading.report_of reading.judge_of reading.weigh_of case◌acknowledged◌error◌timeout◌
same_report call outcome.Acknowledged bad bytes bytes' n w = absurd bad
same_report call (outcome.BusError code) bad bytes bytes' n w = refl
same_report call outcome.Timeout bad bytes bytes' n w = refl

pub unlooked_r : (call : ReadCall) (o : Outcome) → Failure o → (bytes bytes' buffer : List ℕ) (w : ℕ)
    → (reading.report_of call o bytes (length buffer) w ≡ reading.report_of call o bytes' (length buffer) w)
    × (reading.buffer_after call o bytes buffer w ≡ reading.buffer_after call o bytes' buffer w)
unlooked_r call o bad bytes bytes' buffer w = (
  same_report call o bad bytes bytes' (length buffer) w,
  (delivers call buffer o bytes w).failed_reply bad ∙ sym ((delivers call buffer o bytes' w).failed_reply bad),
)
