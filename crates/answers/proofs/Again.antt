-- A call shows the same if it is asked again: it looks at the length of the work buffer alone, and what it lays there twice lies there once.
-- Assumes nothing.
use Prim.Native.Nat.{ℕ, ◌≤◌}
use mathlib.Core.Path.{◌≡◌, refl, sym, ap, ◌∙◌}
use mathlib.Core.Bool.{Bool, true, false}
use mathlib.Core.List.{List}
use native.Mathlib.Omega.{arith}
use lib.ListN.{length}
use lib.Dec.{ltb}
use borrow.Author.Tests.{ltb-true}
use Rattle.protocol.specs.Pick.{when◌then◌else◌}
use Rattle.protocol.specs.Bytes.{over}
use Rattle.protocol.specs.Frame.{sealed, work_laid}
use Rattle.protocol.proofs.Laws.{length_over, take_over, over_same, length_sealed, length_laid}
use Rattle.engine.specs.Pick.{case◌waiting◌ended◌}
use Rattle.engine.specs.Bus.{fits_of}
use Rattle.engine.specs.declared.bus.Phase.{Phase}
use Rattle.engine.specs.declared.bus.Phase.TheVariants as phase
use Rattle.writing.specs.Writing as writing
use Rattle.writing.specs.declared.call.WriteCall.{WriteCall}
use Rattle.writing.proofs.Shown.{write_work}
use Rattle.reading.specs.Parts as parts
use Rattle.reading.specs.Reading as reading
use Rattle.reading.specs.declared.call.ReadCall.{ReadCall}
use Rattle.reading.proofs.Shown.{read_work}
use Rattle.answers.specs.Steps.{Again}

laid_twice : (pec : Bool) (f work : List ℕ) → work_laid pec f (work_laid pec f work) ≡ work_laid pec f work
unfolding work_laid when◌then◌else◌
laid_twice pec f work = by (ltb (length f) (length work)) refl
  where
    by : (t : Bool) → ltb (length f) (length work) ≡ t → work_laid pec f (work_laid pec f work) ≡ work_laid pec f work
    by false t = rw (t, t)
    by true t =
        let s : List ℕ = sealed pec f in
        let room : length s ≤ length work = omega (arith, ltb-true (length f) (length work) t, length_sealed pec f) in
        let long : length (over s work) ≡ length work = length_over s work room in
        rw (t, long, t) (ap (λ (x : List ℕ). over x (over s work)) (sym (take_over s work)) ∙ over_same (length s) (over s work) (omega (arith, long, room)))

-- what showing leaves, by where the call stands
wrote_as : (call : WriteCall) (payload work : List ℕ) (p : Phase) → call.phase ≡ p → (t : Bool) → fits_of call.task.lent (length payload) (length work) ≡ t
    → (o : Bool) → writing.own_bytes call ≡ o
    → writing.work_after call payload work ≡ case◌waiting◌ended◌ p (when t then (when o then work else writing.work_shown call payload work) else work) (λ a. work)
unfolding writing.work_after
wrote_as call payload work p e t f o q = rw (q, f, e)

wrote_twice : (call : WriteCall) (payload work : List ℕ) → writing.work_after call payload (writing.work_after call payload work) ≡ writing.work_after call payload work
unfolding writing.work_shown case◌waiting◌ended◌ when◌then◌else◌
wrote_twice call payload work = by call.phase refl (fits_of call.task.lent (length payload) (length work)) refl (writing.own_bytes call) refl
  where
    laid : List ℕ
    laid = work_laid call.task.plan.pec (writing.due_bytes call payload) work

    by : (p : Phase) → call.phase ≡ p → (t : Bool) → fits_of call.task.lent (length payload) (length work) ≡ t → (o : Bool) → writing.own_bytes call ≡ o
        → writing.work_after call payload (writing.work_after call payload work) ≡ writing.work_after call payload work
    by (phase.Ended a) e t f o q = ap (writing.work_after call payload) (wrote_as call payload work (phase.Ended a) e t f o q)
    by phase.Waiting e false f o q = ap (writing.work_after call payload) (wrote_as call payload work phase.Waiting e false f o q)
    by phase.Waiting e true f true q = ap (writing.work_after call payload) (wrote_as call payload work phase.Waiting e true f true q)
    by phase.Waiting e true f false q =
        let once : writing.work_after call payload work ≡ laid = wrote_as call payload work phase.Waiting e true f false q in
        let fits : fits_of call.task.lent (length payload) (length laid) ≡ true = ap (fits_of call.task.lent (length payload)) (length_laid call.task.plan.pec (writing.due_bytes call payload) work) ∙ f in
        ap (writing.work_after call payload) once ∙ wrote_as call payload laid phase.Waiting e true fits false q
        ∙ laid_twice call.task.plan.pec (writing.due_bytes call payload) work ∙ sym once

read_as : (call : ReadCall) (n : ℕ) (work : List ℕ) (p : Phase) → call.phase ≡ p → (t : Bool) → fits_of call.task.lent n (length work) ≡ t
    → (h : Bool) → call.heading ≡ h
    → reading.work_after call n work ≡ case◌waiting◌ended◌ p (when t then (when h then reading.work_head call work else work) else work) (λ a. work)
unfolding reading.work_after reading.work_shown
read_as call n work p e t f h q = rw (e, f, q)

read_twice : (call : ReadCall) (n : ℕ) (work : List ℕ) → reading.work_after call n (reading.work_after call n work) ≡ reading.work_after call n work
unfolding reading.work_head case◌waiting◌ended◌ when◌then◌else◌
read_twice call n work = by call.phase refl (fits_of call.task.lent n (length work)) refl call.heading refl
  where
    head : List ℕ
    head = parts.head_bytes call.task.plan.head call.received

    laid : List ℕ
    laid = work_laid call.task.plan.head_pec head work

    by : (p : Phase) → call.phase ≡ p → (t : Bool) → fits_of call.task.lent n (length work) ≡ t → (h : Bool) → call.heading ≡ h
        → reading.work_after call n (reading.work_after call n work) ≡ reading.work_after call n work
    by (phase.Ended a) e t f h q = ap (reading.work_after call n) (read_as call n work (phase.Ended a) e t f h q)
    by phase.Waiting e false f h q = ap (reading.work_after call n) (read_as call n work phase.Waiting e false f h q)
    by phase.Waiting e true f false q = ap (reading.work_after call n) (read_as call n work phase.Waiting e true f false q)
    by phase.Waiting e true f true q =
        let once : reading.work_after call n work ≡ laid = read_as call n work phase.Waiting e true f true q in
        let fits : fits_of call.task.lent n (length laid) ≡ true = ap (fits_of call.task.lent n) (length_laid call.task.plan.head_pec head work) ∙ f in
        ap (reading.work_after call n) once ∙ read_as call n laid phase.Waiting e true fits true q
        ∙ laid_twice call.task.plan.head_pec head work ∙ sym once

pub again : Again
again = record {
  writing = λ call payload work. (ap (writing.next_of call payload) (write_work call payload work), wrote_twice call payload work);
  reading = λ call n work. (ap (reading.next_of call n) (read_work call n work), read_twice call n work);
}
