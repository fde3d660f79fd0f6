-- What a call hands out to be sent, and what that leaves in the work buffer; and that it shows 8 exactly where it waits and the lent lengths differ.
-- Assumes nothing.
use Prim.Native.Nat.{ℕ, ◌≤◌}
use mathlib.Core.Path.{◌≡◌, refl, sym, ap, subst, ◌∙◌}
use mathlib.Core.Bool.{Bool, true, false}
use mathlib.Core.List.{List}
use native.Mathlib.Omega.{arith}
use lib.Dec.{ltb}
use lib.ListN.{length, take}
use lib.Seq.{take-length}
use borrow.Author.Tests.{ltb-true}
use Rattle.protocol.specs.Common.{TwoByteBudgets}
use Rattle.protocol.specs.Pick.{when◌then◌else◌}
use Rattle.protocol.specs.Bytes.{over, send_of}
use Rattle.protocol.specs.Frame.{sealed, laid_of, work_laid}
use Rattle.protocol.proofs.Laws.{length_over, take_over, drop_over, length_sealed}
use Rattle.protocol.specs.declared.common.Config.{Config}
use Rattle.protocol.specs.declared.error.Answer.{Answer}
use Rattle.protocol.specs.declared.error.Answer.TheVariants as answer
use Rattle.engine.specs.Pick.{case◌waiting◌ended◌}
use Rattle.engine.specs.Bus.{write_of, fits_of}
use Rattle.engine.specs.declared.bus.Lent.{Lent}
use Rattle.engine.specs.declared.bus.Phase.{Phase}
use Rattle.engine.specs.declared.bus.Phase.TheVariants as phase
use Rattle.engine.specs.declared.bus.Transfer.TheVariants as transfer
use Rattle.writing.specs.Frames as frames
use Rattle.writing.specs.Writing as writing
use Rattle.writing.specs.declared.call.WritePlan.{WritePlan}
use Rattle.writing.specs.declared.call.WriteCall.{WriteCall}
use Rattle.reading.specs.Parts as parts
use Rattle.reading.specs.Reading as reading
use Rattle.reading.specs.declared.call.ReadPlan.{ReadPlan}
use Rattle.reading.specs.declared.call.ReadCall.{ReadCall}
use Rattle.interface.specs.Plans.{write_with_retries, write_register, write_buffer}
use Rattle.r5.specs.Plans.{mac_write, send_access_key, write_mfg_info_c, write_mfg_info, write_dataflash}
use Rattle.answers.specs.Rows.{Same}
use Rattle.answers.specs.Runs.{WriteReport, feed_w, ReadReport, Reader, feed_r}
use Rattle.answers.specs.Within.{WritesBy, write_with_retries_lem, write_register_lem, write_buffer_lem, write_security_keys_lem, write_authentication_key_lem, write_charging_voltage_override_lem, send_access_key_lem, unseal_fg_lem, write_mfg_info_c_lem, write_mfg_info_lem, write_dataflash_lem, ReadsBy, ReadsOn}
use Rattle.answers.specs.Steps.{builds, Handed, HandsW, HandsR, HandsOut}
use Rattle.answers.proofs.Laws.{fits_other}
use Rattle.answers.proofs.Runs as runs
use Rattle.answers.proofs.Kept as kept
use Rattle.answers.proofs.Within.{within}

-- a frame that was laid is the front of the work buffer
over_handed : (s payload work : List ℕ) → length s ≤ length work → Handed true payload work (over s work) (length s) (take (length s) (over s work))
over_handed s payload work room = (ap length (take_over s work), refl, drop_over (length s) s work (omega arith), length_over s work room)

laid_handed : (pec : Bool) (f payload work : List ℕ) (n : ℕ) → write_of (laid_of pec f (length work)) ≡ transfer.Write n
    → Handed true payload work (work_laid pec f work) n (take n (work_laid pec f work))
unfolding write_of laid_of work_laid when◌then◌else◌
laid_handed pec f payload work n e = by (ltb (length f) (length work)) refl
  where
    by : (t : Bool) → ltb (length f) (length work) ≡ t → Handed true payload work (work_laid pec f work) n (take n (work_laid pec f work))
    by false t = let z : ◌≡◌ {A = ℕ} 0 1 = cc (rw t at e) in absurd (omega arith)
    by true t =
        let size : length (sealed pec f) ≡ n = cc (rw t at e) in
        let room : length (sealed pec f) ≤ length work = omega (arith, ltb-true (length f) (length work) t, length_sealed pec f) in
        rw t (subst (λ (m : ℕ). Handed true payload work (over (sealed pec f) work) m (take m (over (sealed pec f) work))) size (over_handed (sealed pec f) payload work room))

write_not_refused : {n : ℕ} {a : Answer} → transfer.Write n ≡ transfer.Refused a → ⊥
write_not_refused e = let z : ◌≡◌ {A = ℕ} 0 1 = cc in absurd (omega arith)

read_not_refused : {command n : ℕ} {a : Answer} → transfer.Read command n ≡ transfer.Refused a → ⊥
read_not_refused e = let z : ◌≡◌ {A = ℕ} 0 1 = cc in absurd (omega arith)

-- ---- a writing call

module _ (call : WriteCall) (payload work : List ℕ) where
  -- by whether its frames are built
  hands_write : (built : Bool) → writing.own_bytes call ≡ when◌then◌else◌ built false true → (n : ℕ) → writing.next_of call payload (length work) ≡ transfer.Write n
      → Handed built payload work (writing.work_after call payload work) n (writing.part_of call payload (writing.work_after call payload work) n)
  unfolding writing.next_of writing.work_after writing.part_of writing.shown_of writing.work_shown writing.due_bytes send_of case◌waiting◌ended◌ when◌then◌else◌
  hands_write built own n e = by call.phase refl (fits_of call.task.lent (length payload) (length work)) refl built own
    where
      by : (p : Phase) → call.phase ≡ p → (t : Bool) → fits_of call.task.lent (length payload) (length work) ≡ t
          → (b : Bool) → writing.own_bytes call ≡ when◌then◌else◌ b false true
          → Handed b payload work (writing.work_after call payload work) n (writing.part_of call payload (writing.work_after call payload work) n)
      by (phase.Ended a) q t f b o = let z : ◌≡◌ {A = ℕ} 0 1 = cc (rw q at e) in absurd (omega arith)
      by phase.Waiting q false f b o = let z : ◌≡◌ {A = ℕ} 0 1 = cc (rw (f, q) at e) in absurd (omega arith)
      by phase.Waiting q true f true o =
          let laid : write_of (laid_of call.task.plan.pec (writing.due_bytes call payload) (length work)) ≡ transfer.Write n = rw (o, f, q) at e in
          rw (o, f, q) (laid_handed call.task.plan.pec (writing.due_bytes call payload) payload work n laid)
      by phase.Waiting q true f false o =
          let size : length payload ≡ n = cc (rw (o, f, q) at e) in
          rw (o, f, q) (subst (λ (m : ℕ). Handed false payload work work m (take m payload)) size (ap length (take-length payload), take-length payload, refl))

-- of a frame that is built any front of the work buffer, otherwise of the caller's bytes
any_front : (call : WriteCall) (payload : List ℕ) (built : Bool) → writing.own_bytes call ≡ when◌then◌else◌ built false true
    → (work : List ℕ) (k : ℕ) → writing.part_of call payload work k ≡ when◌then◌else◌ built (take k work) (take k payload)
unfolding writing.part_of send_of when◌then◌else◌
any_front call payload true o work k = rw o
any_front call payload false o work k = rw o

head_front : (payload work : List ℕ) (k : ℕ) → take k work ≡ when◌then◌else◌ true (take k work) (take k payload)
unfolding when◌then◌else◌
head_front payload work k = refl

-- which calls build their frames, by name
own_by : (config : Config) (plan : WritePlan) (name : WritesBy config plan)
    → when◌then◌else◌ (frames.is_plain plan.frames) (when◌then◌else◌ plan.pec false true) false ≡ when◌then◌else◌ (builds config plan name) false true
unfolding write_with_retries write_register write_buffer mac_write send_access_key write_mfg_info_c write_mfg_info write_dataflash writing.plan_of frames.is_plain when◌then◌else◌
own_by config plan (write_with_retries_lem) = refl
own_by config plan (write_register_lem address) = refl
own_by config plan (write_buffer_lem address) = refl
own_by config plan (write_security_keys_lem) = refl
own_by config plan (write_authentication_key_lem) = refl
own_by config plan (write_charging_voltage_override_lem) = refl
own_by config plan (send_access_key_lem lower upper) = refl
own_by config plan (unseal_fg_lem lower upper) = refl
own_by config plan (write_mfg_info_c_lem lower upper) = refl
own_by config plan (write_mfg_info_lem) = refl
own_by config plan (write_dataflash_lem start) = refl

-- the lengths that a call was started at
task_own : (plan : WritePlan) (n w : ℕ) (call : WriteCall) → call.task ≡ (writing.start_of plan n w).task
    → writing.own_bytes call ≡ when◌then◌else◌ (frames.is_plain plan.frames) (when◌then◌else◌ plan.pec false true) false
unfolding writing.own_bytes writing.start_of
task_own plan n w call t = rw t

task_lent : (plan : WritePlan) (n w : ℕ) (call : WriteCall) → call.task ≡ (writing.start_of plan n w).task → call.task.lent ≡ record { length = n; work = w }
unfolding writing.start_of
task_lent plan n w call t = rw t

-- at other lengths a waiting call shows 8, and it shows it nowhere else where it shows a write at those of the start
module _ (call : WriteCall) (payload work : List ℕ) where
  other_write : call.phase ≡ phase.Waiting → fits_of call.task.lent (length payload) (length work) ≡ false
      → writing.next_of call payload (length work) ≡ transfer.Refused answer.WrongBuffer
  unfolding writing.next_of case◌waiting◌ended◌ when◌then◌else◌
  other_write e f = rw (f, e)

  refused_write : writing.next_of call payload (length work) ≡ transfer.Refused answer.WrongBuffer → call.phase ≡ phase.Waiting
  unfolding writing.next_of case◌waiting◌ended◌
  refused_write e = by call.phase refl
    where
      by : (p : Phase) → call.phase ≡ p → call.phase ≡ phase.Waiting
      by phase.Waiting q = q
      by (phase.Ended a) q = let z : ◌≡◌ {A = ℕ} 0 1 = cc (rw q at e) in absurd (omega arith)

pub hands_w : (config : Config) → TwoByteBudgets config → (plan : WritePlan) (name : WritesBy config plan) (n w : ℕ) (es : List WriteReport)
    → (payload work : List ℕ) → HandsW (builds config plan name) (record { length = n; work = w }) (feed_w (writing.start_of plan n w) es) payload work
hands_w config r plan name n w es payload work = record {
  refuses = (λ e. (refused_write call payload work e, differs e), λ (e, other). other_write call payload work e (fits_other call.task.lent _ _ (λ same. other (subst At lent same))));
  fronts = any_front call payload (builds config plan name) (task_own plan n w call task ∙ own_by config plan name);
  hands = hands_write call payload work (builds config plan name) (task_own plan n w call task ∙ own_by config plan name);
}
  where
    call : WriteCall
    call = feed_w (writing.start_of plan n w) es

    task : call.task ≡ (writing.start_of plan n w).task
    task = runs.same_task es (writing.start_of plan n w)

    lent : call.task.lent ≡ record { length = n; work = w }
    lent = task_lent plan n w call task

    At : Lent → Type 0
    At l = Same l (length payload) (length work)

    Never : ℕ → ℕ → Type 0
    Never m v = writing.next_of (feed_w (writing.start_of plan m v) es) payload (length work) ≡ transfer.Refused answer.WrongBuffer → ⊥

    never : Never (length payload) (length work)
    never e =
        let begun = feed_w (writing.start_of plan (length payload) (length work)) es in
        let shown = ((within.writing config r plan name payload (length work) es).goes_on (refused_write begun payload work e)).shows in
        write_not_refused (sym shown.1 ∙ e)

    differs : writing.next_of call payload (length work) ≡ transfer.Refused answer.WrongBuffer → Same (record { length = n; work = w }) (length payload) (length work) → ⊥
    differs e (p, q) = subst (Never n) q (subst (λ (m : ℕ). Never m (length work)) p never) e

-- ---- a reading call

module _ (call : ReadCall) (buffer work : List ℕ) where
  hands_head : (n : ℕ) → reading.next_of call (length buffer) (length work) ≡ transfer.Write n
      → Handed true buffer work (reading.work_after call (length buffer) work) n (take n (reading.work_after call (length buffer) work))
  unfolding reading.next_of reading.work_after reading.shown_of reading.work_shown reading.shown_head reading.work_head case◌waiting◌ended◌ when◌then◌else◌
  hands_head n e = by call.phase refl (fits_of call.task.lent (length buffer) (length work)) refl call.heading refl
    where
      head : List ℕ
      head = parts.head_bytes call.task.plan.head call.received

      by : (p : Phase) → call.phase ≡ p → (t : Bool) → fits_of call.task.lent (length buffer) (length work) ≡ t → (h : Bool) → call.heading ≡ h
          → Handed true buffer work (reading.work_after call (length buffer) work) n (take n (reading.work_after call (length buffer) work))
      by (phase.Ended a) q t f h g = let z : ◌≡◌ {A = ℕ} 0 1 = cc (rw q at e) in absurd (omega arith)
      by phase.Waiting q false f h g = let z : ◌≡◌ {A = ℕ} 0 1 = cc (rw (f, q) at e) in absurd (omega arith)
      by phase.Waiting q true f false g = let z : ◌≡◌ {A = ℕ} 0 1 = cc (rw (g, f, q) at e) in absurd (omega arith)
      by phase.Waiting q true f true g =
          let laid : write_of (laid_of call.task.plan.head_pec head (length work)) ≡ transfer.Write n = rw (g, f, q) at e in
          rw (g, f, q) (laid_handed call.task.plan.head_pec head buffer work n laid)

module _ (call : ReadCall) (n w : ℕ) where
  other_read : call.phase ≡ phase.Waiting → fits_of call.task.lent n w ≡ false → reading.next_of call n w ≡ transfer.Refused answer.WrongBuffer
  unfolding reading.next_of case◌waiting◌ended◌ when◌then◌else◌
  other_read e f = rw (f, e)

  refused_read : reading.next_of call n w ≡ transfer.Refused answer.WrongBuffer → call.phase ≡ phase.Waiting
  unfolding reading.next_of case◌waiting◌ended◌
  refused_read e = by call.phase refl
    where
      by : (p : Phase) → call.phase ≡ p → call.phase ≡ phase.Waiting
      by phase.Waiting q = q
      by (phase.Ended a) q = let z : ◌≡◌ {A = ℕ} 0 1 = cc (rw q at e) in absurd (omega arith)

task_lent_read : (plan : ReadPlan) (n w : ℕ) (call : ReadCall) → call.task ≡ (reading.start_of plan n w).task → call.task.lent ≡ record { length = n; work = w }
unfolding reading.start_of
task_lent_read plan n w call t = rw t

pub hands_r : (config : Config) → TwoByteBudgets config → (start : List ℕ) (plan : ReadPlan) → ReadsBy config (length start) plan
    → (w : ℕ) (es : List ReadReport) (buffer work : List ℕ)
    → HandsR (record { length = length start; work = w }) (feed_r (record { call = reading.start_of plan (length start) w; buffer = start }) es).call buffer work
hands_r config r start plan name w es buffer work = record {
  refuses = (λ e. (refused_read call (length buffer) (length work) e, differs e), λ (e, other). other_read call (length buffer) (length work) e (fits_other call.task.lent _ _ (λ same. other (subst At lent same))));
  fronts = head_front buffer;
  hands = hands_head call buffer work;
}
  where
    begun : Reader
    begun = record { call = reading.start_of plan (length start) w; buffer = start }

    call : ReadCall
    call = (feed_r begun es).call

    lent : call.task.lent ≡ record { length = length start; work = w }
    lent = task_lent_read plan (length start) w call (kept.same_task es begun)

    At : Lent → Type 0
    At l = Same l (length buffer) (length work)

    never : reading.next_of call (length start) w ≡ transfer.Refused answer.WrongBuffer → ⊥
    never e = by call.heading refl
      where
        on : ReadsOn plan (length start) w call
        on = (within.reading config r start plan name w es).goes_on (refused_read call (length start) w e)

        by : (h : Bool) → call.heading ≡ h → ⊥
        by true h = write_not_refused (sym (on.shows_head h).1 ∙ e)
        by false h = read_not_refused (sym (on.shows_read h) ∙ e)

    differs : reading.next_of call (length buffer) (length work) ≡ transfer.Refused answer.WrongBuffer
        → Same (record { length = length start; work = w }) (length buffer) (length work) → ⊥
    differs e (p, q) = never (subst (λ (v : ℕ). reading.next_of call (length start) v ≡ transfer.Refused answer.WrongBuffer) q
        (subst (λ (m : ℕ). reading.next_of call m (length work) ≡ transfer.Refused answer.WrongBuffer) p e))

-- WHAT EVERY CALL HANDS OUT
pub hands_out : HandsOut
hands_out = record { writing = hands_w; reading = hands_r }
