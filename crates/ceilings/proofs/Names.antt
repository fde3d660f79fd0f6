-- Each call by its name has the shape of its ceiling, and can accept as many outcomes as that says.
-- Assumes nothing.
use Prim.Native.Nat.{ℕ, ◌+◌, ◌*◌, ◌≤◌, ◌<◌}
use mathlib.Core.Path.{◌≡◌, refl, subst}
use mathlib.Core.Bool.{Bool, true, false}
use native.Mathlib.Omega.{arith}
use native.Mathlib.Nat.{mul-le-mul_left, mul-le-mul_right}
use lib.Dec.{ltb, eqb}
use borrow.Author.Tests.{eqb-false, ne_eqb}
use Rattle.protocol.proofs.Shared.{few_on}
use Rattle.protocol.specs.Common.{TwoByteBudgets}
use Rattle.protocol.specs.Pick.{when◌then◌else◌}
use Rattle.protocol.specs.Bytes.{blocks_of}
use Rattle.protocol.specs.Window.{in_window}
use Rattle.protocol.proofs.WindowLaws.{within}
use Rattle.protocol.specs.declared.common.Config.{Config}
use Rattle.engine.specs.Limit.{windowed, measured, admitted}
use Rattle.engine.specs.declared.bus.Phase.TheVariants as phase
use Rattle.engine.specs.declared.limit.Limit.TheVariants as limit
use Rattle.writing.specs.Frames as frames
use Rattle.writing.specs.Writing as writing
use Rattle.writing.specs.declared.call.WritePlan.{WritePlan}
use Rattle.reading.specs.Parts as parts
use Rattle.reading.specs.Reading as reading
use Rattle.reading.specs.declared.call.ReadPlan.{ReadPlan}
use Rattle.interface.specs.Plans.{write_with_retries, write_register, read_register, command_reads, dispatch_command, read_buffer, write_buffer}
use Rattle.r5.specs.Plans.{mac_read, mac_write, read_security_keys, write_security_keys, read_authentication_key, write_authentication_key, read_charging_voltage_override, write_charging_voltage_override, send_access_key, unseal_fg, write_mfg_info_c, read_mfg_info_c, write_mfg_info, read_mfg_info, read_dataflash, write_dataflash}
use Rattle.calls.specs.Kind.{plan_of}
use Rattle.calls.specs.Sides.{budget_of}
use Rattle.calls.specs.Call.{start_with, start_of, phase_of}
use Rattle.calls.specs.declared.kind.Kind.{Kind}
use Rattle.calls.specs.declared.kind.Kind.TheVariants as kinds
use Rattle.calls.specs.declared.kind.Plan.{Plan}
use Rattle.calls.specs.declared.kind.Plan.TheVariants as plan
use Rattle.calls.proofs.Sides.{sides}
use Rattle.ceilings.specs.Ceilings.{Blocks, CeilingOf, write_with_retries_lem, write_register_lem, write_buffer_lem, write_security_keys_lem, write_authentication_key_lem, write_charging_voltage_override_lem, write_mfg_info_lem, send_access_key_lem, unseal_fg_lem, write_mfg_info_c_lem, write_dataflash_lem, nothing_written, read_register_lem, read_buffer_lem, read_mfg_info_lem, read_security_keys_lem, read_authentication_key_lem, read_charging_voltage_override_lem, read_mfg_info_c_lem, command_read, command_alone, read_dataflash_lem, nothing_read}
use Rattle.ceilings.proofs.Calls.{Sound}
use Rattle.ceilings.proofs.Starts.{idle, by_frames, by_reads, by_head, by_head_alone}

-- ---- a data-flash transfer that waits has bytes, and at most 8,192

window_some : (start n : ℕ) → windowed start n ≡ phase.Waiting → (0 < n) × (n ≤ 8192)
unfolding windowed when◌then◌else◌
window_some start n e = by (in_window start n) refl (eqb n 0) refl
  where
    by : (a : Bool) → in_window start n ≡ a → (b : Bool) → eqb n 0 ≡ b → (0 < n) × (n ≤ 8192)
    by false a b p = let z : ◌≡◌ {A = ℕ} 0 1 = cc (rw a at e) in absurd (omega arith)
    by true a true p = let z : ◌≡◌ {A = ℕ} 0 1 = cc (rw (a, p) at e) in absurd (omega arith)
    by true a false p =
        let h = eqb-false n 0 p in
        let w = within start n a (omega arith) in
        (omega arith, omega (arith, w.0, w.1))

pub admits_some : (start n w : ℕ) → admitted limit.Window start n w ≡ phase.Waiting → (0 < n) × (n ≤ 8192)
unfolding admitted measured when◌then◌else◌
admits_some start n w e = by (ltb w 39) refl
  where
    by : (t : Bool) → ltb w 39 ≡ t → (0 < n) × (n ≤ 8192)
    by true t = let z : ◌≡◌ {A = ℕ} 0 1 = cc (rw t at e) in absurd (omega arith)
    by false t = window_some start n (rw t at e)

-- the blocks by their bounds are those that the calls count
blocks_are : (n b : ℕ) → Blocks 32 n b → blocks_of n ≡ b
blocks_are n b (low, high) = omega arith

-- ---- the shape of a plan at its start, and its ceiling of transfers and waits

pub data Shape (p n w : ℕ) : Plan → (most waits : ℕ) → Type 0 where
  -- it does not wait
  of_none : (its : Plan) → (phase_of (start_with its p n w) ≡ phase.Waiting → ⊥) → Shape p n w its 0 0
  -- f frames
  of_frames : (its : WritePlan) (f : ℕ) → frames.frame_count its.frames p ≡ f → (phase_of (start_with (plan.Write its) p n w) ≡ phase.Waiting → (0 < f) × (f * (its.retries + 1) ≤ 4294967295))
      → Shape p n w (plan.Write its) (f * (its.retries + 1)) (f * its.retries)
  -- one read and no head
  of_read_lem : (its : ReadPlan) → parts.has_head its.head ≡ false → parts.read_count its.reads n ≡ 1 → its.retries ≤ 65535 → Shape p n w (plan.Read its) (its.retries + 1) its.retries
  -- a head and b reads
  of_head : (its : ReadPlan) (b : ℕ) → parts.has_head its.head ≡ true → parts.read_count its.reads n ≡ b
      → (phase_of (start_with (plan.Read its) p n w) ≡ phase.Waiting → (0 < b) × (b + 1 + 2 * its.retries ≤ 4294967295)) → Shape p n w (plan.Read its) (b + 1 + 2 * its.retries) its.retries
  -- a head and no read
  of_head_alone : (its : ReadPlan) → parts.has_head its.head ≡ true → parts.read_count its.reads n ≡ 0 → its.retries ≤ 65535 → Shape p n w (plan.Read its) (its.retries + 1) its.retries

module _ (p n w : ℕ) where
  -- up to three frames
  few_frames : (its : WritePlan) (f : ℕ) → its.retries ≤ 65535 → 0 < f → f ≤ 3 → frames.frame_count its.frames p ≡ f → Shape p n w (plan.Write its) (f * (its.retries + 1)) (f * its.retries)
  few_frames its f few some short whole =
      let most : f * (its.retries + 1) ≤ 3 * (its.retries + 1) = mul-le-mul_right (its.retries + 1) short in
      of_frames its f whole (λ e. (some, omega (arith, few, most)))

  -- one, in fewer words
  one_frame : (its : WritePlan) → its.retries ≤ 65535 → frames.frame_count its.frames p ≡ 1 → Shape p n w (plan.Write its) (its.retries + 1) its.retries
  one_frame its few one =
      let times : 1 * (its.retries + 1) ≡ its.retries + 1 = omega arith in
      let waits : 1 * its.retries ≡ its.retries = omega arith in
      subst (Shape p n w (plan.Write its) (its.retries + 1)) waits (subst (λ (m : ℕ). Shape p n w (plan.Write its) m (1 * its.retries)) times (few_frames its 1 few (omega arith) (omega arith) one))

  -- a head and one read
  mac_read_lem : (its : ReadPlan) → its.retries ≤ 65535 → parts.has_head its.head ≡ true → parts.read_count its.reads n ≡ 1 → Shape p n w (plan.Read its) (2 * (its.retries + 1)) its.retries
  mac_read_lem its few headed one =
      let times : 1 + 1 + 2 * its.retries ≡ 2 * (its.retries + 1) = omega arith in
      subst (λ (m : ℕ). Shape p n w (plan.Read its) m its.retries) times (of_head its 1 headed one (λ e. (omega arith, omega (arith, few))))

  -- each accepts as many outcomes as its ceiling says
  sound_shaped : (its : Plan) (most waits : ℕ) → Shape p n w its most waits → Sound 0 most waits (start_with its p n w)
  sound_shaped its most waits (of_none some over) = idle some p n w over
  sound_shaped its most waits (of_frames some f whole bounded) = by_frames some p n w f whole bounded
  sound_shaped its most waits (of_read_lem some bare one few) =
      let times : 1 + some.retries ≡ some.retries + 1 = omega arith in
      subst (λ (m : ℕ). Sound 0 m some.retries (start_with (plan.Read some) p n w)) times (by_reads some p n w 1 one bare (λ e. (omega arith, omega (arith, few))))
  sound_shaped its most waits (of_head some b headed whole bounded) = by_head some p n w b whole headed bounded
  sound_shaped its most waits (of_head_alone some headed none few) = by_head_alone some p n w headed none (λ e. omega (arith, few))

-- ---- by name

module _ (config : Config) (small : TwoByteBudgets config) (p n w : ℕ) where
  writes_blocks : (address b : ℕ) → 0 < b → Blocks 32 p b
      → Shape p n w (plan.Write (write_dataflash config address)) (b * (config.max_write_retries + 1)) (b * config.max_write_retries)
  unfolding start_with phase_of writing.start_of writing.plan_of write_dataflash frames.first_address frames.frame_count
  writes_blocks address b some split =
      of_frames (write_dataflash config address) b (blocks_are p b split) (λ e.
      let fits = admits_some address p w e in
      let short : b ≤ 256 = omega (arith, split.1, fits.1) in
      let most : b * (config.max_write_retries + 1) ≤ b * 65536 = mul-le-mul_left b (omega (arith, small.0)) in
      (some, omega (arith, short, most)))

  reads_blocks : (address b : ℕ) → 0 < b → Blocks 32 n b
      → Shape p n w (plan.Read (read_dataflash config address)) (b + 1 + 2 * config.max_read_retries) config.max_read_retries
  unfolding start_with phase_of reading.start_of read_dataflash parts.first_address parts.has_head parts.read_count
  reads_blocks address b some split =
      of_head (read_dataflash config address) b refl (blocks_are n b split) (λ e.
      let fits = admits_some address n w e in
      (some, omega (arith, split.1, fits.1, small.1)))

  -- an empty transfer does not wait
  writes_nothing : (address : ℕ) → p ≡ 0 → Shape p n w (plan.Write (write_dataflash config address)) 0 0
  unfolding start_with phase_of writing.start_of writing.plan_of write_dataflash frames.first_address
  writes_nothing address none =
      of_none (plan.Write (write_dataflash config address)) (λ e. let some = admits_some address p w e in absurd (omega (arith, some.0, none)))

  reads_nothing : (address : ℕ) → n ≡ 0 → Shape p n w (plan.Read (read_dataflash config address)) 0 0
  unfolding start_with phase_of reading.start_of read_dataflash parts.first_address
  reads_nothing address none =
      of_none (plan.Read (read_dataflash config address)) (λ e. let some = admits_some address n w e in absurd (omega (arith, some.0, none)))

  -- a command, with an output or without
  abbrev command : ℕ → ReadPlan
  command address = dispatch_command config address p n

  command_few : (address : ℕ) → (command address).retries ≤ 65535
  unfolding dispatch_command
  command_few address = few_on config small (parts.reads_side (command_reads config address n))

  command_reads_lem : (address : ℕ) → 0 < n → Shape p n w (plan.Read (command address)) (2 * ((command address).retries + 1)) (command address).retries
  unfolding dispatch_command command_reads parts.has_head parts.read_count when◌then◌else◌
  command_reads_lem address some =
      let one : parts.read_count (command_reads config address n) n ≡ 1 = rw (ne_eqb n 0 (λ e. omega (arith, some, e))) in
      mac_read_lem p n w (command address) (command_few address) refl one

  command_reads_not : (address : ℕ) → n ≡ 0 → Shape p n w (plan.Read (command address)) ((command address).retries + 1) (command address).retries
  unfolding dispatch_command command_reads parts.has_head parts.read_count when◌then◌else◌
  command_reads_not address none =
      let no : parts.read_count (command_reads config address n) n ≡ 0 = rw none in
      of_head_alone (command address) refl no (command_few address)

  -- every kind has the shape of its ceiling
  pub shape_named : (kind : Kind) (most waits : ℕ) → CeilingOf (budget_of kind config n) p n kind most waits → Shape p n w (plan_of kind config p n) most waits
  unfolding plan_of writing.plan_of write_with_retries write_register write_buffer mac_write write_mfg_info send_access_key write_mfg_info_c frames.frame_count
      reading.plain_plan reading.mac_plan read_register read_buffer read_mfg_info mac_read read_mfg_info_c parts.has_head parts.read_count
  shape_named kind most waits write_with_retries_lem = one_frame p n w (write_with_retries config) small.0 refl
  shape_named kind most waits (write_register_lem address) = one_frame p n w (write_register config address) small.0 refl
  shape_named kind most waits (write_buffer_lem address) = one_frame p n w (write_buffer config address) small.0 refl
  shape_named kind most waits write_security_keys_lem = one_frame p n w (write_security_keys config) small.0 refl
  shape_named kind most waits write_authentication_key_lem = one_frame p n w (write_authentication_key config) small.0 refl
  shape_named kind most waits write_charging_voltage_override_lem = one_frame p n w (write_charging_voltage_override config) small.0 refl
  shape_named kind most waits write_mfg_info_lem = one_frame p n w (write_mfg_info config) small.0 refl
  shape_named kind most waits (send_access_key_lem lower upper) = few_frames p n w (send_access_key config lower upper) 2 small.0 (omega arith) (omega arith) refl
  shape_named kind most waits (unseal_fg_lem lower upper) = few_frames p n w (unseal_fg config lower upper) 2 small.0 (omega arith) (omega arith) refl
  shape_named kind most waits (write_mfg_info_c_lem lower upper) = few_frames p n w (write_mfg_info_c config lower upper) 3 small.0 (omega arith) (omega arith) refl
  shape_named kind most waits (write_dataflash_lem address b some split) = writes_blocks address b some split
  shape_named kind most waits (nothing_written address none) = writes_nothing address none
  shape_named kind most waits (read_register_lem address) = of_read_lem (read_register config address n) refl refl small.1
  shape_named kind most waits (read_buffer_lem address) = of_read_lem (read_buffer config address n) refl refl small.1
  shape_named kind most waits read_mfg_info_lem = of_read_lem (read_mfg_info config n) refl refl small.1
  shape_named kind most waits read_security_keys_lem = mac_read_lem p n w (read_security_keys config) small.1 refl refl
  shape_named kind most waits read_authentication_key_lem = mac_read_lem p n w (read_authentication_key config) small.1 refl refl
  shape_named kind most waits read_charging_voltage_override_lem = mac_read_lem p n w (read_charging_voltage_override config) small.1 refl refl
  shape_named kind most waits read_mfg_info_c_lem = mac_read_lem p n w (read_mfg_info_c config n) small.1 refl refl
  shape_named kind most waits (command_read address some) =
      subst (λ (r : ℕ). Shape p n w (plan.Read (command address)) (2 * (r + 1)) r) (sides.own (kinds.DispatchCommand address) config p n) (command_reads_lem address some)
  shape_named kind most waits (command_alone address none) =
      subst (λ (r : ℕ). Shape p n w (plan.Read (command address)) (r + 1) r) (sides.own (kinds.DispatchCommand address) config p n) (command_reads_not address none)
  shape_named kind most waits (read_dataflash_lem address b some split) = reads_blocks address b some split
  shape_named kind most waits (nothing_read address none) = reads_nothing address none

  -- so it stays below it
  pub sound_named : (kind : Kind) (most waits : ℕ) → CeilingOf (budget_of kind config n) p n kind most waits → Sound 0 most waits (start_of kind config p n w)
  unfolding start_of
  sound_named kind most waits name = sound_shaped p n w (plan_of kind config p n) most waits (shape_named kind most waits name)
