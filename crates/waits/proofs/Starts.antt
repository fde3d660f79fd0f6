-- A call at its start, by its kind: nothing has been waited for, and its waits will be few.
-- Assumes nothing.
use Prim.Native.Nat.{ℕ, ◌*◌, ◌≤◌, min}
use mathlib.Core.Path.{◌≡◌, refl, sym}
use mathlib.Core.Bool.{Bool}
use mathlib.Core.Logic.{inl}
use mathlib.Core.List.{[]}
use native.Mathlib.Omega.{arith}
use native.Mathlib.Nat.{mul-le-mul_right}
use Rattle.protocol.proofs.Shared.{few_on}
use Rattle.protocol.specs.Common.{TwoByteBudgets}
use Rattle.protocol.specs.declared.common.Config.{Config}
use Rattle.engine.specs.Budget.{nothing}
use Rattle.engine.specs.declared.bus.Phase.{Phase}
use Rattle.engine.specs.declared.bus.Phase.TheVariants as phase
use Rattle.writing.specs.Frames as frames
use Rattle.writing.specs.Writing as writing
use Rattle.reading.specs.Reading as reading
use Rattle.r5.specs.Plans.{write_dataflash}
use Rattle.calls.specs.Kind.{plan_of}
use Rattle.calls.specs.Sides.{side_of, budget_of}
use Rattle.calls.specs.Call.{start_with, start_of, phase_of}
use Rattle.calls.specs.declared.kind.Kind.{Kind}
use Rattle.calls.specs.declared.kind.Kind.TheVariants as kind
use Rattle.calls.specs.declared.kind.Plan.{Plan}
use Rattle.calls.specs.declared.kind.Plan.TheVariants as plan
use Rattle.answers.proofs.Laws.{over_waits}
use Rattle.ceilings.specs.Ceilings.{Blocks, CeilingOf, write_with_retries_lem, write_register_lem, write_buffer_lem, write_security_keys_lem, write_authentication_key_lem, write_charging_voltage_override_lem, write_mfg_info_lem, send_access_key_lem, unseal_fg_lem, write_mfg_info_c_lem, write_dataflash_lem, nothing_written, read_register_lem, read_buffer_lem, read_mfg_info_lem, read_security_keys_lem, read_authentication_key_lem, read_charging_voltage_override_lem, read_mfg_info_c_lem, command_read, command_alone, read_dataflash_lem, nothing_read}
use Rattle.ceilings.proofs.Ceilings.{ceilings}
use Rattle.ceilings.proofs.Good.{good_named}
use Rattle.ceilings.proofs.Names.{admits_some}
use Rattle.ceilings.proofs.Starts.{idle}
use Rattle.waits.specs.Costs.{budget_cost}
use Rattle.waits.specs.Waits.{budgets_in}
use Rattle.waits.proofs.Costs.{cost_none}
use Rattle.waits.proofs.Plans.{Waits, by_settings}
use Rattle.waits.proofs.Calls.{Timed, Keeps}

-- nothing has been waited for
begins : (r : ℕ) (growing : Bool) (its : Plan) (p n w : ℕ) → Waits r growing its → Timed growing r (budgets_in its p) [] (start_with its p n w)
unfolding start_with writing.start_of reading.start_of nothing
begins r growing (plan.Write its) p n w set = record {
  its = set;
  before = 0;
  k = 0;
  splits = λ more. omega arith;
  total =
      let start : min 0 r ≡ 0 = omega arith in
      let z : budget_cost growing (min 0 r) ≡ 0 = rw start (cost_none growing) in
      omega (arith, z);
  due = λ e. let full = set.0 in omega (arith, full);
  short = omega arith;
  tens = λ off. omega arith;
  frames = refl;
  sum = omega arith;
  part = inl refl;
  whole = omega arith;
}
begins r growing (plan.Read its) p n w set = (
  record {
    its = set;
    total = sym (cost_none growing);
    due = λ e. let full = set.0 in omega (arith, full);
    short = omega arith;
    tens = λ off. omega arith;
    within = omega arith;
  },
  refl,
)

-- the waits of a call that is not refused or done at its start: those of 256 frames at the most
module _ (config : Config) (r : ℕ) (few : r ≤ 65535) (p n w : ℕ) where
  blocks_few : (b : ℕ) → p ≤ 8192 → Blocks 32 p b → b * r ≤ 256 * 65535
  blocks_few b long (low, high) =
      let b-few : b ≤ 256 = omega (arith, long, high) in
      let one : b * r ≤ 256 * r = mul-le-mul_right r b-few in
      omega (arith, one, few)

  flash_few : (address b : ℕ) → Blocks 32 p b → phase_of (start_of (kind.WriteDataflash address) config p n w) ≡ phase.Waiting → b * r ≤ 256 * 65535
  unfolding start_of plan_of start_with phase_of writing.start_of writing.plan_of write_dataflash frames.first_address
  flash_few address b split e = blocks_few b (admits_some address p w e).1 split

  waits_few : (kind : Kind) (most waits : ℕ) → CeilingOf r p n kind most waits → phase_of (start_of kind config p n w) ≡ phase.Waiting → waits ≤ 256 * 65535
  waits_few kind most waits write_with_retries_lem e = omega (arith, few)
  waits_few kind most waits (write_register_lem address) e = omega (arith, few)
  waits_few kind most waits (write_buffer_lem address) e = omega (arith, few)
  waits_few kind most waits write_security_keys_lem e = omega (arith, few)
  waits_few kind most waits write_authentication_key_lem e = omega (arith, few)
  waits_few kind most waits write_charging_voltage_override_lem e = omega (arith, few)
  waits_few kind most waits write_mfg_info_lem e = omega (arith, few)
  waits_few kind most waits (send_access_key_lem lower upper) e = omega (arith, few)
  waits_few kind most waits (unseal_fg_lem lower upper) e = omega (arith, few)
  waits_few kind most waits (write_mfg_info_c_lem lower upper) e = omega (arith, few)
  waits_few kind most waits (write_dataflash_lem address b some split) e = flash_few address b split e
  waits_few kind most waits (nothing_written address none) e = omega arith
  waits_few kind most waits (read_register_lem address) e = omega (arith, few)
  waits_few kind most waits (read_buffer_lem address) e = omega (arith, few)
  waits_few kind most waits read_mfg_info_lem e = omega (arith, few)
  waits_few kind most waits read_security_keys_lem e = omega (arith, few)
  waits_few kind most waits read_authentication_key_lem e = omega (arith, few)
  waits_few kind most waits read_charging_voltage_override_lem e = omega (arith, few)
  waits_few kind most waits read_mfg_info_c_lem e = omega (arith, few)
  waits_few kind most waits (command_read address some) e = omega (arith, few)
  waits_few kind most waits (command_alone address none) e = omega (arith, few)
  waits_few kind most waits (read_dataflash_lem address b some split) e = omega (arith, few)
  waits_few kind most waits (nothing_read address none) e = omega arith

-- A CALL BY ITS KIND, AT ITS START
module _ (config : Config) (small : TwoByteBudgets config) (p n w : ℕ) where
  abbrev Begins : Kind → Type 0
  Begins kind = Keeps config.growing_waits (budget_of kind config n) (budgets_in (plan_of kind config p n) p) [] (start_of kind config p n w)

  pub started : (kind : Kind) → Begins kind
  unfolding start_of
  started kind = by (phase_of (start_of kind config p n w)) refl
    where
      timed : Timed config.growing_waits (budget_of kind config n) (budgets_in (plan_of kind config p n) p) [] (start_of kind config p n w)
      timed = begins (budget_of kind config n) config.growing_waits (plan_of kind config p n) p n w (by_settings config p n kind).0

      by : (f : Phase) → phase_of (start_of kind config p n w) ≡ f → Begins kind
      by phase.Waiting e =
          let name = ceilings.some (budget_of kind config n) p n kind in
          record {
            outcomes = name.0;
            waits = name.1;
            good = good_named config small kind p n w name.0 name.1 name.2;
            few = waits_few config (budget_of kind config n) (few_on config small (side_of kind n)) p n w kind name.0 name.1 name.2 e;
            timed = timed;
          }
      by (phase.Ended a) e = record {
        outcomes = 0;
        waits = 0;
        good = (0, idle (plan_of kind config p n) p n w (λ f. over_waits a _ e f));
        few = omega arith;
        timed = timed;
      }
