-- How long a call of the bench has waited, by the outcomes so far: what the definition over the Rust says.
-- Assumes nothing.
use Rattle.engine.specs.Bus.{Reported}
use Rattle.std.specs.Prelude.{Err, Ok}
use Rattle.writing.specs.declared.call.WriteCall.{WriteCall}
use Rattle.reading.specs.declared.call.ReadCall.{ReadCall}
use Prim.Native.Nat.{ℕ}
use mathlib.Core.Path.{◌≡◌, refl, ap, subst, ◌∙◌}
use mathlib.Core.Bool.{Bool, true, false}
use mathlib.Core.List.{List, [], ◌∷◌, ◌++◌, map, append-nil}
use lib.ListN.{length}
use Rattle.protocol.specs.Pick.{when◌then◌else◌}
use Rattle.protocol.specs.Common.{retries_on, TwoByteBudgets}
use Rattle.protocol.specs.declared.common.Side.{Side}
use Rattle.protocol.specs.declared.common.Side.TheVariants as sides
use Rattle.protocol.specs.declared.common.Config.{Config}
use Rattle.engine.specs.declared.bus.Outcome.{Outcome}
use Rattle.writing.specs.Writing as writing
use Rattle.reading.specs.Reading as reading
use Rattle.calls.specs.Kind.{plan_of}
use Rattle.calls.specs.Sides.{side_of}
use Rattle.calls.specs.Call.{start_with, start_of, wrote_of, got_of, report_of, tally_of}
use Rattle.calls.specs.declared.call.Call.{Call}
use Rattle.calls.specs.declared.call.Call.TheVariants as call
use Rattle.calls.specs.declared.kind.Kind.{Kind}
use Rattle.calls.specs.declared.kind.Kind.TheVariants as kind
use Rattle.original.specs.OriginalCommon.{set_for}
use Rattle.original.specs.Bus.{BusOutcome, Read, waits_in}
use Rattle.original.specs.Fed.{told}
use Rattle.waits.specs.Costs.{frames_cost}
use Rattle.waits.specs.Waits.{budgets_in}
use Rattle.waits.proofs.Writing as writes
use Rattle.waits.proofs.Calls.{Timed, Keeps, keeps_on}
use Rattle.waits.proofs.Starts.{started}
use Rattle.bench_promises.specs.Kinds.{waited_by}

-- a call of the engine whose every frame has a budget, or of the one that has a single budget
abbrev pub Budgeted : (per_frame : Bool) → Call → Type 0
Budgeted per_frame (call.Write c) = per_frame ≡ true
Budgeted per_frame (call.Read c) = per_frame ≡ false

abbrev BudgetedIn : (per_frame : Bool) → Reported Call → Type 0
BudgetedIn per_frame (Err (a, c)) = Unit {0}
BudgetedIn per_frame (Ok c) = Budgeted per_frame c

wrote_budgeted : (per_frame : Bool) (u : Reported WriteCall) → per_frame ≡ true → BudgetedIn per_frame (wrote_of u)
unfolding wrote_of
wrote_budgeted per_frame (Err (a, c)) e = tt
wrote_budgeted per_frame (Ok c) e = e

got_budgeted : (per_frame : Bool) (u : Reported ReadCall) → per_frame ≡ false → BudgetedIn per_frame (got_of u)
unfolding got_of
got_budgeted per_frame (Err (a, c)) e = tt
got_budgeted per_frame (Ok c) e = e

keeps_budgeted : (per_frame : Bool) (c : Call) → Budgeted per_frame c → (o : Outcome) (reply : List ℕ) (p n w : ℕ) → BudgetedIn per_frame (report_of c o reply p n w)
unfolding report_of
keeps_budgeted per_frame (call.Write c) e o reply p n w = wrote_budgeted per_frame (writing.report_of c o (length reply) p w) e
keeps_budgeted per_frame (call.Read c) e o reply p n w = got_budgeted per_frame (reading.report_of c o reply n w) e

-- a call that has taken these outcomes, of a kind whose budgets are so, of so many retries
pub record Lasts (per_frame growing : Bool) (retries : ℕ) (os : List BusOutcome) (c : Call) : Type 0 where
  pub budgets : ℕ
  pub keeps : Keeps growing retries budgets (map told os) c
  pub budgeted : Budgeted per_frame c

map_append : (os : List BusOutcome) (o : BusOutcome) → map told (os ++ (o ∷ [])) ≡ map told os ++ (told o ∷ [])
map_append [] o = refl
map_append (u ∷ os) o = ap (λ (l : List Outcome). told u ∷ l) (map_append os o)

-- one more that it takes
pub lasts_on : (per_frame growing : Bool) (retries : ℕ) (os : List BusOutcome) (c : Call) → Lasts per_frame growing retries os c → (o : BusOutcome) (reply : List ℕ) (p n w : ℕ) (next : Call)
    → report_of c (told o) reply p n w ≡ Ok next → Lasts per_frame growing retries (os ++ (o ∷ [])) next
lasts_on per_frame growing retries os c l o reply p n w next e = record {
  budgets = l.budgets;
  keeps = rw (map_append os o) (keeps_on growing retries l.budgets (map told os) c l.keeps (told o) reply p n w next e);
  budgeted = subst (BudgetedIn per_frame) e (keeps_budgeted per_frame c l.budgeted (told o) reply p n w);
}

-- how long it has waited, where its waits are those of the Rust
module _ (per_frame : Bool) (retries : ℕ) (rust : List BusOutcome → Read) (os : List BusOutcome) where
  abbrev Says : Bool → Call → Type 0
  Says growing c = (tally_of c).waited_ms ≡ waited_by per_frame growing retries rust os

  says : (growing : Bool) (c : Call) (f : ℕ) → Timed growing retries f (map told os) c → Budgeted per_frame c → (tally_of c).waits ≡ waits_in (rust os) → Says growing c
  unfolding waited_by tally_of when◌then◌else◌
  says true (call.Write c) f t own same = rw own (writes.totals true retries f (map told os) c t ∙ ap (frames_cost true retries 0) (append-nil (map told os)))
  says false (call.Write c) f t own same = rw (← same) (t.tens refl)
  says true (call.Read c) f (t, one) own same = rw (own, ← same) t.total
  says false (call.Read c) f (t, one) own same = rw (← same) (t.tens refl)

  pub lasts_so : (growing : Bool) (c : Call) → Lasts per_frame growing retries os c → (tally_of c).waits ≡ waits_in (rust os) → Says growing c
  lasts_so growing c l same = says growing c l.budgets l.keeps.timed l.budgeted same

-- ---- at its start

abbrev pub per_frame_of : Kind → Bool
per_frame_of kind.WriteWithRetries = true
per_frame_of (kind.WriteRegister address) = true
per_frame_of (kind.ReadRegister address) = false
per_frame_of (kind.DispatchCommand address) = false
per_frame_of (kind.WriteBuffer address) = true
per_frame_of (kind.ReadBuffer address) = false
per_frame_of kind.WriteSecurityKeys = true
per_frame_of kind.ReadSecurityKeys = false
per_frame_of kind.WriteAuthenticationKey = true
per_frame_of kind.ReadAuthenticationKey = false
per_frame_of kind.WriteChargingVoltageOverride = true
per_frame_of kind.ReadChargingVoltageOverride = false
per_frame_of (kind.SendAccessKey lower upper) = true
per_frame_of (kind.UnsealFg lower upper) = true
per_frame_of (kind.WriteMfgInfoC lower upper) = true
per_frame_of kind.ReadMfgInfoC = false
per_frame_of kind.WriteMfgInfo = true
per_frame_of kind.ReadMfgInfo = false
per_frame_of (kind.WriteDataflash address) = true
per_frame_of (kind.ReadDataflash address) = false

budgeted_of : (k : Kind) (config : Config) (p n w : ℕ) → Budgeted (per_frame_of k) (start_of k config p n w)
unfolding start_of start_with plan_of
budgeted_of kind.WriteWithRetries config p n w = refl
budgeted_of (kind.WriteRegister address) config p n w = refl
budgeted_of (kind.ReadRegister address) config p n w = refl
budgeted_of (kind.DispatchCommand address) config p n w = refl
budgeted_of (kind.WriteBuffer address) config p n w = refl
budgeted_of (kind.ReadBuffer address) config p n w = refl
budgeted_of kind.WriteSecurityKeys config p n w = refl
budgeted_of kind.ReadSecurityKeys config p n w = refl
budgeted_of kind.WriteAuthenticationKey config p n w = refl
budgeted_of kind.ReadAuthenticationKey config p n w = refl
budgeted_of kind.WriteChargingVoltageOverride config p n w = refl
budgeted_of kind.ReadChargingVoltageOverride config p n w = refl
budgeted_of (kind.SendAccessKey lower upper) config p n w = refl
budgeted_of (kind.UnsealFg lower upper) config p n w = refl
budgeted_of (kind.WriteMfgInfoC lower upper) config p n w = refl
budgeted_of kind.ReadMfgInfoC config p n w = refl
budgeted_of kind.WriteMfgInfo config p n w = refl
budgeted_of kind.ReadMfgInfo config p n w = refl
budgeted_of (kind.WriteDataflash address) config p n w = refl
budgeted_of (kind.ReadDataflash address) config p n w = refl

-- what the Rust is set to has the retries of the side
set_retries : (config : Config) (s : Side) → (set_for s config).max_bus_retries ≡ retries_on config s
set_retries config sides.Write = refl
set_retries config sides.Read = refl

pub lasts_begin : (config : Config) → TwoByteBudgets config → (k : Kind) (per_frame : Bool) → per_frame ≡ per_frame_of k → (p n w : ℕ) (side : Side) → side ≡ side_of k n
    → Lasts per_frame config.growing_waits (set_for side config).max_bus_retries [] (start_of k config p n w)
lasts_begin config small k per_frame e p n w side own = record {
  budgets = budgets_in (plan_of k config p n) p;
  keeps = rw (own, set_retries config (side_of k n)) (started config small p n w k);
  budgeted = rw e (budgeted_of k config p n w);
}
