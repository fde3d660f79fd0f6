-- One report more: a call that takes it reaches what the call after it reaches, and one transfer.
-- Assumes nothing.
use Rattle.std.specs.Prelude.{Ok}
use Prim.Native.Nat.{ℕ, zero, suc, ◌+◌, ◌*◌, ◌≤◌}
use mathlib.Core.Path.{◌≡◌, refl, ap, subst, ◌∙◌}
use mathlib.Core.List.{List, [], ◌∷◌}
use native.Mathlib.Omega.{arith}
use native.Mathlib.Nat.{mul-zero, mul-suc}
use Rattle.engine.specs.Budget.{more_of}
use Rattle.engine.specs.declared.budget.Tally.{Tally}
use Rattle.engine.specs.declared.bus.Outcome.{Outcome}
use Rattle.calls.specs.Call.{report_of, tally_of}
use Rattle.calls.specs.declared.call.Call.{Call}
use Rattle.ceilings.specs.Reports.{feed, accepted}
use Rattle.ceilings.specs.Ceilings.{Reached}

-- no report
pub no_more : (c : Call) → Reached 0 (tally_of c).waits c
unfolding feed accepted
no_more c = record { reports = []; takes = refl; waits_all = refl }

-- one that is taken, before others
pub one_more : (c next : Call) (o : Outcome) (reply : List ℕ) (p n w m v : ℕ) → report_of c o reply p n w ≡ Ok next → Reached m v next → Reached (1 + m) v c
unfolding feed accepted
one_more c next o reply p n w m v taken r = record {
  reports = record { outcome = o; reply = reply; payload = p; buffer = n; work = w } ∷ r.reports;
  takes = rw taken (ap (λ (x : ℕ). 1 + x) r.takes);
  waits_all = rw taken r.waits_all;
}

-- the same numbers
pub same_reach : (c : Call) (m m' v v' : ℕ) → m ≡ m' → v ≡ v' → Reached m v c → Reached m' v' c
same_reach c m m' v v' e f r = record { reports = r.reports; takes = r.takes ∙ e; waits_all = r.waits_all ∙ f }

-- a budget is spent retry by retry, each at the same cost: `at` is the call with so many retries left, so many waits made and whatever else it counts
pub spends : (at : (left v : ℕ) → Tally → Call) (cost : ℕ)
    → ((left v : ℕ) (t : Tally) (m u : ℕ) → ((t' : Tally) → Reached m u (at left (more_of v) t')) → Reached (cost + m) u (at (suc left) v t))
    → (left v : ℕ) (t : Tally) (m u : ℕ) → v + left ≤ 4294967295 → ((t' : Tally) → Reached m u (at 0 (v + left) t')) → Reached (cost * left + m) u (at left v t)
spends at cost retry zero v t m u room rest =
    let all : v + 0 ≡ v = omega arith in
    same_reach (at 0 v t) m (cost * 0 + m) u u (omega (arith, mul-zero cost)) refl (subst (λ (x : ℕ). Reached m u (at 0 x t)) all (rest t))
spends at cost retry (suc left) v t m u room rest =
    let all : v + suc left ≡ more_of v + left = omega (arith, room) in
    same_reach (at (suc left) v t) (cost + (cost * left + m)) (cost * suc left + m) u u (omega (arith, mul-suc cost left)) refl
    (retry left v t (cost * left + m) u (λ t'. spends at cost retry left (more_of v) t' m u (omega (arith, room)) (λ t''. subst (λ (x : ℕ). Reached m u (at 0 x t'')) all (rest t''))))
