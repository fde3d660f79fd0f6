-- A file is refused at its first line that is no pack or that is one too many, and has a report where there is none: the lines that are counted end there.
-- Assumes nothing.
use Prim.Native.Nat.{ℕ, suc, ◌≤◌, ◌<◌, min}
use mathlib.Core.Path.{◌≡◌, refl, sym, subst}
use mathlib.Core.Bool.{Bool, true, false}
use mathlib.Core.List.{List}
use mathlib.Core.Logic.{◌⊎◌, inl, inr}
use native.Mathlib.Omega.{arith}
use lib.ListN.{length, get_or}
use lib.Dec.{ltb}
use borrow.Author.Tests.{ltb-true, ltb-false, lt-ltb, le-ltb}
use Rattle.protocol.specs.Pick.{when◌then◌else◌}
use Rattle.std.specs.Prelude.{None}
use Rattle.packs.specs.Said.{Said}
use Rattle.report.specs.Report.{Report, Outcome, report, refused}
use Rattle.count_promises.specs.Packs.{report_of, packs_before, counted, outcome_of}
use Rattle.count_promises.specs.Lines.{IsPack, AllPacks, FirstBad, RefusedAt, Refusals}
use Rattle.count_promises.proofs.Lists.{packs_within, pack_before, none_there, packs_least, all_before, before_all}

-- a line that is not counted is refused
refused_there : (ps : List Said) (k : ℕ) → counted ps ≡ k → k < length ps → outcome_of ps ≡ refused (suc k)
unfolding outcome_of when◌then◌else◌
refused_there ps k e h = rw (e, lt-ltb k (length ps) h)

-- where each is counted, there is a report
reported_there : (ps : List Said) → length ps ≤ counted ps → outcome_of ps ≡ report (report_of ps)
unfolding outcome_of when◌then◌else◌
reported_there ps h = rw (le-ltb (counted ps) (length ps) h)

-- the packs before a line that is none
no_pack : (ps : List Said) (k : ℕ) → get_or ps k None ≡ None → packs_before ps ≤ k
no_pack ps k e = by (ltb k (packs_before ps)) refl
  where
    by : (t : Bool) → ltb k (packs_before ps) ≡ t → packs_before ps ≤ k
    by true l = absurd (subst IsPack e (pack_before ps k (ltb-true _ _ l)))
    by false l = ltb-false _ _ l

refuses : (ps : List Said) (k : ℕ) → FirstBad ps k → outcome_of ps ≡ refused (suc k)
unfolding counted
refuses ps k f = refused_there ps k (by f.bad) f.there
  where
    least : k ≤ packs_before ps
    least = packs_least ps k (omega (arith, f.there)) f.before

    by : (get_or ps k None ≡ None) ⊎ (k ≡ 65535) → min (packs_before ps) 65535 ≡ k
    by (inl e) = omega (arith, least, no_pack ps k e, f.within)
    by (inr e) = omega (arith, least, e)

-- the first line that is not counted
first_bad : (ps : List Said) → counted ps < length ps → FirstBad ps (counted ps)
unfolding counted
first_bad ps h = record { there = h; bad = bad (ltb (packs_before ps) 65535) refl; before = λ i l. pack_before ps i (omega arith); within = omega arith }
  where
    bad : (t : Bool) → ltb (packs_before ps) 65535 ≡ t → (get_or ps (min (packs_before ps) 65535) None ≡ None) ⊎ (min (packs_before ps) 65535 ≡ 65535)
    bad true l =
        let e : min (packs_before ps) 65535 ≡ packs_before ps = omega (arith, ltb-true (packs_before ps) 65535 l) in
        inl (rw e (none_there ps (rw e at h)))
    bad false l = inr (omega (arith, ltb-false (packs_before ps) 65535 l))

-- what each outcome says
IsRefused : Outcome → ℕ → Type 0
IsRefused (report r) n = ⊥
IsRefused (refused m) n = m ≡ n

IsReport : Outcome → Report → Type 0
IsReport (report q) r = q ≡ r
IsReport (refused m) r = ⊥

refused_is : (o : Outcome) (n : ℕ) → o ≡ refused n → IsRefused o n
unfolding IsRefused
refused_is o n e = subst (λ (x : Outcome). IsRefused x n) (sym e) refl

report_is : (o : Outcome) (r : Report) → o ≡ report r → IsReport o r
unfolding IsReport
report_is o r e = subst (λ (x : Outcome). IsReport x r) (sym e) refl

refused_at : (ps : List Said) (n : ℕ) → outcome_of ps ≡ refused n → RefusedAt ps n
unfolding outcome_of when◌then◌else◌ IsRefused
refused_at ps n e = by (ltb (counted ps) (length ps)) refl (refused_is (outcome_of ps) n e)
  where
    by : (t : Bool) → ltb (counted ps) (length ps) ≡ t → IsRefused (when t then refused (suc (counted ps)) else report (report_of ps)) n → RefusedAt ps n
    by true l m = record { k = counted ps; number = sym m; first = first_bad ps (ltb-true _ _ l) }
    by false l m = absurd m

all_counted : (ps : List Said) → AllPacks ps → length ps ≤ 65535 → outcome_of ps ≡ report (report_of ps)
unfolding counted
all_counted ps all h = reported_there ps (omega (arith, all_before ps all))

reported : (ps : List Said) (r : Report) → outcome_of ps ≡ report r → AllPacks ps × (length ps ≤ 65535) × (r ≡ report_of ps)
unfolding outcome_of counted when◌then◌else◌ IsReport
reported ps r e = by (ltb (counted ps) (length ps)) refl (report_is (outcome_of ps) r e)
  where
    by : (t : Bool) → ltb (counted ps) (length ps) ≡ t → IsReport (when t then refused (suc (counted ps)) else report (report_of ps)) r
        → AllPacks ps × (length ps ≤ 65535) × (r ≡ report_of ps)
    by true l m = absurd m
    by false l m =
        let le : length ps ≤ min (packs_before ps) 65535 = ltb-false _ _ l in
        (before_all ps (omega (arith, packs_within ps)), omega arith, sym m)

pub refusals : Refusals
refusals = record { refuses = refuses; refused_at = refused_at; reports = all_counted; reported = reported }
