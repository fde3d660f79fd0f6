-- The outcome where the packs so far are good, by what follows them.
-- Assumes nothing.
use Prim.Native.Nat.{suc, ◌+◌, ◌≤◌, min}
use mathlib.Core.Path.{◌≡◌, refl}
use mathlib.Core.List.{List, ◌∷◌, ◌++◌}
use native.Mathlib.Omega.{arith}
use lib.ListN.{length, length-append}
use borrow.Author.Tests.{lt-ltb, le-ltb}
use Rattle.protocol.specs.Pick.{when◌then◌else◌}
use Rattle.std.specs.Prelude.{None}
use Rattle.packs.specs.Said.{Said}
use Rattle.report.specs.Report.{report, refused}
use Rattle.count_promises.specs.Packs.{packs_before, counted, outcome_of, report_of}
use Rattle.count_promises.specs.Lines.{AllFit}
use Rattle.count_promises.proofs.Lists.{before_append}
use Rattle.count_promises.proofs.Fits.{fit_before}

module _ (ps : List Said) (fits : AllFit ps) where
  pub all_outcome : length ps ≤ 65535 → outcome_of ps ≡ report (report_of ps)
  unfolding outcome_of counted when◌then◌else◌
  all_outcome h =
      let e = fit_before ps fits in
      rw (le-ltb (min (packs_before ps) 65535) (length ps) (omega arith)) refl

  -- a line that is no pack
  pub bad_outcome : (rest : List Said) → length ps ≤ 65535 → outcome_of (ps ++ None ∷ rest) ≡ refused (suc (length ps))
  unfolding outcome_of counted packs_before when◌then◌else◌
  bad_outcome rest h =
      let e : packs_before (ps ++ None ∷ rest) ≡ length ps + 0 = before_append ps (None ∷ rest) (fit_before ps fits) in
      let n : length (ps ++ None ∷ rest) ≡ length ps + suc (length rest) = length-append ps (None ∷ rest) in
      let k : min (packs_before (ps ++ None ∷ rest)) 65535 ≡ length ps = omega arith in
      rw (k, lt-ltb (length ps) (length (ps ++ None ∷ rest)) (omega arith)) refl

  -- a line after 65,535
  pub full_outcome : (p : Said) (rest : List Said) → length ps ≡ 65535 → outcome_of (ps ++ p ∷ rest) ≡ refused (suc (length ps))
  unfolding outcome_of counted when◌then◌else◌
  full_outcome p rest h =
      let e : packs_before (ps ++ p ∷ rest) ≡ length ps + packs_before (p ∷ rest) = before_append ps (p ∷ rest) (fit_before ps fits) in
      let n : length (ps ++ p ∷ rest) ≡ length ps + suc (length rest) = length-append ps (p ∷ rest) in
      let k : min (packs_before (ps ++ p ∷ rest)) 65535 ≡ length ps = omega arith in
      rw (k, lt-ltb (length ps) (length (ps ++ p ∷ rest)) (omega arith)) refl
