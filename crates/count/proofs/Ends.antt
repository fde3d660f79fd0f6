-- What is promised of the pieces of an input, at the ends of the program.
-- Assumes nothing.
use Prim.Native.Nat.{ℕ}
use mathlib.Core.Path.{◌≡◌, refl, ap, ◌∙◌, subst}
use mathlib.Core.Bool.{true}
use mathlib.Core.List.{List, [], ◌++◌}
use Rattle.packs.specs.declared.Sheet.{Sheet}
use Rattle.packs.specs.Count.{start_sheet, is_refused}
use Rattle.report.specs.Report.{text_of}
use Rattle.report.specs.Sheet.{outcome_in}
use Rattle.count_promises.specs.Packs.{printed_of}
use Rattle.count_promises.specs.Pieces.{taken_all, in_one}
use Rattle.count_promises.proofs.Pieces.{pieces}
use Rattle.count.specs.declared.Ending.{Ending}
use Rattle.count.specs.declared.Ending.TheVariants as ending
use Rattle.count.specs.declared.Stop.{Stop}
use Rattle.count.specs.Ending.{How, Stopped, text_by, text_at, Ends}

module _ (r : Stop) (d : Sheet) where
  at_whole : (c : Stopped r d) → r.ending ≡ ending.Whole → text_at r d ≡ printed_of (in_one c.pieces)
  unfolding text_at text_by printed_of
  at_whole c e = rw e (ap text_of (ap outcome_in c.taken ∙ pieces.ends c.pieces))

  at_refused : (c : Stopped r d) → r.ending ≡ ending.Refused → (more : List ℕ) → text_at r d ≡ printed_of (in_one c.pieces ++ more)
  unfolding text_at text_by printed_of
  at_refused c e more =
      let h : is_refused d.reader ≡ true = subst (λ (x : Ending). How x r.left d) e c.how in
      let k : is_refused (taken_all c.pieces start_sheet).reader ≡ true = subst (λ (v : Sheet). is_refused v.reader ≡ true) c.taken h in
      rw e (ap text_of (ap outcome_in c.taken ∙ pieces.stops c.pieces more k))

  at_failed : r.ending ≡ ending.Failed → text_at r d ≡ []
  unfolding text_at text_by
  at_failed e = rw e refl

  at_spent : r.ending ≡ ending.Spent → text_at r d ≡ []
  unfolding text_at text_by
  at_spent e = rw e refl

-- the statement
pub ends : Ends
ends = record { whole = at_whole; refused = at_refused; failed = at_failed; spent = at_spent }
