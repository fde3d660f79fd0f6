-- What follows over packs that have room on a line.
-- Assumes nothing.
use Prim.Native.Nat.{suc, ◌+◌, ◌*◌, ◌≤◌}
use mathlib.Core.Path.{◌≡◌, refl, ap}
use mathlib.Core.List.{List, [], ◌∷◌, ◌++◌}
use native.Mathlib.Omega.{arith}
use lib.ListN.{length}
use Rattle.std.specs.Prelude.{Some, None}
use Rattle.packs.specs.Said.{Said}
use Rattle.packs.specs.declared.Pack.TheVariants as pack
use Rattle.count_promises.specs.Packs.{cycles_in, answers_in, total, packs_before}
use Rattle.count_promises.specs.Lines.{Fits, AllFit}

pub fit_more : (ps : List Said) (p : Said) → AllFit ps → Fits p → AllFit (ps ++ (p ∷ []))
fit_more [] p h f = (f, tt)
fit_more (q ∷ ps) p h f = (h.0, fit_more ps p h.1 f)

-- each is a pack
pub fit_before : (ps : List Said) → AllFit ps → packs_before ps ≡ length ps
unfolding packs_before
fit_before [] h = refl
fit_before (Some (pack.Read cycles) ∷ ps) h = ap suc (fit_before ps h.1)
fit_before (Some (pack.Unread answer) ∷ ps) h = ap suc (fit_before ps h.1)
fit_before (None ∷ ps) h = absurd h.0

-- each is read or unread
pub seen_all : (ps : List Said) → AllFit ps → length ps ≡ length (cycles_in ps) + length (answers_in ps)
unfolding cycles_in answers_in
seen_all [] h = refl
seen_all (Some (pack.Read cycles) ∷ ps) h = omega (arith, seen_all ps h.1)
seen_all (Some (pack.Unread answer) ∷ ps) h = omega (arith, seen_all ps h.1)
seen_all (None ∷ ps) h = absurd h.0

-- none has more than 65,535 cycles
pub sum_most : (ps : List Said) → AllFit ps → total (cycles_in ps) ≤ 65535 * length (cycles_in ps)
unfolding cycles_in total
sum_most [] h = omega arith
sum_most (Some (pack.Read cycles) ∷ ps) h = omega (arith, h.0, sum_most ps h.1)
sum_most (Some (pack.Unread answer) ∷ ps) h = sum_most ps h.1
sum_most (None ∷ ps) h = absurd h.0
