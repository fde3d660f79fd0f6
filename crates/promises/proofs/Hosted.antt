-- What each thing that a host does keeps, it keeps over all that it does.
-- Assumes nothing.
use Prim.Native.Nat.{ℕ}
use mathlib.Core.Path.{◌≡◌, refl}
use mathlib.Core.Bool.{Bool, true, false}
use mathlib.Core.Logic.{◌⊎◌, inl, inr}
use mathlib.Core.List.{List, [], ◌∷◌}
use lib.Dec.{eqb}
use borrow.Author.Tests.{ne_eqb}
use Rattle.engine.specs.Bus.{fits_of}
use Rattle.engine.specs.declared.bus.Transfer.{Transfer}
use Rattle.engine.specs.declared.bus.Transfer.TheVariants as transfer
use Rattle.promises.specs.Events.{Event, each}
use Rattle.promises.specs.Host.{Doing, transfers, reports, events, Allowed}

-- 1 for an answer
abbrev pub answers : Transfer → ℕ
answers (transfer.Write n) = 0
answers (transfer.Read command count) = 0
answers (transfer.Refused a) = 0
answers (transfer.Ended a) = 1

-- other lengths than the start's do not fit
pub not_fits : (n w lent work : ℕ) → (lent ≡ n → ⊥) ⊎ (work ≡ w → ⊥) → fits_of (record { length = n; work = w }) lent work ≡ false
unfolding fits_of
not_fits n w lent work (inl other) = rw (ne_eqb lent n other)
not_fits n w lent work (inr other) = by (eqb lent n) refl
  where
    by : (z : Bool) → eqb lent n ≡ z → fits_of (record { length = n; work = w }) lent work ≡ false
    by true z = rw (z, ne_eqb work w other)
    by false z = rw z

-- beside a run over the events alone: each transfer leaves what its event leaves, and a report in between leaves what was there
module _ {W : Type 0} (step : Event → W → W) (does : Doing → W → W) (May : Doing → W → Type 0) (Keeps : W → Type 0) (Like : W → W → Type 0)
    (on : (e : Event) (w : W) → Keeps w → Keeps (step e w))
    (by : (d : Doing) (v w : W) → May d v → Keeps w → Like v w → Like (does d v) (each step (events (d ∷ [])) w)) where
  pub hosted_run : (ds : List Doing) (v w : W) → Allowed does May ds v → Keeps w → Like v w → Like (each does ds v) (each step (events ds) w)
  unfolding each
  hosted_run [] v w allowed k like = like
  hosted_run (transfers e work beside ∷ ds) v w allowed k like =
      hosted_run ds (does (transfers e work beside) v) (step e w) allowed.1 (on e w k) (by (transfers e work beside) v w allowed.0 k like)
  hosted_run (reports o reply lent work ∷ ds) v w allowed k like =
      hosted_run ds (does (reports o reply lent work) v) w allowed.1 k (by (reports o reply lent work) v w allowed.0 k like)
