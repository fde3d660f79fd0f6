-- What the gauge does not take changes nothing: a transfer that is heard is acknowledged, or comes to the one effect of what is not taken.
-- Assumes nothing.
use Prim.Native.Nat.{ℕ}
use mathlib.Core.Path.{◌≡◌, refl}
use mathlib.Core.List.{List}
use Rattle.protocol.specs.Window.{in_window}
use Rattle.engine.specs.Made.{Made, write, read}
use Rattle.engine.specs.declared.bus.Outcome.TheVariants as outcome
use Rattle.model_gauge.specs.Frame.{read_frame}
use Rattle.model_gauge.specs.Gauge.{replies_to, Effect, untaken as nothing, heard_frame, heard_read, acts, effect_of}
use Rattle.model_gauge.specs.Untaken.{Untaken}
use Rattle.model_gauge.specs.declared.frame.Form.{Form}
use Rattle.model_gauge.specs.declared.frame.Form.TheVariants as form
use Rattle.model_gauge.specs.declared.gauge.Fate.{Fate}
use Rattle.model_gauge.specs.declared.gauge.Fate.TheVariants as fate
use Rattle.model_gauge.specs.declared.gauge.Gauge.{Gauge}
use Rattle.model_gauge.proofs.Laws.{whichever}

-- not taken, where it is not acknowledged
abbrev NotTaken : Gauge → List ℕ → Effect → Type 0
NotTaken gauge flash e = (e.outcome ≡ outcome.Acknowledged → ⊥) → e ≡ nothing gauge flash

frame_untaken : (f : Form) (frame : List ℕ) (gauge : Gauge) (flash : List ℕ) → NotTaken gauge flash (heard_frame f frame gauge flash)
unfolding heard_frame
frame_untaken (form.BlockWrite address count) frame gauge flash = whichever (NotTaken gauge flash) (in_window address count) _ _ (λ never. absurd (never refl)) (λ never. refl)
frame_untaken (form.Address address) frame gauge flash = whichever (NotTaken gauge flash) (in_window address 1) _ _ (λ never. absurd (never refl)) (λ never. refl)
frame_untaken form.Other frame gauge flash = λ never. refl

acts_untaken : (made : Made) (gauge : Gauge) (flash : List ℕ) → NotTaken gauge flash (acts made gauge flash)
unfolding acts heard_read
acts_untaken (write frame) gauge flash = frame_untaken (read_frame frame) frame gauge flash
acts_untaken (read command count) gauge flash = whichever (NotTaken gauge flash) (replies_to command count) _ _ (λ never. absurd (never refl)) (λ never. refl)

keeps : (f : Fate) (made : Made) (gauge : Gauge) (flash : List ℕ) → acts made gauge flash ≡ nothing gauge flash
    → ((effect_of f made gauge flash).flash ≡ flash) × ((effect_of f made gauge flash).gauge ≡ gauge)
unfolding effect_of
keeps fate.Heard made gauge flash e = (rw e, rw e)
keeps fate.LostBefore made gauge flash e = (refl, refl)
keeps fate.LostAfter made gauge flash e = (rw e, rw e)

-- what is not taken changes nothing
pub untaken : Untaken
unfolding acts heard_frame effect_of
untaken = record {
  other = λ frame flash gauge e. rw e;
  heard = acts_untaken;
  still = λ f made gauge flash never. keeps f made gauge flash (acts_untaken made gauge flash never);
}
