-- The writing calls of one frame.
-- Assumes nothing.
use Prim.Native.Nat.{ℕ, ◌≤◌, ◌<◌}
use mathlib.Core.Path.{◌≡◌, refl, ◌∙◌}
use mathlib.Core.List.{List}
use mathlib.Core.Bool.{Bool, true, false}
use native.Mathlib.Omega.{arith}
use lib.ListN.{length}
use lib.Dec.{ltb}
use borrow.Author.Tests.{ltb-false}
use Rattle.protocol.specs.Pick.{when◌then◌else◌}
use Rattle.protocol.specs.declared.error.Answer.TheVariants as answer
use Rattle.engine.specs.Limit.{measured}
use Rattle.engine.specs.declared.limit.Limit.TheVariants as limit
use Rattle.engine.specs.declared.bus.Phase.TheVariants as phase
use Rattle.writing.specs.Frames.{is_flash, first_address, bytes_at, frame_count}
use Rattle.writing.specs.Writing as writing
use Rattle.writing.specs.declared.frames.Frames.{Frames}
use Rattle.writing.specs.declared.call.WritePlan.{WritePlan}
use Rattle.original.specs.Bus.{BusOutcome, begun, Came, Ok, Err, Waiting, settle}
use Rattle.original.specs.Fed.{Lending, Lends, answered, writes}
use Rattle.original.specs.OriginalInterface.{write_with_retries_internal}
use Rattle.original.proofs.Laws.{measure}
use Rattle.original.proofs.WriteTurns.{own, frame_at, each, frames_in_turn, no_frame}

-- the first frame that fails gives its own error
first_error : (fs : Frames) (x : Came) → settle (λ log outcomes. Ok log outcomes) (writing.gave_up fs 0) x ≡ x
unfolding settle writing.gave_up when◌then◌else◌
first_error fs (Ok log outcomes) = refl
first_error fs (Err e log outcomes) = by (is_flash fs)
  where
    by : (flash : Bool) → Err (when flash then e else e) log outcomes ≡ Err e log outcomes
    by true = refl
    by false = refl
first_error fs (Waiting log) = refl

module _ (plan : WritePlan) (payload : List ℕ) (w : ℕ) (lent : ℕ → Lending) (steady : Lends w lent) (small : plan.retries ≤ 65535) (roomy : 39 ≤ w) (single : frame_count plan.frames (length payload) ≡ 1) where
  pub one_frame : (outcomes : List BusOutcome) → measured plan.limit (first_address plan.frames) (length payload) ≡ phase.Waiting → (own plan payload w ≡ false → length (bytes_at plan.frames 0 payload) < w)
      → writes plan payload w lent outcomes ≡ write_with_retries_internal plan.retries (frame_at plan payload w 0) begun outcomes
  unfolding each
  one_frame outcomes a h =
      let room : (i : ℕ) → i < frame_count plan.frames (length payload) → own plan payload w ≡ false → length (bytes_at plan.frames i payload) < w
      = λ i j o. (let z : i ≡ 0 = omega arith in rw z (h o)) in
      frames_in_turn plan payload w lent steady room (omega arith) small 0 outcomes single (measure plan.limit (first_address plan.frames) (length payload) w roomy ∙ a)
      ∙ first_error plan.frames (write_with_retries_internal plan.retries (frame_at plan payload w 0) begun outcomes)

  -- too long a payload is refused before any transfer
  pub limited : (most : ℕ) (outcomes : List BusOutcome) → plan.limit ≡ limit.AtMost most → (length payload ≤ most → length (bytes_at plan.frames 0 payload) < w) → (t : Bool) → ltb most (length payload) ≡ t
      → writes plan payload w lent outcomes
      ≡ (when ltb most (length payload) then Err answer.DataTooLarge begun outcomes else write_with_retries_internal plan.retries (frame_at plan payload w 0) begun outcomes)
  unfolding measured answered when◌then◌else◌
  limited most outcomes l h true t =
      let e : measured plan.limit (first_address plan.frames) (length payload) ≡ phase.Ended answer.DataTooLarge = rw (l, t) in
      no_frame plan payload w lent answer.DataTooLarge outcomes (measure plan.limit (first_address plan.frames) (length payload) w roomy ∙ e) ∙ rw t
  limited most outcomes l h false t =
      let e : measured plan.limit (first_address plan.frames) (length payload) ≡ phase.Waiting = rw (l, t) in
      one_frame outcomes e (λ o. h (ltb-false most (length payload) t)) ∙ rw t
