-- What the machine hands out where it shows a write is the frame of the block that is due.
-- Assumes nothing.
use Prim.Native.Nat.{ℕ, ◌+◌, ◌*◌, ◌%◌, ◌≤◌, ◌<◌}
use mathlib.Core.Path.{◌≡◌, refl, sym, ap, ◌∙◌}
use mathlib.Core.Bool.{Bool, true, false}
use mathlib.Core.List.{List}
use native.Mathlib.Omega.{arith}
use lib.Dec.{eqb}
use lib.ListN.{length, take, drop, length-take}
use borrow.Author.Tests.{eqb-true, eqb-false}
use Rattle.protocol.specs.Frame.{sealed, pair_of, mac_bytes}
use Rattle.protocol.specs.declared.common.Config.{Config}
use Rattle.protocol.specs.declared.error.Answer.TheVariants as answer
use Rattle.protocol.proofs.WindowLaws.{within}
use Rattle.engine.specs.Budget.{nothing}
use Rattle.engine.specs.declared.budget.Budget.{Budget}
use Rattle.engine.specs.declared.budget.Tally.{Tally}
use Rattle.engine.specs.declared.bus.Phase.{Phase}
use Rattle.engine.specs.declared.bus.Phase.TheVariants as phase
use Rattle.engine.specs.declared.bus.Transfer.{Transfer}
use Rattle.engine.specs.declared.bus.Transfer.TheVariants as transfer
use Rattle.writing.specs.Frames.{block_bytes}
use Rattle.promises.specs.Flash.{block_frame}
use Rattle.promises.specs.Events.{Event}
use Rattle.promises.specs.Writes.{WriteWorld, began, shows, handed, run}
use Rattle.promises.specs.Demand3.{Accepted}
use Rattle.promises.proofs.Machine.{world_at, frame_of, shows_block, lays, hands_out, shows_ended}
use Rattle.promises.proofs.Stopped.{going, run_empty}

-- how many bytes a transfer sends
abbrev sends : Transfer → ℕ
sends (transfer.Write n) = n
sends (transfer.Read command count) = 0
sends (transfer.Refused a) = 0
sends (transfer.Ended a) = 0

-- 1 for a write
abbrev writing : Transfer → ℕ
writing (transfer.Write n) = 1
writing (transfer.Read command count) = 0
writing (transfer.Refused a) = 0
writing (transfer.Ended a) = 0

-- the machine's frame is document 01's: a count of at most 34 is a byte
framed : (pec : Bool) (address i : ℕ) (payload : List ℕ) → sealed pec (block_bytes address i payload) ≡ block_frame pec address i payload
unfolding sealed block_bytes mac_bytes pair_of
framed pec address i payload =
    let short : length (take 32 (drop (i * 32) payload)) ≤ 32 = rw length-take (omega arith) in
    let count : (length (take 32 (drop (i * 32) payload)) + 2) % 256 ≡ length (take 32 (drop (i * 32) payload)) + 2 = omega arith in
    rw count

module _ (config : Config) (address : ℕ) (payload : List ℕ) where
  abbrev Hands : WriteWorld → Type 0
  Hands w = (m : ℕ) → shows payload w ≡ transfer.Write m → handed payload m w ≡ block_frame config.pec_write address w.acked payload

  module _ (n : ℕ) (room : 39 ≤ n) where
    hands_at : (p : Phase) (i : ℕ) (b : Budget) (t : Tally) (work flash : List ℕ) → length work ≡ n → Hands (world_at config address payload n p i b t work flash)
    hands_at phase.Waiting i b t work flash long m s =
        let size : length (frame_of config address payload n i) ≡ m = ap sends (sym (shows_block config address payload n i b t work long room) ∙ s) in
        rw (lays config address payload n i b t work long room, ← size) (hands_out config address payload n i b t work long room ∙ framed config.pec_write address i payload)
    hands_at (phase.Ended a) i b t work flash long m s =
        let none : writing (transfer.Ended a) ≡ writing (transfer.Write m) = ap writing (sym (shows_ended config address payload n a i b t (length work)) ∙ s) in
        absurd (omega arith)

-- THE FRAMES THAT ARE SHOWN
pub frames : (config : Config) (address : ℕ) (payload work flash : List ℕ) → Accepted address payload work flash → (es : List Event) (n : ℕ)
    → shows payload (run payload es (began config address payload work flash)) ≡ transfer.Write n
    → handed payload n (run payload es (began config address payload work flash))
    ≡ block_frame config.pec_write address (run payload es (began config address payload work flash)).acked payload
frames config address payload work flash a es = by (eqb (length payload) 0) refl
  where
    by : (t : Bool) → eqb (length payload) 0 ≡ t → Hands config address payload (run payload es (began config address payload work flash))
    by true t =
        rw (run_empty config address payload work flash a (eqb-true _ _ t) es)
        (hands_at config address payload (length work) a.room (phase.Ended answer.Done) 0 _ nothing work flash refl)
    by false t =
        let none : length payload ≡ 0 → ⊥ = eqb-false _ _ t in
        let some : 0 < length payload = omega arith in
        let w = within address (length payload) a.window some in
        let g = going config address payload work flash a some w.0 w.1 es in
        rw g.is (hands_at config address payload (length work) a.room g.at g.i g.b g.t g.work g.flash g.long)
