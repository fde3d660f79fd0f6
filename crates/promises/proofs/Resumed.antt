-- Go on: each go leaves less to do, and the last one leaves what one clean write would; and that is what a write leaves whose every transfer is acknowledged.
-- Assumes nothing.
use Prim.Native.Nat.{ℕ, zero, suc, ◌+◌, ◌*◌, ◌≤◌, ◌<◌}
use mathlib.Core.Path.{◌≡◌, refl, sym, ap, subst, ◌∙◌}
use mathlib.Core.Bool.{Bool, true, false}
use mathlib.Core.Logic.{inl, inr}
use mathlib.Core.List.{List}
use native.Mathlib.Omega.{arith}
use native.Mathlib.Nat.{add-zero}
use lib.Dec.{eqb, leb}
use lib.ListN.{length, drop, length-drop, replicate}
use borrow.Author.Tests.{eqb-true, eqb-false, leb-false}
use Rattle.protocol.specs.Pick.{when◌then◌else◌}
use Rattle.protocol.specs.Bytes.{over, blocks_of}
use Rattle.protocol.specs.Answer.{number_of}
use Rattle.protocol.specs.Window.{in_window}
use Rattle.protocol.specs.declared.common.Config.{Config}
use Rattle.protocol.specs.declared.error.Answer.{Answer}
use Rattle.protocol.specs.declared.error.Answer.TheVariants as answer
use Rattle.protocol.proofs.WindowLaws.{within, window_rest}
use Rattle.engine.specs.Pick.{case◌waiting◌ended◌}
use Rattle.engine.specs.Bus.{phase_after}
use Rattle.engine.specs.Budget.{nothing, tallied}
use Rattle.engine.specs.declared.budget.Budget.{Budget}
use Rattle.engine.specs.declared.budget.Tally.{Tally}
use Rattle.engine.specs.declared.bus.Phase.{Phase}
use Rattle.engine.specs.declared.bus.Phase.TheVariants as phase
use Rattle.engine.specs.declared.bus.Transfer.{Transfer}
use Rattle.engine.specs.declared.bus.Transfer.TheVariants as transfer
use Rattle.writing.specs.Writing.{next_of}
use Rattle.writing.specs.declared.call.WriteCall.{WriteCall}
use Rattle.model_gauge.specs.Gauge.{stored}
use Rattle.courses.specs.declared.course.End.{End}
use Rattle.courses.specs.declared.course.End.TheVariants as end
use Rattle.promises.specs.Flash.{place_of, Overlaid}
use Rattle.promises.specs.Events.{acknowledged, each}
use Rattle.promises.specs.Writes.{WriteWorld, began, shows, run}
use Rattle.promises.specs.Demand3.{clean, Answered, all_acked, some_acked, none_acked, Told, Promised, end_in, Tells, EndedWell, given_count, Goes, ended_well, went_on, started_over, GoOver, Accepted}
use Rattle.promises.proofs.Overlay.{overlaid_all, overlaid_rest}
use Rattle.promises.proofs.Store.{store_empty}
use Rattle.promises.proofs.Bytes.{nothing_over}
use Rattle.promises.proofs.Machine.{block_budget, world_at, frame_of, laid_long, step_acknowledged}
use Rattle.promises.proofs.Stopped.{began_is, run_ended, run_empty, stopped}

-- the count that is given is of acknowledged bytes
count_acked : (n i : ℕ) (a : Answer) → Answered 32 n i a → (given_count a ≤ i * 32) × (given_count a ≤ n)
unfolding when◌then◌else◌
count_acked n i a (all_acked z h) = rw z (omega arith, omega arith)
count_acked n i a (some_acked z e p h) = rw (z, e) (omega arith, omega arith)
count_acked n i a (none_acked (inl z) e) = rw z (omega arith, omega arith)
count_acked n i a (none_acked (inr z) e) = rw z (omega arith, omega arith)

-- a call that ended well has had every block acknowledged
done_all : (n i : ℕ) (a : Answer) → number_of a ≡ 0 → Answered 32 n i a → n ≤ i * 32
done_all n i a w (all_acked z h) = h
done_all n i a w (some_acked z e p h) = absurd (omega arith)
done_all n i a w (none_acked (inl z) e) = absurd (omega arith)
done_all n i a w (none_acked (inr z) e) = absurd (omega arith)

well_all : (n i : ℕ) (e : End) → EndedWell e → Tells 32 n i e → n ≤ i * 32
well_all n i end.Cut w s = absurd w
well_all n i (end.Answered a) w s = done_all n i a w s

-- over what a stopped write left, a write of the bytes past any part of what was acknowledged leaves what one clean write would
clean_rest : (address : ℕ) (payload flash : List ℕ) → in_window address (length payload) ≡ true → length flash ≡ 8192
    → (i b : ℕ) (now : List ℕ) → b ≤ i * 32 → b ≤ length payload → Overlaid 32 (place_of address) payload flash i now
    → clean (address + b) (drop b payload) now ≡ clean address payload flash
clean_rest address payload flash win whole i b now h l v = by (eqb (length payload) 0) refl
  where
    by : (t : Bool) → eqb (length payload) 0 ≡ t → clean (address + b) (drop b payload) now ≡ clean address payload flash
    by true t =
        let none : length payload ≡ 0 = eqb-true _ _ t in
        store_empty now (place_of (address + b)) (drop b payload) (length-drop b payload ∙ omega arith)
        ∙ nothing_over 32 address payload flash none whole i now v ∙ sym (store_empty flash (place_of address) payload none)
    by false t =
        let some : length payload ≡ 0 → ⊥ = eqb-false _ _ t in
        let w = within address (length payload) win (omega arith) in
        let low : 0x4000 ≤ address = w.0 in
        let high : address + length payload ≤ 0x6000 = w.1 in
        let place : place_of (address + b) ≡ place_of address + b = omega arith in
        rw place (overlaid_rest 32 (place_of address) payload flash (omega arith) i b now h l v)

-- the next go is inside the window, and a clean write of it is a clean write of all
rest_goes : (address : ℕ) (payload flash : List ℕ) → in_window address (length payload) ≡ true → length flash ≡ 8192
    → (i : ℕ) (a : Answer) (now : List ℕ) → Answered 32 (length payload) i a → Overlaid 32 (place_of address) payload flash i now
    → (in_window (address + given_count a) (length (drop (given_count a) payload)) ≡ true)
    × (clean (address + given_count a) (drop (given_count a) payload) now ≡ clean address payload flash)
rest_goes address payload flash win whole i a now told v =
    let small = count_acked (length payload) i a told in (
      rw (length-drop (given_count a) payload) (window_rest address (length payload) (given_count a) win small.1),
      clean_rest address payload flash win whole i (given_count a) now small.0 small.1 v,
    )

-- a write of all of it again
over_goes : (address : ℕ) (payload flash : List ℕ) → in_window address (length payload) ≡ true → length flash ≡ 8192
    → (i : ℕ) (now : List ℕ) → Overlaid 32 (place_of address) payload flash i now → clean address payload now ≡ clean address payload flash
over_goes address payload flash win whole i now v =
    rw (add-zero address) at (clean_rest address payload flash win whole i 0 now (omega arith) (omega arith) v)

-- what a go leaves: i blocks acknowledged, the flash as an overlay of them, no byte more or fewer, and what its end says
abbrev pub LeftBy : ℕ → List ℕ → List ℕ → End → List ℕ → Type 0
LeftBy address payload flash e now = (i : ℕ) × Overlaid 32 (place_of address) payload flash i now × (length now ≡ length flash) × Tells 32 (length payload) i e

-- where every go leaves that, each leaves less to do, and the last one leaves what one clean write would
module _ (Go : ℕ → List ℕ → List ℕ → End → List ℕ → Type 0)
    (leaves : (address : ℕ) (payload flash : List ℕ) (e : End) (now : List ℕ) → in_window address (length payload) ≡ true → length flash ≡ 8192
    → Go address payload flash e now → LeftBy address payload flash e now) where
  pub goes : {address : ℕ} {payload flash after : List ℕ} → in_window address (length payload) ≡ true → length flash ≡ 8192
      → Goes Go address payload flash after → after ≡ clean address payload flash
  goes {address} {payload} {flash} {after} win whole (ended_well e w g) =
      let l = leaves address payload flash e after win whole g in
      overlaid_all 32 (place_of address) payload flash l.0 after (well_all (length payload) l.0 e w l.3) l.1
  goes {address} {payload} {flash} {after} win whole (went_on {now = now} a g on) =
      let l = leaves address payload flash (end.Answered a) now win whole g in
      let r = rest_goes address payload flash win whole l.0 a now l.3 l.1 in
      goes {address = address + given_count a} {payload = drop (given_count a) payload} {flash = now} r.0 (l.2 ∙ whole) on ∙ r.1
  goes {address} {payload} {flash} {after} win whole (started_over {now = now} g on) =
      let l = leaves address payload flash end.Cut now win whole g in
      goes {address = address} {payload = payload} {flash = now} win (l.2 ∙ whole) on ∙ over_goes address payload flash win whole l.0 now l.1

-- what the machine shows, as a stop
told_end : (k n i : ℕ) (t : Transfer) → Told k n i t → Tells k n i (end_in t)
told_end k n i (transfer.Write count) h = h
told_end k n i (transfer.Read command count) h = absurd h
told_end k n i (transfer.Refused a) h = absurd h
told_end k n i (transfer.Ended a) h = h

over_leaves : (address : ℕ) (payload flash : List ℕ) (e : End) (now : List ℕ) → in_window address (length payload) ≡ true → length flash ≡ 8192
    → GoOver address payload flash e now → LeftBy address payload flash e now
over_leaves address payload flash e now win whole g =
    let w : WriteWorld = run payload g.es (began g.config address payload g.work flash) in
    let s : Promised address payload flash w = stopped g.config address payload g.work flash (record { window = win; room = g.room; whole = whole }) g.es in (
      w.acked,
      subst (Overlaid 32 (place_of address) payload flash w.acked) (sym g.leaves) s.overlay,
      ap length g.leaves ∙ s.bytes.size,
      subst (Tells 32 (length payload) w.acked) (sym g.ends) (told_end 32 (length payload) w.acked (shows payload w) s.told),
    )

-- GO ON, any number of times
pub resumed : (address : ℕ) (payload flash after : List ℕ) → in_window address (length payload) ≡ true → length flash ≡ 8192
    → Goes GoOver address payload flash after → after ≡ clean address payload flash
resumed address payload flash after win whole g = goes GoOver over_leaves win whole g

-- ---- the clean write

module _ (config : Config) (address : ℕ) (payload : List ℕ) (n : ℕ) (room : 39 ≤ n) (few : length payload ≤ 8192) where
  -- each acknowledgement brings the next block, until there is none
  all_heard : (m i : ℕ) (b : Budget) (t : Tally) (work flash : List ℕ) → length work ≡ n → i * 32 < length payload → length payload ≤ (i + m) * 32
      → (run payload (replicate m acknowledged) (world_at config address payload n phase.Waiting i b t work flash)).call.phase ≡ phase.Ended answer.Done
  unfolding each phase_after when◌then◌else◌
  all_heard zero i b t work flash long h l = absurd (omega arith)
  all_heard (suc m) i b t work flash long h l =
      ap (λ (w : WriteWorld). (run payload (replicate m acknowledged) w).call.phase) (step_acknowledged config address payload n i b t work long room flash (omega arith))
      ∙ (by (leb (blocks_of (length payload)) (suc i)) refl
      (λ k. all_heard m (suc i) (block_budget config) (tallied t) (over (frame_of config address payload n i) work) (stored (frame_of config address payload n i) flash)
      (laid_long config address payload n i b t work long room) (omega arith) (omega arith)))
    where
      next : Phase → WriteWorld
      next p = world_at config address payload n p (suc i) (block_budget config) (tallied t) (over (frame_of config address payload n i) work) (stored (frame_of config address payload n i) flash)

      by : (z : Bool) → leb (blocks_of (length payload)) (suc i) ≡ z
          → (suc i < blocks_of (length payload) → (run payload (replicate m acknowledged) (next phase.Waiting)).call.phase ≡ phase.Ended answer.Done)
          → (run payload (replicate m acknowledged) (next (when z then phase.Ended answer.Done else phase.Waiting))).call.phase ≡ phase.Ended answer.Done
      by true z more =
          ap (λ (w : WriteWorld). w.call.phase) (run_ended config address payload n (replicate m acknowledged) answer.Done (suc i) _ (tallied t) _ _)
      by false z more = more (leb-false _ _ z)

shows_done : (call : WriteCall) (payload : List ℕ) (w : ℕ) → call.phase ≡ phase.Ended answer.Done → next_of call payload w ≡ transfer.Ended answer.Done
unfolding next_of case◌waiting◌ended◌
shows_done call payload w e = rw e

-- and that is what a write leaves whose every transfer is acknowledged
pub unbroken : (config : Config) (address : ℕ) (payload work flash : List ℕ) → Accepted address payload work flash
    → (n : ℕ) → length payload ≤ n * 32
    → EndedWell (end_in (shows payload (run payload (replicate n acknowledged) (began config address payload work flash))))
    × ((run payload (replicate n acknowledged) (began config address payload work flash)).flash ≡ clean address payload flash)
unfolding when◌then◌else◌
unbroken config address payload work flash a n l =
    let w : WriteWorld = run payload (replicate n acknowledged) (began config address payload work flash) in
    let shown : shows payload w ≡ transfer.Ended answer.Done = shows_done w.call payload (length w.work) (done_at (eqb (length payload) 0) refl) in
    let e : EndedWell (end_in (shows payload w)) = rw shown refl in (
      e,
      resumed address payload flash (run payload (replicate n acknowledged) (began config address payload work flash)).flash a.window a.whole
          (ended_well (end_in (shows payload w)) e (record { config = config; work = work; es = replicate n acknowledged; room = a.room; ends = refl; leaves = refl })),
    )
  where
    done_at : (t : Bool) → eqb (length payload) 0 ≡ t → (run payload (replicate n acknowledged) (began config address payload work flash)).call.phase ≡ phase.Ended answer.Done
    done_at true t = ap (λ (w : WriteWorld). w.call.phase) (run_empty config address payload work flash a (eqb-true _ _ t) (replicate n acknowledged))
    done_at false t =
        let some : length payload ≡ 0 → ⊥ = eqb-false _ _ t in
        let w = within address (length payload) a.window (omega arith) in
        rw (began_is config address payload work flash a false t)
        (all_heard config address payload (length work) a.room (omega arith) n 0 _ nothing work flash refl (omega arith) (omega arith))
