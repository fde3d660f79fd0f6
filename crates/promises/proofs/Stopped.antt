-- Stop anywhere: what every event keeps, a write keeps over every list of events.
-- Assumes nothing.
use Prim.Native.Nat.{ℕ, suc, ◌+◌, ◌*◌, ◌-◌, ◌≤◌, ◌<◌, min}
use mathlib.Core.Path.{◌≡◌, refl, sym, ap, ◌∙◌}
use mathlib.Core.Bool.{Bool, true, false}
use mathlib.Core.Logic.{inl, inr}
use mathlib.Core.List.{List, [], ◌∷◌}
use native.Mathlib.Omega.{arith}
use lib.Dec.{eqb, leb}
use lib.ListN.{length, drop, length-take, length-drop}
use borrow.Author.Tests.{eqb-true, eqb-false, leb-true, leb-false, ne_eqb, eq-eqb, le-ltb}
use Rattle.protocol.specs.Pick.{when◌then◌else◌}
use Rattle.protocol.specs.Bytes.{over, blocks_of}
use Rattle.protocol.specs.declared.common.Config.{Config}
use Rattle.protocol.specs.declared.error.Answer.{Answer}
use Rattle.protocol.specs.declared.error.Answer.TheVariants as answer
use Rattle.protocol.proofs.WindowLaws.{within}
use Rattle.engine.specs.Pick.{case◌retry◌spent◌}
use Rattle.engine.specs.Bus.{phase_after}
use Rattle.engine.specs.Budget.{failed as failedOf, nothing, tallied}
use Rattle.engine.specs.Limit.{windowed, measured, admitted}
use Rattle.engine.specs.declared.budget.Budget.{Budget}
use Rattle.engine.specs.declared.budget.Tally.{Tally}
use Rattle.engine.specs.declared.bus.Phase.{Phase}
use Rattle.engine.specs.declared.bus.Phase.TheVariants as phase
use Rattle.writing.specs.Frames.{is_flash, first_address, block_bytes}
use Rattle.writing.specs.Writing.{plan_of, start_of, gave_up, retry_of, end_of, fail_of}
use Rattle.r5.specs.Plans.{write_dataflash}
use Rattle.model_gauge.specs.Gauge.{stored}
use Rattle.promises.specs.Flash.{place_of, block_of, upto, Overlaid}
use Rattle.original.proofs.Laws.{missed}
use Rattle.promises.specs.Events.{Cause, Event, acknowledged, failed, unheard, each}
use Rattle.promises.specs.Writes.{WriteWorld, began, shows, step, run}
use Rattle.promises.specs.Demand3.{Answered, all_acked, some_acked, none_acked, Told, Promised, Accepted}
use Rattle.promises.proofs.Overlay.{overlaid_long, overlaid_none, landed}
use Rattle.promises.proofs.Store.{store_nothing}
use Rattle.promises.proofs.Bytes.{agree}
use Rattle.promises.proofs.Frames.{stores_block}
use Rattle.promises.proofs.Machine.{block_budget, why_of, why_number, world_at, call_at, frame_of, shows_block, shows_ended, laid_long, step_acknowledged, step_failed, step_unheard, made_ended}

-- ---- what the phases say

-- a call that waits has a block to send
abbrev pub ToldAt : ℕ → ℕ → ℕ → Phase → Type 0
ToldAt k n i phase.Waiting = i * k < n
ToldAt k n i (phase.Ended a) = Answered k n i a

-- once all blocks of n bytes are acknowledged the call is done, and before that it waits
told_after : (n i : ℕ) → ToldAt 32 n i (phase_after (blocks_of n) i)
unfolding phase_after when◌then◌else◌
told_after n i = by (leb (blocks_of n) i) refl
  where
    by : (t : Bool) → leb (blocks_of n) i ≡ t → ToldAt 32 n i (when t then phase.Ended answer.Done else phase.Waiting)
    by true t = let h : blocks_of n ≤ i = leb-true _ _ t in all_acked refl (omega arith)
    by false t = let h : i < blocks_of n = leb-false _ _ t in omega arith

-- a call that gives up says how much was acknowledged
told_gave_up : (n i : ℕ) (c : Cause) → i * 32 < n → Answered 32 n i (when eqb i 0 then why_of c else answer.PartialDataFlashWrite (i * 32))
unfolding when◌then◌else◌
told_gave_up n i c h = by c (eqb i 0) refl
  where
    by : (c : Cause) (t : Bool) → eqb i 0 ≡ t → Answered 32 n i (when t then why_of c else answer.PartialDataFlashWrite (i * 32))
    by c true t = none_acked (why_number c) (eqb-true i 0 t)
    by c false t = let some : i ≡ 0 → ⊥ = eqb-false i 0 t in some_acked refl refl (omega arith) h

-- what is promised of a world, but for the bytes
abbrev Kept : ℕ → List ℕ → List ℕ → WriteWorld → Type 0
Kept address payload flash w =
    Overlaid 32 (place_of address) payload flash w.acked w.flash × Told 32 (length payload) w.acked (shows payload w)

module _ (config : Config) (address : ℕ) (payload old : List ℕ) (n : ℕ) (room : 39 ≤ n) (whole : length old ≡ 8192)
    (low : 0x4000 ≤ address) (high : address + length payload ≤ 0x6000) where
  place : ℕ
  place = place_of address

  -- what every event keeps: the call has as many frames sent as there are blocks acknowledged, and the flash is the overlay of those
  pub record Going (w : WriteWorld) : Type 0 where
    pub at : Phase
    pub i : ℕ
    pub b : Budget
    pub t : Tally
    pub work : List ℕ
    pub flash : List ℕ
    pub is : w ≡ world_at config address payload n at i b t work flash
    pub long : length work ≡ n
    pub holds : Overlaid 32 (place_of address) payload old i flash
    pub told : ToldAt 32 (length payload) i at

  -- the block that is due, stored, is the next one over the old flash
  lands : (i : ℕ) (flash : List ℕ) → i * 32 < length payload → Overlaid 32 (place_of address) payload old i flash
      → stored (frame_of config address payload n i) flash ≡ upto 32 (place_of address) payload old (suc i)
  unfolding block_bytes
  lands i flash h v =
      let size : length flash ≡ 8192 = overlaid_long 32 (place_of address) payload old (omega arith) i flash v ∙ whole in
      let m : length (block_of 32 i payload) ≡ min 32 (length payload - i * 32) = length-take 32 (drop (i * 32) payload) ∙ ap (min 32) (length-drop (i * 32) payload) in
      let at : address + i * 32 - 0x4000 ≡ place_of address + i * 32 = omega arith in
      stores_block config.pec_write (address + i * 32) (block_of 32 i payload) (omega arith) (omega arith) (omega arith) (omega arith) flash size
      ∙ rw at (landed 32 (place_of address) payload old (omega arith) i flash h v)

  -- a failed attempt: the same block again, or the call gives up
  going_failed : (c : Cause) (i : ℕ) (b : Budget) (t : Tally) (work flash : List ℕ) → length work ≡ n → i * 32 < length payload
      → Overlaid 32 (place_of address) payload old i flash
      → Going (record { call = fail_of (call_at config address payload n phase.Waiting i b t) (why_of c); work = work; flash = flash; acked = i })
  unfolding fail_of failedOf case◌retry◌spent◌ retry_of end_of gave_up is_flash plan_of write_dataflash when◌then◌else◌
  going_failed c i b t work flash long h v = by (eqb b.left 0) refl
    where
      by : (z : Bool) → eqb b.left 0 ≡ z → Going (record { call = fail_of (call_at config address payload n phase.Waiting i b t) (why_of c); work = work; flash = flash; acked = i })
      by true z = rw z (record { at = phase.Ended (when eqb i 0 then why_of c else answer.PartialDataFlashWrite (i * 32)); i = i; b = b; t = t; work = work; flash = flash; is = refl; long = long; holds = v; told = told_gave_up (length payload) i c h })
      by false z = rw z (record { at = phase.Waiting; i = i; b = record { left = b.left - 1 }; t = missed config.growing_waits config.max_write_retries b.left t; work = work; flash = flash; is = refl; long = long; holds = v; told = h })

  going_at : (e : Event) (at : Phase) (i : ℕ) (b : Budget) (t : Tally) (work flash : List ℕ) → length work ≡ n
      → Overlaid 32 (place_of address) payload old i flash → ToldAt 32 (length payload) i at
      → Going (step payload e (world_at config address payload n at i b t work flash))
  going_at e (phase.Ended a) i b t work flash long v s =
      rw (made_ended config address payload n e [] a i b t work flash)
      (record { at = phase.Ended a; i = i; b = b; t = t; work = work; flash = flash; is = refl; long = long; holds = v; told = s })
  going_at acknowledged phase.Waiting i b t work flash long v s =
      rw (step_acknowledged config address payload n i b t work long room flash (omega arith))
      (record {
        at = phase_after (blocks_of (length payload)) (suc i);
        i = suc i;
        b = block_budget config;
        t = tallied t;
        work = over (frame_of config address payload n i) work;
        flash = stored (frame_of config address payload n i) flash;
        is = refl;
        long = laid_long config address payload n i b t work long room;
        holds = inl (lands i flash s v);
        told = told_after (length payload) (suc i);
      })
  going_at (failed c) phase.Waiting i b t work flash long v s =
      rw (step_failed config address payload n i b t work long room c flash)
      (going_failed c i b (tallied t) (over (frame_of config address payload n i) work) flash (laid_long config address payload n i b t work long room) s v)
  going_at (unheard c) phase.Waiting i b t work flash long v s =
      rw (step_unheard config address payload n i b t work long room c flash)
      (going_failed c i b (tallied t) (over (frame_of config address payload n i) work) (stored (frame_of config address payload n i) flash) (laid_long config address payload n i b t work long room) s (inr (lands i flash s v)))

  pub going_step : (e : Event) (w : WriteWorld) → Going w → Going (step payload e w)
  going_step e w g = rw g.is (going_at e g.at g.i g.b g.t g.work g.flash g.long g.holds g.told)

  pub going_run : (es : List Event) (w : WriteWorld) → Going w → Going (run payload es w)
  unfolding each
  going_run [] w g = g
  going_run (e ∷ es) w g = going_run es (step payload e w) (going_step e w g)

  -- what is shown
  shown_told : (p : Phase) (i : ℕ) (b : Budget) (t : Tally) (work flash : List ℕ) → length work ≡ n → ToldAt 32 (length payload) i p
      → Told 32 (length payload) i (shows payload (world_at config address payload n p i b t work flash))
  shown_told phase.Waiting i b t work flash long s = rw (shows_block config address payload n i b t work long room) s
  shown_told (phase.Ended a) i b t work flash long s = rw (shows_ended config address payload n a i b t (length work)) s

  -- what a write that keeps it is promised
  pub going_kept : (w : WriteWorld) → Going w → Kept address payload old w
  going_kept w g = rw g.is (g.holds, shown_told g.at g.i g.b g.t g.work g.flash g.long g.told)

-- ---- the start

-- an accepted write waits with its first block due, or is done where there is none
pub began_is : (config : Config) (address : ℕ) (payload work flash : List ℕ) → Accepted address payload work flash → (t : Bool) → eqb (length payload) 0 ≡ t
    → began config address payload work flash
    ≡ world_at config address payload (length work) (when t then phase.Ended answer.Done else phase.Waiting) 0 (block_budget config) nothing work flash
unfolding began start_of admitted measured windowed plan_of write_dataflash first_address when◌then◌else◌
began_is config address payload work flash a t e = rw (le-ltb (length work) 39 a.room, a.window, e)

-- what nothing in a list changes stays as it is over all of it
pub stays : {A W : Type 0} (does : A → W → W) (w : W) → ((one : A) → does one w ≡ w) → (all : List A) → each does all w ≡ w
unfolding each
stays does w same [] = refl
stays does w same (one ∷ all) = rw (same one) (stays does w same all)

-- an ended call stays as it is over every list of events
pub run_ended : (config : Config) (address : ℕ) (payload : List ℕ) (n : ℕ) (es : List Event) (a : Answer) (i : ℕ) (b : Budget) (t : Tally) (work flash : List ℕ)
    → run payload es (world_at config address payload n (phase.Ended a) i b t work flash) ≡ world_at config address payload n (phase.Ended a) i b t work flash
run_ended config address payload n es a i b t work flash =
    stays (step payload) (world_at config address payload n (phase.Ended a) i b t work flash) (λ e. made_ended config address payload n e [] a i b t work flash) es

-- an empty write has ended before its first transfer
pub run_empty : (config : Config) (address : ℕ) (payload work flash : List ℕ) → Accepted address payload work flash → length payload ≡ 0 → (es : List Event)
    → run payload es (began config address payload work flash)
    ≡ world_at config address payload (length work) (phase.Ended answer.Done) 0 (block_budget config) nothing work flash
unfolding when◌then◌else◌
run_empty config address payload work flash a none es =
    rw (began_is config address payload work flash a true (eq-eqb (length payload) 0 none)) (run_ended config address payload (length work) es answer.Done 0 _ _ work flash)

kept_empty : (config : Config) (address : ℕ) (payload work flash : List ℕ) → Accepted address payload work flash → length payload ≡ 0 → (es : List Event)
    → Kept address payload flash (run payload es (began config address payload work flash))
kept_empty config address payload work flash a none es =
    rw (run_empty config address payload work flash a none es) (
      inl (sym (store_nothing flash (place_of address))),
      rw (shows_ended config address payload (length work) answer.Done 0 (block_budget config) nothing (length work))
          (all_acked refl (omega arith)),
    )

module _ (config : Config) (address : ℕ) (payload work flash : List ℕ) (a : Accepted address payload work flash) (some : 0 < length payload) where
  -- a write that is not empty keeps what every event keeps
  pub going : (low : 0x4000 ≤ address) (high : address + length payload ≤ 0x6000) (es : List Event)
      → Going config address payload flash (length work) a.room a.whole low high (run payload es (began config address payload work flash))
  unfolding when◌then◌else◌
  going low high es =
      let t : eqb (length payload) 0 ≡ false = ne_eqb (length payload) 0 (λ e. omega arith) in
      let whole : length flash ≡ 8192 = a.whole in
      going_run config address payload flash (length work) a.room a.whole low high es (began config address payload work flash)
      (record {
        at = phase.Waiting;
        i = 0;
        b = block_budget config;
        t = nothing;
        work = work;
        flash = flash;
        is = began_is config address payload work flash a false t;
        long = refl;
        holds = overlaid_none 32 (place_of address) payload flash (omega arith);
        told = omega arith;
      })

  kept_some : (es : List Event) → Kept address payload flash (run payload es (began config address payload work flash))
  kept_some es =
      let w = within address (length payload) a.window some in
      going_kept config address payload flash (length work) a.room a.whole w.0 w.1 _ (going w.0 w.1 es)

-- STOP ANYWHERE
pub stopped : (config : Config) (address : ℕ) (payload work flash : List ℕ) → Accepted address payload work flash → (es : List Event)
    → Promised address payload flash (run payload es (began config address payload work flash))
stopped config address payload work flash a es =
    let k = by (eqb (length payload) 0) refl in
    record { overlay = k.0; bytes = (agree 32 address payload flash a.window a.whole _ _).0 k.0; told = k.1 }
  where
    by : (t : Bool) → eqb (length payload) 0 ≡ t → Kept address payload flash (run payload es (began config address payload work flash))
    by true t = kept_empty config address payload work flash a (eqb-true _ _ t) es
    by false t = let some : length payload ≡ 0 → ⊥ = eqb-false _ _ t in kept_some config address payload work flash a (omega arith) es
