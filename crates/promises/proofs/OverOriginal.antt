-- The machine, fed the outcomes of the events, makes the transfers that the run lays over the flash; and demand 2 says that they are the Rust's.
-- Assumes nothing.
use Prim.Native.Nat.{ℕ, ◌+◌, ◌≤◌, ◌<◌}
use mathlib.Core.Path.{◌≡◌, refl, sym, ap, subst, ◌∙◌}
use mathlib.Core.Bool.{Bool, true, false}
use mathlib.Core.List.{List, [], ◌∷◌, ◌++◌, append_assoc, append-nil}
use native.Mathlib.Omega.{arith}
use lib.Dec.{eqb}
use lib.ListN.{length}
use borrow.Author.Tests.{eqb-true, eqb-false}
use Rattle.protocol.specs.Common.{TwoByteBudgets}
use Rattle.protocol.specs.Pick.{when◌then◌else◌}
use Rattle.protocol.specs.Answer.{number_of}
use Rattle.protocol.specs.declared.common.Side.TheVariants as side
use Rattle.protocol.specs.declared.common.Config.{Config}
use Rattle.protocol.specs.declared.error.Answer.{Answer}
use Rattle.protocol.specs.declared.error.Answer.TheVariants as answer
use Rattle.protocol.proofs.AnswerLaws.{done_only}
use Rattle.protocol.proofs.WindowLaws.{within}
use Rattle.engine.specs.Pick.{case◌waiting◌ended◌, case◌acknowledged◌error◌timeout◌}
use Rattle.engine.specs.Budget.{nothing, tallied}
use Rattle.engine.specs.declared.budget.Budget.{Budget}
use Rattle.engine.specs.declared.budget.Tally.{Tally}
use Rattle.engine.specs.declared.bus.Phase.{Phase}
use Rattle.engine.specs.declared.bus.Phase.TheVariants as phase
use Rattle.writing.specs.Writing.{next_of, work_after, settle_of, replied_of}
use Rattle.writing.specs.declared.call.WriteCall.{WriteCall}
use Rattle.courses.specs.declared.course.End.TheVariants as end
use Rattle.original.specs.OriginalCommon.{set_for}
use Rattle.original.specs.Bus.{BusOutcome, Made, brings, write, Log, Came, Ok, Err, Waiting, begun}
use Rattle.original.specs.Fed.{told, Lending, reply, answered, shows◌sending◌transfer◌answer◌, wrote◌taken◌refused◌, fed_write}
use Rattle.original.specs.OriginalR5 as rust
use Rattle.original.proofs.Equal.{equal}
use Rattle.promises.specs.Events.{bus_error, timed_out, Event, acknowledged, failed, unheard, heard_as, each}
use Rattle.promises.specs.OverOriginal.{outcome_in, outcomes_in, made_in, laid_over, stop_of}
use Rattle.promises.specs.Writes.{WriteWorld, began, shows, step, run}
use Rattle.promises.specs.Demand3.{end_in, Accepted}
use Rattle.promises.proofs.Machine.{world_at, call_at, frame_of, shows_block, shows_ended, lays, hands_out, laid_long, is_taken, made_sent}
use Rattle.promises.proofs.Stopped.{Going, going_step, going, run_ended, run_empty}

-- ---- an answer, in the Rust's words

transfers_answered : (a : Answer) (log : Log) (os : List BusOutcome) → made_in (answered a log os) ≡ log.transfers
unfolding answered when◌then◌else◌
transfers_answered a log os = by (eqb (number_of a) 0)
  where
    by : (t : Bool) → made_in (when t then Ok log os else Err a log os) ≡ log.transfers
    by true = refl
    by false = refl

stop_answered : (a : Answer) (log : Log) (os : List BusOutcome) → end.Answered a ≡ stop_of (answered a log os)
unfolding answered when◌then◌else◌
stop_answered a log os = by (eqb (number_of a) 0) refl
  where
    by : (t : Bool) → eqb (number_of a) 0 ≡ t → end.Answered a ≡ stop_of (when t then Ok log os else Err a log os)
    by true e = rw (done_only a (eqb-true (number_of a) 0 e))
    by false e = refl

-- ---- an event, in the Rust's words

told_outcome : (e : Event) → told (outcome_in e) ≡ heard_as e
unfolding told
told_outcome (acknowledged) = refl
told_outcome (failed (bus_error code)) = refl
told_outcome (failed timed_out) = refl
told_outcome (unheard (bus_error code)) = refl
told_outcome (unheard timed_out) = refl

brings_none : (e : Event) (frame beside : List ℕ) → replied_of (heard_as e) (length (reply (write frame) beside (outcome_in e))) ≡ false
unfolding reply brings replied_of case◌acknowledged◌error◌timeout◌ when◌then◌else◌
brings_none (acknowledged) frame beside = refl
brings_none (failed (bus_error code)) frame beside = refl
brings_none (failed timed_out) frame beside = refl
brings_none (unheard (bus_error code)) frame beside = refl
brings_none (unheard timed_out) frame beside = refl

module _ (config : Config) (address : ℕ) (payload : List ℕ) (work : List ℕ) (room : 39 ≤ length work) where
  -- a host that lends the same work buffer at each step, and nothing beside a failure
  abbrev host : ℕ → Lending
  host i = record { work = work; beside = [] }

  abbrev fed : WriteCall → List Made → List Event → Came
  fed call done es = fed_write call payload host done (outcomes_in es)

  -- the call that is fed makes the transfers that the run lays over the flash, and stops as the run does
  abbrev Follows : List Event → WriteWorld → List Made → Type 0
  Follows es w done =
      (ts : List Made) × (made_in (fed w.call done es) ≡ done ++ ts) × ((run payload es w).flash ≡ laid_over es ts w.flash)
      × (end_in ((shows) payload (run payload es w)) ≡ stop_of (fed w.call done es))

  none_laid : (es : List Event) (flash : List ℕ) → flash ≡ laid_over es [] flash
  none_laid [] flash = refl
  none_laid (e ∷ es) flash = refl

  module _ (i : ℕ) (b : Budget) (t : Tally) where
    fed_ended : (a : Answer) (done : List Made) (es : List Event)
        → fed (call_at config address payload (length work) (phase.Ended a) i b t) done es ≡ answered a (record { transfers = done; waits = t.waits }) (outcomes_in es)
    unfolding fed_write next_of work_after case◌waiting◌ended◌ shows◌sending◌transfer◌answer◌
    fed_ended a done [] = refl
    fed_ended a done (e ∷ es) = refl

    abbrev frame : Made
    frame = write (frame_of config address payload (length work) i)

    fed_cut : (done : List Made) → fed (call_at config address payload (length work) phase.Waiting i b t) done [] ≡ Waiting (record { transfers = done ++ (frame ∷ []); waits = t.waits })
    unfolding fed_write shows◌sending◌transfer◌answer◌
    fed_cut done =
        rw (shows_block config address payload (length work) i b t work refl room, lays config address payload (length work) i b t work refl room, hands_out config address payload (length work) i b t work refl room)

    fed_on : (e : Event) (es : List Event) (done : List Made)
        → fed (call_at config address payload (length work) phase.Waiting i b t) done (e ∷ es)
        ≡ fed (settle_of (call_at config address payload (length work) phase.Waiting i b (tallied t)) (heard_as e)) (done ++ (frame ∷ [])) es
    unfolding fed_write shows◌sending◌transfer◌answer◌ wrote◌taken◌refused◌
    fed_on e es done =
        rw (shows_block config address payload (length work) i b t work refl room, lays config address payload (length work) i b t work refl room, hands_out config address payload (length work) i b t work refl room, laid_long config address payload (length work) i b t work refl room, told_outcome e, is_taken config address payload (length work) i b t work refl room (heard_as e) (length (reply frame [] (outcome_in e))) (brings_none e _ []))

  follows_ended : (es : List Event) (a : Answer) (i : ℕ) (b : Budget) (t : Tally) (now flash : List ℕ) (done : List Made)
      → Follows es (world_at config address payload (length work) (phase.Ended a) i b t now flash) done
  follows_ended es a i b t now flash done =
      rw (run_ended config address payload (length work) es a i b t now flash, fed_ended i b t a done es, shows_ended config address payload (length work) a i b t (length now)) (
        [],
        transfers_answered a _ _ ∙ sym (append-nil done),
        none_laid es flash,
        stop_answered a _ _,
      )

  follows_cut : (i : ℕ) (b : Budget) (t : Tally) (now flash : List ℕ) → length now ≡ length work → (done : List Made)
      → Follows [] (world_at config address payload (length work) phase.Waiting i b t now flash) done
  unfolding each
  follows_cut i b t now flash long done =
      rw (fed_cut i b t done, shows_block config address payload (length work) i b t now long room) (frame i b t ∷ [], refl, refl, refl)

  follows_on : (e : Event) (es : List Event) (i : ℕ) (b : Budget) (t : Tally) (now flash : List ℕ) → length now ≡ length work
      → ((done : List Made) → Follows es (step payload e (world_at config address payload (length work) phase.Waiting i b t now flash)) done)
      → (done : List Made) → Follows (e ∷ es) (world_at config address payload (length work) phase.Waiting i b t now flash) done
  unfolding each
  follows_on e es i b t now flash long rest done =
      let s = made_sent config address payload (length work) i b t now long room e [] flash in
      let r = rest (done ++ (frame i b t ∷ [])) in
      let goes_on : fed (call_at config address payload (length work) phase.Waiting i b t) done (e ∷ es) ≡ fed (step payload e (world_at config address payload (length work) phase.Waiting i b t now flash)).call (done ++ (frame i b t ∷ [])) es =
      fed_on i b t e es done ∙ ap (λ (v : WriteWorld). fed v.call (done ++ (frame i b t ∷ [])) es) (sym s) in (
        frame i b t ∷ r.0,
        ap made_in goes_on ∙ r.1 ∙ append_assoc done (frame i b t ∷ []) r.0,
        r.2 ∙ ap (λ (v : WriteWorld). laid_over es r.0 v.flash) s,
        r.3 ∙ ap stop_of (sym goes_on),
      )

  follows_at : (e : Event) (es : List Event) (p : Phase) (i : ℕ) (b : Budget) (t : Tally) (now flash : List ℕ) → length now ≡ length work
      → ((done : List Made) → Follows es (step payload e (world_at config address payload (length work) p i b t now flash)) done)
      → (done : List Made) → Follows (e ∷ es) (world_at config address payload (length work) p i b t now flash) done
  follows_at e es (phase.Ended a) i b t now flash long rest done = follows_ended (e ∷ es) a i b t now flash done
  follows_at e es phase.Waiting i b t now flash long rest done = follows_on e es i b t now flash long rest done

  follows_here : (p : Phase) (i : ℕ) (b : Budget) (t : Tally) (now flash : List ℕ) → length now ≡ length work
      → (done : List Made) → Follows [] (world_at config address payload (length work) p i b t now flash) done
  follows_here (phase.Ended a) i b t now flash long done = follows_ended [] a i b t now flash done
  follows_here phase.Waiting i b t now flash long done = follows_cut i b t now flash long done

  module _ (flash : List ℕ) (whole : length flash ≡ 8192) (low : 0x4000 ≤ address) (high : address + length payload ≤ 0x6000) where
    follows : (es : List Event) (w : WriteWorld) → Going config address payload flash (length work) room whole low high w → (done : List Made) → Follows es w done
    follows [] w g done = subst (λ v. Follows [] v done) (sym g.is) (follows_here g.at g.i g.b g.t g.work g.flash g.long done)
    follows (e ∷ es) w g done =
        subst (λ v. Follows (e ∷ es) v done) (sym g.is)
        (follows_at e es g.at g.i g.b g.t g.work g.flash g.long
        (subst (λ v. (done : List Made) → Follows es (step payload e v) done) g.is
        (follows es (step payload e w) (going_step config address payload flash (length work) room whole low high e w g))) done)

module _ (config : Config) (address : ℕ) (payload work flash : List ℕ) (few : TwoByteBudgets config) (a : Accepted address payload work flash) (es : List Event) where
  abbrev start : WriteWorld
  start = began config address payload work flash

  abbrev original : Came
  original = rust.write_dataflash (set_for side.Write config) address payload begun (outcomes_in es)

  -- the call that is fed comes to what the Rust comes to
  fed_original : fed config address payload work a.room start.call [] es ≡ original
  unfolding began
  fed_original = (equal config few (length work) a.room (host config address payload work a.room) (λ i. refl) (outcomes_in es)).write_dataflash_lem address payload

  start_flash : start.flash ≡ flash
  unfolding began
  start_flash = refl

  follows_start : Follows config address payload work a.room es start []
  unfolding each
  follows_start = by (eqb (length payload) 0) refl
    where
      by : (t : Bool) → eqb (length payload) 0 ≡ t → Follows config address payload work a.room es start []
      by true t =
          subst (λ v. Follows config address payload work a.room es v []) (sym (run_empty config address payload work flash a (eqb-true _ _ t) []))
          (follows_ended config address payload work a.room es answer.Done 0 _ nothing work flash [])
      by false t =
          let none : length payload ≡ 0 → ⊥ = eqb-false _ _ t in
          let some : 0 < length payload = omega arith in
          let w = within address (length payload) a.window some in
          follows config address payload work a.room flash a.whole w.0 w.1 es start (going config address payload work flash a some w.0 w.1 []) []

-- DEMAND 2'S TRANSFERS
pub over_original : (config : Config) (address : ℕ) (payload work flash : List ℕ) → TwoByteBudgets config → Accepted address payload work flash
    → (es : List Event)
    → ((run payload es (began config address payload work flash)).flash
    ≡ laid_over es (made_in (rust.write_dataflash (set_for side.Write config) address payload begun (outcomes_in es))) flash)
    × (end_in ((shows) payload (run payload es (began config address payload work flash))) ≡ stop_of (rust.write_dataflash (set_for side.Write config) address payload begun (outcomes_in es)))
over_original config address payload work flash few a es =
    let o = fed_original config address payload work flash few a es in
    let f = follows_start config address payload work flash few a es in
    let ts : f.0 ≡ made_in (original config address payload work flash few a es) = sym f.1 ∙ ap made_in o in (
      f.2 ∙ ap (λ (l : List Made). laid_over es l (start config address payload work flash few a es).flash) ts ∙ ap (laid_over es _) (start_flash config address payload work flash few a es),
      f.3 ∙ ap stop_of o,
    )
