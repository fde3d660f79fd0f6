-- Any host: a call that waits looks neither at the bytes of the work buffer nor at those beside a failure, and a report that is refused leaves it as it was.
-- Assumes nothing.
use Prim.Native.Nat.{ℕ, ◌≤◌, ◌<◌}
use mathlib.Core.Path.{◌≡◌, refl, sym, ap, subst, ◌∙◌}
use mathlib.Core.Bool.{Bool, true, false}
use mathlib.Core.Logic.{◌⊎◌}
use mathlib.Core.List.{List, [], ◌∷◌}
use native.Mathlib.Omega.{arith}
use lib.Dec.{eqb}
use lib.ListN.{length}
use borrow.Author.Tests.{ne_eqb, eqb-true, eqb-false}
use Rattle.protocol.specs.Pick.{when◌then◌else◌}
use Rattle.protocol.specs.Bytes.{over}
use Rattle.protocol.specs.declared.common.Config.{Config}
use Rattle.protocol.specs.declared.error.Answer.TheVariants as answer
use Rattle.protocol.proofs.WindowLaws.{within}
use Rattle.engine.specs.Pick.{case◌waiting◌ended◌, case◌acknowledged◌error◌timeout◌}
use Rattle.engine.specs.Bus.{fits_of}
use Rattle.engine.specs.Budget.{nothing}
use Rattle.engine.specs.declared.budget.Budget.{Budget}
use Rattle.engine.specs.declared.budget.Tally.{Tally}
use Rattle.engine.specs.declared.bus.Outcome.{Outcome}
use Rattle.engine.specs.declared.bus.Outcome.TheVariants as outcome
use Rattle.engine.specs.declared.bus.Phase.{Phase}
use Rattle.engine.specs.declared.bus.Phase.TheVariants as phase
use Rattle.engine.specs.declared.bus.Transfer.TheVariants as transfer
use Rattle.writing.specs.Writing.{replied_of, report_of}
use Rattle.answers.specs.Runs.{call_w}
use Rattle.promises.specs.Events.{each}
use Rattle.promises.specs.Host.{Doing, transfers, reports, events, Misplaced, has_ended, wrong_buffer, wrong_reply, Allowed}
use Rattle.promises.specs.Writes.{WriteWorld, began, holding, shows, step, run, does, May, hosted, Alike}
use Rattle.promises.specs.Demand3.{Accepted}
use Rattle.promises.proofs.Machine.{block_budget, world_at, call_at, frame_of, shows_block, laid_long, made_sent, made_ended}
use Rattle.promises.proofs.Stopped.{Going, going_step, going, run_empty}
use Rattle.promises.proofs.Hosted.{answers, not_fits, hosted_run}

-- the same but for the bytes of a work buffer of n
abbrev Like : ℕ → WriteWorld → WriteWorld → Type 0
Like n v w = (m : List ℕ) × (length m ≡ n) × (v ≡ holding m w)

module _ (config : Config) (address : ℕ) (payload : List ℕ) (n : ℕ) (room : 39 ≤ n) where
  -- ---- a report in between

  module _ (i : ℕ) (b : Budget) (t : Tally) where
    -- a report of other lengths is refused
    not_fitting : (o : Outcome) (r lent work : ℕ) → (lent ≡ length payload → ⊥) ⊎ (work ≡ n → ⊥)
        → call_w (report_of (call_at config address payload n phase.Waiting i b t) o r lent work) ≡ call_at config address payload n phase.Waiting i b t
    unfolding report_of case◌waiting◌ended◌ when◌then◌else◌
    not_fitting o r lent work other = rw (not_fits (length payload) n lent work other)

    -- an acknowledgement with a reply is refused, at whatever lengths
    not_asked : (r lent work : ℕ) → (r ≡ 0 → ⊥)
        → call_w (report_of (call_at config address payload n phase.Waiting i b t) outcome.Acknowledged r lent work) ≡ call_at config address payload n phase.Waiting i b t
    unfolding report_of replied_of case◌waiting◌ended◌ case◌acknowledged◌error◌timeout◌ when◌then◌else◌
    not_asked r lent work some = by (fits_of (record { length = length payload; work = n }) lent work) refl
      where
        by : (z : Bool) → fits_of (record { length = length payload; work = n }) lent work ≡ z
            → call_w (report_of (call_at config address payload n phase.Waiting i b t) outcome.Acknowledged r lent work) ≡ call_at config address payload n phase.Waiting i b t
        by true z = rw (z, ne_eqb r 0 some)
        by false z = rw z

    misplaced : (o : Outcome) (r lent work : ℕ) (now : List ℕ) → length now ≡ n
        → Misplaced (shows payload (world_at config address payload n phase.Waiting i b t now [])) (length payload) n o r lent work
        → call_w (report_of (call_at config address payload n phase.Waiting i b t) o r lent work) ≡ call_at config address payload n phase.Waiting i b t
    misplaced o r lent work now long (has_ended a e) =
        let none : answers (transfer.Write (length (frame_of config address payload n i))) ≡ answers (transfer.Ended a) = ap answers (sym (shows_block config address payload n i b t now long room) ∙ e) in
        absurd (omega arith)
    misplaced o r lent work now long (wrong_buffer other) = not_fitting o r lent work other
    misplaced o r lent work now long (wrong_reply e other) =
        rw e (not_asked r lent work (rw (shows_block config address payload n i b t now long room) at other))

  -- ---- what a host does, beside what becomes of its transfers

  does_at : (d : Doing) (m : List ℕ) (p : Phase) (i : ℕ) (b : Budget) (t : Tally) (work flash : List ℕ) → length m ≡ n → length work ≡ n
      → May payload n d (world_at config address payload n p i b t m flash)
      → Like n (does payload d (world_at config address payload n p i b t m flash)) (run payload (events (d ∷ [])) (world_at config address payload n p i b t work flash))
  unfolding does each report_of case◌waiting◌ended◌
  does_at (transfers e work' beside) m phase.Waiting i b t work flash long long' may = (
    over (frame_of config address payload n i) work',
    laid_long config address payload n i b t work' may room,
    made_sent config address payload n i b t work' may room e beside flash
        ∙ ap (holding (over (frame_of config address payload n i) work')) (sym (made_sent config address payload n i b t work long' room e [] flash)),
  )
  does_at (transfers e work' beside) m (phase.Ended a) i b t work flash long long' may = (
    work',
    may,
    made_ended config address payload n e beside a i b t work' flash ∙ ap (holding work') (sym (made_ended config address payload n e [] a i b t work flash)),
  )
  does_at (reports o reply lent work') m phase.Waiting i b t work flash long long' may = (m, long, rw (misplaced i b t o (length reply) lent work' m long may))
  does_at (reports o reply lent work') m (phase.Ended a) i b t work flash long long' may = (m, long, refl)

  does_like : (d : Doing) (v w : WriteWorld) (p : Phase) (i : ℕ) (b : Budget) (t : Tally) (work flash : List ℕ) → w ≡ world_at config address payload n p i b t work flash → length work ≡ n
      → May payload n d v → Like n v w → Like n (does payload d v) (run payload (events (d ∷ [])) w)
  does_like d v w p i b t work flash is long may like =
      let v-is : v ≡ world_at config address payload n p i b t like.0 flash = like.2 ∙ ap (holding like.0) is in
      let may_at : May payload n d (world_at config address payload n p i b t like.0 flash) = subst (May payload n d) v-is may in
      rw (v-is, is) (does_at d like.0 p i b t work flash like.1 long may_at)

-- alike, but for the bytes of the work buffer
alike : (n : ℕ) (v w : WriteWorld) → length w.work ≡ n → Like n v w → Alike v w
alike n v w long like = rw like.2 (refl, like.1 ∙ sym long, refl, refl)

module _ (config : Config) (address : ℕ) (payload work flash : List ℕ) (a : Accepted address payload work flash) (ds : List Doing)
    (allowed : Allowed (does payload) (May payload (length work)) ds (began config address payload work flash)) where
  abbrev start : WriteWorld
  start = began config address payload work flash

  -- it starts with the same work buffer
  like_start : Like (length work) start start
  unfolding began
  like_start = (work, refl, refl)

  -- an empty write has ended before its first transfer
  host_empty : length payload ≡ 0 → Alike (hosted payload ds start) (run payload (events ds) start)
  unfolding each
  host_empty none =
      let done : WriteWorld =
      world_at config address payload (length work) (phase.Ended answer.Done) 0 (block_budget config) nothing work flash in
      let r = hosted_run (step payload) (does payload) (May payload (length work)) (λ w. w ≡ done) (Like (length work))
      (λ e w k. ap (step payload e) k ∙ made_ended config address payload (length work) e [] answer.Done 0 _ nothing work flash)
      (λ d v w may k like. does_like config address payload (length work) a.room d v w (phase.Ended answer.Done) 0 _ nothing work flash k refl may like)
      ds start start allowed (run_empty config address payload work flash a none []) like_start in
      alike (length work) (hosted payload ds start) (run payload (events ds) start)
      (ap (λ (w : WriteWorld). length w.work) (run_empty config address payload work flash a none (events ds))) r

  host_some : 0 < length payload → Alike (hosted payload ds start) (run payload (events ds) start)
  unfolding each
  host_some some =
      let w = within address (length payload) a.window some in
      let kept : Going config address payload flash (length work) a.room a.whole w.0 w.1 (run payload (events ds) start) =
      going config address payload work flash a some w.0 w.1 (events ds) in
      let r = hosted_run (step payload) (does payload) (May payload (length work))
      (Going config address payload flash (length work) a.room a.whole w.0 w.1) (Like (length work))
      (going_step config address payload flash (length work) a.room a.whole w.0 w.1)
      (λ d v w may g like. does_like config address payload (length work) a.room d v w g.at g.i g.b g.t g.work g.flash g.is g.long may like)
      ds start start allowed (going config address payload work flash a some w.0 w.1 []) like_start in
      alike (length work) (hosted payload ds start) (run payload (events ds) start) (ap (λ (v : WriteWorld). length v.work) kept.is ∙ kept.long) r

-- ANY HOST
pub any_host : (config : Config) (address : ℕ) (payload work flash : List ℕ) → Accepted address payload work flash
    → (doings : List Doing) → Allowed (does payload) (May payload (length work)) doings (began config address payload work flash)
    → Alike (hosted payload doings (began config address payload work flash)) (run payload (events doings) (began config address payload work flash))
any_host config address payload work flash a doings allowed = by (eqb (length payload) 0) refl
  where
    by : (t : Bool) → eqb (length payload) 0 ≡ t
        → Alike (hosted payload doings (began config address payload work flash)) (run payload (events doings) (began config address payload work flash))
    by true t = host_empty config address payload work flash a doings allowed (eqb-true _ _ t)
    by false t = let none : length payload ≡ 0 → ⊥ = eqb-false _ _ t in host_some config address payload work flash a doings allowed (omega arith)
