-- Any host of a read: a call that waits looks neither at the bytes of the work buffer nor at those beside a failure, and a refused report leaves call and buffer as they were.
-- Assumes nothing.
use Prim.Native.Nat.{ℕ, zero, suc, ◌*◌, ◌-◌, ◌≤◌, ◌<◌}
use mathlib.Core.Path.{◌≡◌, refl, sym, ap, subst, ◌∙◌}
use mathlib.Core.Bool.{Bool, true, false}
use mathlib.Core.List.{List, [], ◌∷◌}
use native.Mathlib.Omega.{arith}
use lib.Dec.{eqb}
use lib.ListN.{length, take}
use borrow.Author.Tests.{ne_eqb, eqb-true, eqb-false}
use Rattle.protocol.specs.Pick.{when◌then◌else◌}
use Rattle.protocol.specs.Bytes.{over}
use Rattle.protocol.specs.Reply.{bytes_asked, heard_of}
use Rattle.protocol.specs.declared.common.Config.{Config}
use Rattle.protocol.specs.declared.error.Answer.{Answer}
use Rattle.protocol.specs.declared.error.Answer.TheVariants as answer
use Rattle.protocol.proofs.WindowLaws.{within}
use Rattle.engine.specs.Pick.{case◌waiting◌ended◌, case◌acknowledged◌error◌timeout◌}
use Rattle.engine.specs.Bus.{fits_of}
use Rattle.engine.specs.Budget.{nothing}
use Rattle.engine.specs.declared.budget.Budget.{Budget}
use Rattle.engine.specs.declared.budget.Tally.{Tally}
use Rattle.engine.specs.declared.bus.Outcome.{Outcome}
use Rattle.engine.specs.declared.bus.Outcome.TheVariants as outcome
use Rattle.engine.specs.declared.bus.Phase.{Phase}
use Rattle.engine.specs.declared.bus.Phase.TheVariants as phase
use Rattle.engine.specs.declared.bus.Transfer.TheVariants as transfer
use Rattle.reading.specs.Pick.{case◌refused◌fault◌headed◌block◌}
use Rattle.reading.specs.Parts.{block_ask, ask_of}
use Rattle.reading.specs.Reading.{due_ask, heard_head, verdict_of, heard_block, acknowledged_of, weigh_of, judge_of, report_of, buffer_after}
use Rattle.reading.specs.declared.call.ReadCall.{ReadCall}
use Rattle.reading.specs.declared.call.Verdict.TheVariants as verdict
use Rattle.r5.specs.Plans.{read_dataflash}
use Rattle.model_gauge.specs.Gauge.{moved_of}
use Rattle.model_gauge.specs.declared.gauge.Gauge.{Gauge}
use Rattle.answers.specs.Runs.{call_r}
use Rattle.promises.specs.Events.{after, flash_after, acked_after, each}
use Rattle.promises.specs.Host.{Doing, transfers, reports, events, Misplaced, has_ended, wrong_buffer, wrong_reply, Allowed}
use Rattle.promises.specs.Reads.{ReadWorld, read_began, lending, read_shows, read_step, read_run, read_does, ReadMay, read_hosted, ReadAlike}
use Rattle.promises.specs.Demand3.{Accepted}
use Rattle.promises.proofs.Hosted.{answers, not_fits, hosted_run}
use Rattle.promises.proofs.ReadSteps.{read_budget, pointed_by, read_at, read_world, head_of, shows_head, shows_read, head_long, made_head, brought_at, made_read, heard_same, made_over}
use Rattle.promises.proofs.Reading.{Reading, buffer_long, reading_step}
use Rattle.promises.proofs.ReadStopped.{start, read_empty, reading}

-- the same but for the bytes of a work buffer of n
abbrev Like : ℕ → ReadWorld → ReadWorld → Type 0
Like n v w = (m : List ℕ) × (length m ≡ n) × (v ≡ lending m w)

-- a verdict that refuses leaves call and buffer as they were
module _ (call : ReadCall) (o : Outcome) (bytes buffer : List ℕ) (w : ℕ) (a : Answer) (z : judge_of call o bytes (length buffer) w ≡ verdict.Refused a) where
  keeps_call : call_r (report_of call o bytes (length buffer) w) ≡ call
  unfolding report_of case◌refused◌fault◌headed◌block◌
  keeps_call = rw z

  keeps_buffer : buffer_after call o bytes buffer w ≡ buffer
  unfolding buffer_after case◌refused◌fault◌headed◌block◌
  keeps_buffer = rw z

-- the front of a buffer, laid over it
front_over : (n : ℕ) (l : List ℕ) → over (take n l) l ≡ l
unfolding over
front_over zero l = refl
front_over (suc n) [] = refl
front_over (suc n) (x ∷ l) = ap (λ (r : List ℕ). x ∷ r) (front_over n l)

module _ (config : Config) (address size n : ℕ) (room : 39 ≤ n) where
  -- ---- a report in between

  module _ (i : ℕ) (b : Budget) (t : Tally) (bytes : List ℕ) (lent w : ℕ) where
    abbrev Refuses : Bool → Outcome → Type 0
    Refuses h o = (a : Answer) × (judge_of (read_at config address size n phase.Waiting h i b t) o bytes lent w ≡ verdict.Refused a)

    -- of other lengths
    refuses_lengths : (h : Bool) (o : Outcome) → fits_of (record { length = size; work = n }) lent w ≡ false → Refuses h o
    unfolding judge_of case◌waiting◌ended◌ when◌then◌else◌
    refuses_lengths h o z = (answer.WrongBuffer, rw z)

    -- an acknowledged head with a reply, and a read with another number of bytes than was asked
    refuses_head : fits_of (record { length = size; work = n }) lent w ≡ true → (length bytes ≡ 0 → ⊥) → Refuses true outcome.Acknowledged
    unfolding judge_of weigh_of acknowledged_of heard_head case◌waiting◌ended◌ case◌acknowledged◌error◌timeout◌ when◌then◌else◌
    refuses_head z some = (answer.WrongReply, rw (z, ne_eqb (length bytes) 0 some))

    refuses_read : fits_of (record { length = size; work = n }) lent w ≡ true → (length bytes ≡ bytes_asked (block_ask (size - i * 32) config.pec_read) → ⊥) → Refuses false outcome.Acknowledged
    unfolding judge_of weigh_of acknowledged_of heard_block verdict_of heard_of due_ask ask_of read_dataflash case◌waiting◌ended◌ case◌acknowledged◌error◌timeout◌ when◌then◌else◌
    refuses_read z other = (answer.WrongReply, rw (z, ne_eqb (bytes_asked (block_ask (size - i * 32) config.pec_read)) (length bytes) (λ e. other (sym e))))

    refuses : (h : Bool) (o : Outcome) (g : Gauge) (now work flash : List ℕ) → length now ≡ size → length work ≡ n
        → Misplaced (read_shows (read_world config address size n phase.Waiting h i b t g now work flash)) size n o (length bytes) lent w → Refuses h o
    refuses true o g now work flash fits long (has_ended a e) =
        let none : answers (transfer.Write (length (head_of config address size n i))) ≡ answers (transfer.Ended a) = ap answers (sym (shows_head config address size n i b t g now work flash fits long room) ∙ e) in
        absurd (omega arith)
    refuses false o g now work flash fits long (has_ended a e) =
        let none : answers (transfer.Read 0x44 (bytes_asked (block_ask (size - i * 32) config.pec_read))) ≡ answers (transfer.Ended a) = ap answers (sym (shows_read config address size n i b t g now work flash fits long room) ∙ e) in
        absurd (omega arith)
    refuses h o g now work flash fits long (wrong_buffer other) = refuses_lengths h o (not_fits size n lent w other)
    refuses true o g now work flash fits long (wrong_reply e other) = rw e (by (fits_of (record { length = size; work = n }) lent w) refl)
      where
        by : (z : Bool) → fits_of (record { length = size; work = n }) lent w ≡ z → Refuses true outcome.Acknowledged
        by true z = refuses_head z (rw (shows_head config address size n i b t g now work flash fits long room) at other)
        by false z = refuses_lengths true outcome.Acknowledged z
    refuses false o g now work flash fits long (wrong_reply e other) = rw e (by (fits_of (record { length = size; work = n }) lent w) refl)
      where
        by : (z : Bool) → fits_of (record { length = size; work = n }) lent w ≡ z → Refuses false outcome.Acknowledged
        by true z = refuses_read z (rw (shows_read config address size n i b t g now work flash fits long room) at other)
        by false z = refuses_lengths false outcome.Acknowledged z

  -- ---- what a host does, beside what becomes of its transfers

  does_at : (d : Doing) (m : List ℕ) (p : Phase) (h : Bool) (i : ℕ) (b : Budget) (t : Tally) (g : Gauge) (buffer work flash : List ℕ)
      → length buffer ≡ size → length m ≡ n → length work ≡ n → ReadMay size n d (read_world config address size n p h i b t g buffer m flash)
      → Like n (read_does d (read_world config address size n p h i b t g buffer m flash)) (read_run (events (d ∷ [])) (read_world config address size n p h i b t g buffer work flash))
  unfolding read_does each judge_of case◌waiting◌ended◌
  does_at (transfers e work' beside) m phase.Waiting true i b t g buffer work flash fits long long' may =
      let laid : length (over (head_of config address size n i) work) ≡ n = head_long config address size n i b t g buffer work flash fits long' room in
      let laid' : length (over (head_of config address size n i) work') ≡ n = head_long config address size n i b t g buffer work' flash fits may room in (
        over (head_of config address size n i) work',
        laid',
        made_head config address size n i b t g buffer work' flash fits may room e beside
            ∙ heard_same config address size n i b t g buffer work flash fits long' room e true [] beside (over (head_of config address size n i) work) (over (head_of config address size n i) work') work' laid laid' (after e g (pointed_by (head_of config address size n i) g flash)) (flash_after e (head_of config address size n i) flash) i
            ∙ ap (lending (over (head_of config address size n i) work')) (sym (made_head config address size n i b t g buffer work flash fits long' room e [])),
      )
  does_at (transfers e work' beside) m phase.Waiting false i b t g buffer work flash fits long long' may =
      let brought : List ℕ = brought_at config address size n i b t g buffer work flash fits long' room in (
        work',
        may,
        made_read config address size n i b t g buffer work' flash fits may room e beside
            ∙ heard_same config address size n i b t g buffer work flash fits long' room e false brought beside work work' work' long' may (after e g (moved_of g)) flash (acked_after e i)
            ∙ ap (lending work') (sym (made_read config address size n i b t g buffer work flash fits long' room e [])),
      )
  does_at (transfers e work' beside) m (phase.Ended a) h i b t g buffer work flash fits long long' may = (
    work',
    may,
    made_over config address size n e beside a h i b t g buffer work' flash ∙ ap (lending work') (sym (made_over config address size n e [] a h i b t g buffer work flash)),
  )
  does_at (reports o bytes lent w) m phase.Waiting h i b t g buffer work flash fits long long' may =
      let r = refuses i b t bytes (length (take lent buffer)) w h o g buffer m flash fits long may in (
        m,
        long,
        rw (keeps_call (read_at config address size n phase.Waiting h i b t) o bytes (take lent buffer) w r.0 r.1, keeps_buffer (read_at config address size n phase.Waiting h i b t) o bytes (take lent buffer) w r.0 r.1, front_over lent buffer),
      )
  does_at (reports o bytes lent w) m (phase.Ended a) h i b t g buffer work flash fits long long' may = (
    m,
    long,
    rw (keeps_call (read_at config address size n (phase.Ended a) h i b t) o bytes (take lent buffer) w answer.NothingOutstanding refl, keeps_buffer (read_at config address size n (phase.Ended a) h i b t) o bytes (take lent buffer) w answer.NothingOutstanding refl, front_over lent buffer),
  )

  does_like : (d : Doing) (v w : ReadWorld) (p : Phase) (h : Bool) (i : ℕ) (b : Budget) (t : Tally) (g : Gauge) (buffer work flash : List ℕ)
      → w ≡ read_world config address size n p h i b t g buffer work flash → length buffer ≡ size → length work ≡ n
      → ReadMay size n d v → Like n v w → Like n (read_does d v) (read_run (events (d ∷ [])) w)
  does_like d v w p h i b t g buffer work flash is fits long may like =
      let v-is : v ≡ read_world config address size n p h i b t g buffer like.0 flash = like.2 ∙ ap (lending like.0) is in
      let may_at : ReadMay size n d (read_world config address size n p h i b t g buffer like.0 flash) = subst (ReadMay size n d) v-is may in
      rw (v-is, is) (does_at d like.0 p h i b t g buffer work flash fits like.1 long may_at)

-- alike, but for the bytes of the work buffer
alike : (n : ℕ) (v w : ReadWorld) → length w.work ≡ n → Like n v w → ReadAlike v w
alike n v w long like = rw like.2 (refl, refl, refl, like.1 ∙ sym long, refl, refl)

module _ (config : Config) (address : ℕ) (buffer work flash : List ℕ) (a : Accepted address buffer work flash) (gauge : Gauge) (ds : List Doing)
    (allowed : Allowed read_does (ReadMay (length buffer) (length work)) ds (read_began gauge config address buffer work flash)) where
  abbrev first : ReadWorld
  first = start config address buffer work flash a gauge

  -- it starts with the same work buffer
  like_start : Like (length work) first first
  unfolding read_began
  like_start = (work, refl, refl)

  -- an empty read has ended before its first transfer
  host_empty : length buffer ≡ 0 → ReadAlike (read_hosted ds first) (read_run (events ds) first)
  unfolding each
  host_empty none =
      let done : ReadWorld =
      read_world config address (length buffer) (length work) (phase.Ended answer.Done) true 0 (read_budget config) nothing gauge buffer work flash in
      let r = hosted_run read_step read_does (ReadMay (length buffer) (length work)) (λ w. w ≡ done) (Like (length work))
      (λ e w k. ap (read_step e) k ∙ made_over config address (length buffer) (length work) e [] answer.Done true 0 _ nothing gauge buffer work flash)
      (λ d v w may k like. does_like config address (length buffer) (length work) a.room d v w (phase.Ended answer.Done) true 0 _ nothing gauge buffer work flash k refl refl may like)
      ds first first allowed (read_empty config address buffer work flash a gauge none []) like_start in
      alike (length work) (read_hosted ds first) (read_run (events ds) first)
      (ap (λ (w : ReadWorld). length w.work) (read_empty config address buffer work flash a gauge none (events ds))) r

  host_some : 0 < length buffer → ReadAlike (read_hosted ds first) (read_run (events ds) first)
  unfolding each
  host_some some =
      let w = within address (length buffer) a.window some in
      let kept : Reading false config address (length work) buffer flash a.room a.whole w.0 w.1 (read_run (events ds) first) =
      reading config address buffer work flash a gauge some w.0 w.1 (events ds) in
      let r = hosted_run read_step read_does (ReadMay (length buffer) (length work))
      (Reading false config address (length work) buffer flash a.room a.whole w.0 w.1) (Like (length work))
      (reading_step false config address (length work) buffer flash a.room a.whole w.0 w.1)
      (λ d v u may r like. does_like config address (length buffer) (length work) a.room d v u r.at r.head r.i r.b r.t r.gauge r.buffer r.work flash r.is
      (buffer_long false config address (length work) buffer flash a.room a.whole w.0 w.1 r.i r.buffer r.front) r.long may like)
      ds first first allowed (reading config address buffer work flash a gauge some w.0 w.1 []) like_start in
      alike (length work) (read_hosted ds first) (read_run (events ds) first) (ap (λ (v : ReadWorld). length v.work) kept.is ∙ kept.long) r

  -- ANY HOST OF A READ
  pub any_host : ReadAlike (read_hosted ds first) (read_run (events ds) first)
  any_host = by (eqb (length buffer) 0) refl
    where
      by : (t : Bool) → eqb (length buffer) 0 ≡ t → ReadAlike (read_hosted ds first) (read_run (events ds) first)
      by true t = host_empty (eqb-true _ _ t)
      by false t = let none : length buffer ≡ 0 → ⊥ = eqb-false _ _ t in host_some (omega arith)
