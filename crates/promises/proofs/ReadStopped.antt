-- Stop a read anywhere: what every event keeps, a read keeps over every list of events.
-- Assumes nothing.
use Prim.Native.Nat.{ℕ, ◌+◌, ◌≤◌, ◌<◌}
use mathlib.Core.Path.{◌≡◌, refl, sym}
use mathlib.Core.Bool.{Bool, true, false, false≢true}
use mathlib.Core.List.{List, []}
use native.Mathlib.Omega.{arith}
use lib.Dec.{eqb}
use lib.ListN.{length}
use borrow.Author.Tests.{eq-eqb, ne_eqb, eqb-true, eqb-false, le-ltb}
use Rattle.protocol.specs.Pick.{when◌then◌else◌}
use Rattle.protocol.specs.Bytes.{over}
use Rattle.protocol.specs.declared.common.Config.{Config}
use Rattle.protocol.specs.declared.error.Answer.{Answer}
use Rattle.protocol.specs.declared.error.Answer.TheVariants as answer
use Rattle.protocol.proofs.WindowLaws.{within}
use Rattle.engine.specs.Pick.{case◌waiting◌ended◌}
use Rattle.engine.specs.Budget.{nothing}
use Rattle.engine.specs.Limit.{windowed, measured, admitted}
use Rattle.engine.specs.declared.budget.Budget.{Budget}
use Rattle.engine.specs.declared.budget.Tally.{Tally}
use Rattle.engine.specs.declared.bus.Phase.{Phase}
use Rattle.engine.specs.declared.bus.Phase.TheVariants as phase
use Rattle.reading.specs.Parts.{has_head, first_address}
use Rattle.reading.specs.Reading.{start_of, next_of}
use Rattle.r5.specs.Plans.{read_dataflash}
use Rattle.model_gauge.specs.declared.gauge.Gauge.{Gauge}
use Rattle.promises.specs.Events.{Event}
use Rattle.promises.specs.Reads.{ReadWorld, read_began, read_shows, read_step, read_run, Coming, comes, damaged as spoilt, read_over, Damages, read_noisily}
use Rattle.promises.specs.Reading.{all_got, ReadTold, ReadPromised}
use Rattle.promises.specs.Demand3.{Accepted}
use Rattle.promises.proofs.Stopped.{stays}
use Rattle.promises.proofs.ReadSteps.{read_budget, read_world, shows_head, shows_read, made_over, damaged_over}
use Rattle.promises.proofs.Reading.{Kept, Reading, buffer_long, reading_run, reading_noise}

-- an ended call stays as it is over every list of events
pub read_ended : (config : Config) (address size n : ℕ) (es : List Event) (a : Answer) (h : Bool) (i : ℕ) (b : Budget) (t : Tally) (g : Gauge) (buffer work flash : List ℕ)
    → read_run es (read_world config address size n (phase.Ended a) h i b t g buffer work flash) ≡ read_world config address size n (phase.Ended a) h i b t g buffer work flash
read_ended config address size n es a h i b t g buffer work flash =
    stays read_step (read_world config address size n (phase.Ended a) h i b t g buffer work flash) (λ e. made_over config address size n e [] a h i b t g buffer work flash) es

-- also where replies are damaged
noise_ended : (config : Config) (address size n : ℕ) (cs : List Coming) (a : Answer) (h : Bool) (i : ℕ) (b : Budget) (t : Tally) (g : Gauge) (buffer work flash : List ℕ)
    → read_noisily cs (read_world config address size n (phase.Ended a) h i b t g buffer work flash) ≡ read_world config address size n (phase.Ended a) h i b t g buffer work flash
unfolding read_over
noise_ended config address size n cs a h i b t g buffer work flash = stays read_over (read_world config address size n (phase.Ended a) h i b t g buffer work flash) by cs
  where
    by : (c : Coming) → read_over c (read_world config address size n (phase.Ended a) h i b t g buffer work flash) ≡ read_world config address size n (phase.Ended a) h i b t g buffer work flash
    by (comes e) = made_over config address size n e [] a h i b t g buffer work flash
    by (spoilt front last) = damaged_over config address size n front last a h i b t g buffer work flash

module _ (config : Config) (address : ℕ) (buffer work flash : List ℕ) (a : Accepted address buffer work flash) (gauge : Gauge) where
  abbrev pub start : ReadWorld
  start = read_began gauge config address buffer work flash

  -- an accepted read waits with its head due, or is done where nothing is to be read
  pub start_is : (t : Bool) → eqb (length buffer) 0 ≡ t
      → start ≡ read_world config address (length buffer) (length work) (when t then phase.Ended answer.Done else phase.Waiting) true 0 (read_budget config) nothing gauge buffer work flash
  unfolding read_began start_of admitted measured windowed read_dataflash has_head first_address when◌then◌else◌
  start_is t e = rw (le-ltb (length work) 39 a.room, a.window, e)

  -- nothing is to be read: it has ended before its first transfer
  pub read_empty : length buffer ≡ 0 → (es : List Event)
      → read_run es start ≡ read_world config address (length buffer) (length work) (phase.Ended answer.Done) true 0 (read_budget config) nothing gauge buffer work flash
  unfolding when◌then◌else◌
  read_empty none es =
      rw (start_is true (eq-eqb (length buffer) 0 none)) (read_ended config address (length buffer) (length work) es answer.Done true 0 _ nothing gauge buffer work flash)

  -- something is to be read
  begins : (noisy : Bool) → 0 < length buffer → (low : 0x4000 ≤ address) (high : address + length buffer ≤ 0x6000)
      → Reading noisy config address (length work) buffer flash a.room a.whole low high start
  unfolding when◌then◌else◌ over
  begins noisy some low high = record {
    at = phase.Waiting;
    head = true;
    i = 0;
    b = read_budget config;
    t = nothing;
    gauge = gauge;
    buffer = buffer;
    work = work;
    is = start_is false (ne_eqb (length buffer) 0 (λ e. omega arith));
    long = refl;
    front = refl;
    kept = (omega arith, λ e. absurd (false≢true (sym e)));
  }

  pub reading : 0 < length buffer → (low : 0x4000 ≤ address) (high : address + length buffer ≤ 0x6000) (es : List Event)
      → Reading false config address (length work) buffer flash a.room a.whole low high (read_run es start)
  reading some low high es = reading_run false config address (length work) buffer flash a.room a.whole low high es start (begins false some low high)

  -- what is shown
  told_at : (noisy : Bool) (low : 0x4000 ≤ address) (high : address + length buffer ≤ 0x6000) (p : Phase) (h : Bool) (i : ℕ) (b : Budget) (t : Tally) (g : Gauge) (now work' : List ℕ)
      → length now ≡ length buffer → length work' ≡ length work
      → Kept noisy config address (length work) buffer flash a.room a.whole low high p h i g
      → ReadTold noisy (length buffer) i (read_shows (read_world config address (length buffer) (length work) p h i b t g now work' flash))
  unfolding next_of case◌waiting◌ended◌
  told_at noisy low high phase.Waiting true i b t g now work' fits long k = rw (shows_head config address (length buffer) (length work) i b t g now work' flash fits long a.room) k.0
  told_at noisy low high phase.Waiting false i b t g now work' fits long k = rw (shows_read config address (length buffer) (length work) i b t g now work' flash fits long a.room) k.0
  told_at noisy low high (phase.Ended answer) h i b t g now work' fits long k = k

  promised : (noisy : Bool) (low : 0x4000 ≤ address) (high : address + length buffer ≤ 0x6000) (w : ReadWorld)
      → Reading noisy config address (length work) buffer flash a.room a.whole low high w → ReadPromised noisy address buffer flash w
  promised noisy low high w r =
      rw r.is
      (record {
        kept = refl;
        front = r.front;
        told = told_at noisy low high r.at r.head r.i r.b r.t r.gauge r.buffer r.work
            (buffer_long noisy config address (length work) buffer flash a.room a.whole low high r.i r.buffer r.front) r.long r.kept;
      })

  -- nothing is to be read
  promised_empty : (noisy : Bool) → length buffer ≡ 0 → (w : ReadWorld)
      → w ≡ read_world config address (length buffer) (length work) (phase.Ended answer.Done) true 0 (read_budget config) nothing gauge buffer work flash
      → ReadPromised noisy address buffer flash w
  unfolding over next_of case◌waiting◌ended◌
  promised_empty noisy none w is = rw is (record { kept = refl; front = refl; told = all_got refl (omega arith) })

  -- whatever has become of a read, where it keeps what every event keeps
  stops : (noisy : Bool) (w : ReadWorld)
      → (length buffer ≡ 0 → w ≡ read_world config address (length buffer) (length work) (phase.Ended answer.Done) true 0 (read_budget config) nothing gauge buffer work flash)
      → (0 < length buffer → (low : 0x4000 ≤ address) (high : address + length buffer ≤ 0x6000) → Reading noisy config address (length work) buffer flash a.room a.whole low high w)
      → ReadPromised noisy address buffer flash w
  stops noisy w empty reads = by (eqb (length buffer) 0) refl
    where
      by : (t : Bool) → eqb (length buffer) 0 ≡ t → ReadPromised noisy address buffer flash w
      by true t = promised_empty noisy (eqb-true _ _ t) w (empty (eqb-true _ _ t))
      by false t =
          let none : length buffer ≡ 0 → ⊥ = eqb-false _ _ t in
          let inside = within address (length buffer) a.window (omega arith) in
          promised noisy inside.0 inside.1 w (reads (omega arith) inside.0 inside.1)

  -- STOP A READ ANYWHERE
  pub stopped : (es : List Event) → ReadPromised false address buffer flash (read_run es start)
  stopped es = stops false (read_run es start) (λ none. read_empty none es) (λ some low high. reading some low high es)

  -- ALSO WHERE REPLIES ARE DAMAGED
  pub damaged : config.pec_read ≡ true → (cs : List Coming) → Damages cs → ReadPromised true address buffer flash (read_noisily cs start)
  unfolding when◌then◌else◌
  damaged pec cs d =
      stops true (read_noisily cs start)
      (λ none. rw (start_is true (eq-eqb (length buffer) 0 none)) (noise_ended config address (length buffer) (length work) cs answer.Done true 0 _ nothing gauge buffer work flash))
      (λ some low high. reading_noise true config address (length work) buffer flash a.room a.whole low high refl pec cs d start (begins true some low high))
