-- Reads are true: at every stop, with any host and on every course; and what was written over heard transfers is read back over heard transfers.
-- Assumes nothing.
use Prim.Native.Nat.{ℕ, zero, suc, ◌+◌, ◌*◌, ◌≤◌, ◌<◌, min}
use mathlib.Core.Path.{◌≡◌, refl, ap, subst, ◌∙◌}
use mathlib.Core.Bool.{Bool, true, false, false≢true}
use mathlib.Core.Logic.{inl, inr}
use mathlib.Core.List.{List, append_assoc, append-nil}
use native.Mathlib.Omega.{arith}
use lib.Dec.{eqb, leb}
use lib.ListN.{length, take, drop, replicate, length-take}
use lib.Seq.{take_all, take-append_seam, length-take-le, drop_at, drop-length}
use borrow.Author.Tests.{eqb-true, eqb-false, leb-false, lt-leb}
use Rattle.protocol.specs.Pick.{when◌then◌else◌}
use Rattle.protocol.specs.Bytes.{over, blocks_of}
use Rattle.protocol.specs.Answer.{number_of}
use Rattle.protocol.specs.declared.common.Config.{Config}
use Rattle.protocol.specs.declared.error.Answer.{Answer}
use Rattle.protocol.specs.declared.error.Answer.TheVariants as answer
use Rattle.protocol.proofs.WindowLaws.{within}
use Rattle.engine.specs.Pick.{case◌waiting◌ended◌}
use Rattle.engine.specs.Budget.{nothing, tallied}
use Rattle.engine.specs.Bus.{phase_after}
use Rattle.engine.specs.declared.budget.Budget.{Budget}
use Rattle.engine.specs.declared.budget.Tally.{Tally}
use Rattle.engine.specs.declared.bus.Phase.{Phase}
use Rattle.engine.specs.declared.bus.Phase.TheVariants as phase
use Rattle.engine.specs.declared.bus.Transfer.{Transfer}
use Rattle.engine.specs.declared.bus.Transfer.TheVariants as transfer
use Rattle.reading.specs.Reading.{next_of}
use Rattle.reading.specs.declared.call.ReadCall.{ReadCall}
use Rattle.model_gauge.specs.declared.gauge.Gauge.{Gauge}
use Rattle.courses.specs.Course.{sound_of}
use Rattle.courses.specs.Run.{Left}
use Rattle.promises.specs.Flash.{place_of, store}
use Rattle.promises.specs.Events.{acknowledged, each}
use Rattle.promises.specs.Reads.{ReadWorld, read_shows, read_run}
use Rattle.promises.specs.Demand3.{end_in, EndedWell, clean, Accepted}
use Rattle.promises.specs.Courses.{events_at, ran}
use Rattle.promises.specs.Reading.{flash_bytes, ReadAnswered, all_got, gave_up_lem, disbelieved, ReadTold, read_ran, read_ran_in, ReadsTrue}
use Rattle.promises.proofs.Courses.{run_leaves, heard_sound, heard_in_lem, unbroken}
use Rattle.promises.proofs.ReadSteps.{read_world, head_of, head_long}
use Rattle.promises.proofs.Reading.{flash_long, step_head_heard, block_after, step_read_heard, block_after_lem}
use Rattle.promises.proofs.ReadStopped.{start, start_is, read_ended, read_empty, stopped, damaged}
use Rattle.promises.proofs.ReadHost.{any_host}
use Rattle.promises.proofs.ReadCourses.{same, ends, runs_on}

-- ---- a read that ends well

-- has had every block
done_all : (n i : ℕ) (a : Answer) → number_of a ≡ 0 → ReadAnswered false n i a → n ≤ i * 32
done_all n i a w (all_got z h) = h
done_all n i a w (gave_up_lem (inl z) h) = absurd (omega arith)
done_all n i a w (gave_up_lem (inr z) h) = absurd (omega arith)
done_all n i a w (disbelieved noise z h) = absurd (false≢true noise)

well_all : (n i : ℕ) (t : Transfer) → EndedWell (end_in t) → ReadTold false n i t → n ≤ i * 32
well_all n i (transfer.Write count) w s = absurd w
well_all n i (transfer.Read command count) w s = absurd w
well_all n i (transfer.Refused a) w s = absurd s
well_all n i (transfer.Ended a) w s = done_all n i a w s

-- as many bytes of the flash as there are in the buffer
wanted_long : (address : ℕ) (buffer work flash : List ℕ) → Accepted address buffer work flash → length (flash_bytes address (length buffer) flash) ≡ length buffer
wanted_long address buffer work flash a = by (eqb (length buffer) 0) refl
  where
    by : (t : Bool) → eqb (length buffer) 0 ≡ t → length (flash_bytes address (length buffer) flash) ≡ length buffer
    by true t =
        let empty : length buffer ≡ 0 = eqb-true _ _ t in
        length-take (length buffer) (drop (place_of address) flash) ∙ omega arith
    by false t =
        let empty : length buffer ≡ 0 → ⊥ = eqb-false _ _ t in
        let w = within address (length buffer) a.window (omega arith) in
        flash_long address (length buffer) flash a.whole w.0 w.1

-- all of them laid over the buffer
all_over : (wanted old : List ℕ) (m : ℕ) → length wanted ≡ length old → length old ≤ m → over (take m wanted) old ≡ wanted
unfolding over
all_over wanted old m long h =
    let e : take m wanted ≡ wanted = take_all m wanted (omega arith) in
    rw (e, long, drop-length, append-nil)

module _ (payload : List ℕ) (config : Config) (address : ℕ) (buffer work flash : List ℕ) (a : Accepted address buffer work flash) (gauge : Gauge) where
  -- no read changes the flash, and one that ends well returns its bytes
  reads : (course : List ℕ) → sound_of course ≡ true
      → ((read_ran config address payload buffer work flash gauge course).flash ≡ flash)
      × (EndedWell (read_ran config address payload buffer work flash gauge course).run.end
      → (read_ran config address payload buffer work flash gauge course).buffer ≡ flash_bytes address (length buffer) flash)
  reads course sound =
      let w : ReadWorld = read_ran_in config address buffer work flash gauge course in
      let s = stopped config address buffer work flash a gauge (events_at course) in
      let is = same payload config address buffer work flash a gauge course sound in (
        ap (λ (l : Left). l.flash) is ∙ s.kept,
        λ well.
            let all : length buffer ≤ w.got * 32 =
            well_all (length buffer) w.got (read_shows w) (subst EndedWell (ends payload config address buffer work flash a gauge course sound) well) s.told in
            ap (λ (l : Left). l.buffer) is ∙ s.front ∙ all_over (flash_bytes address (length buffer) flash) buffer (w.got * 32) (wanted_long address buffer work flash a) all,
      )

-- ---- every transfer is acknowledged

module _ (config : Config) (address n : ℕ) (old flash : List ℕ) (room : 39 ≤ n) (whole : length flash ≡ 8192)
    (low : 0x4000 ≤ address) (high : address + length old ≤ 0x6000) where
  -- each reply brings the next block, until there is none
  reads_on : (m i : ℕ) (b : Budget) (t : Tally) (g : Gauge) (buffer work : List ℕ) → length work ≡ n → i * 32 < length old → blocks_of (length old) ≤ i + m
      → g.pointer ≡ address + i * 32 → buffer ≡ over (take (i * 32) (flash_bytes address (length old) flash)) old
      → (read_run (replicate m acknowledged) (read_world config address (length old) n phase.Waiting false i b t g buffer work flash)).call.phase ≡ phase.Ended answer.Done
  unfolding each phase_after when◌then◌else◌
  reads_on zero i b t g buffer work long l k q f = absurd (omega arith)
  reads_on (suc m) i b t g buffer work long l k q f =
      ap (λ (w : ReadWorld). (read_run (replicate m acknowledged) w).call.phase) (step_read_heard false config address n old flash room whole low high i b t g buffer work long l f)
      ∙ by (leb (blocks_of (length old)) (suc i)) refl
      (λ z. reads_on m (suc i) b (tallied t) (record { pointer = min (g.pointer + 32) 0x6000 }) (block_after false config address n old flash room whole low high i b t g buffer work long l f) work long (omega arith) (omega arith) (omega arith) (block_after_lem false config address n old flash room whole low high i b t g buffer work long l f q))
    where
      next : Phase → ReadWorld
      next p = read_world config address (length old) n p false (suc i) b (tallied t) (record { pointer = min (g.pointer + 32) 0x6000 }) (block_after false config address n old flash room whole low high i b t g buffer work long l f) work flash

      by : (z : Bool) → leb (blocks_of (length old)) (suc i) ≡ z
          → (suc i < blocks_of (length old) → (read_run (replicate m acknowledged) (next phase.Waiting)).call.phase ≡ phase.Ended answer.Done)
          → (read_run (replicate m acknowledged) (next (when z then phase.Ended answer.Done else phase.Waiting))).call.phase ≡ phase.Ended answer.Done
      by true z more = ap (λ (w : ReadWorld). w.call.phase) (read_ended config address (length old) n (replicate m acknowledged) answer.Done false (suc i) b (tallied t) _ _ work flash)
      by false z more = more (leb-false _ _ z)

  -- the head first
  reads_all : (m : ℕ) (b : Budget) (t : Tally) (g : Gauge) (work : List ℕ) → length work ≡ n → 0 < length old → blocks_of (length old) < m
      → (read_run (replicate m acknowledged) (read_world config address (length old) n phase.Waiting true 0 b t g old work flash)).call.phase ≡ phase.Ended answer.Done
  unfolding each phase_after when◌then◌else◌ over
  reads_all zero b t g work long some k = absurd (omega arith)
  reads_all (suc m) b t g work long some k =
      let more : leb (blocks_of (length old)) 0 ≡ false = lt-leb (blocks_of (length old)) 0 (omega arith) in
      ap (λ (w : ReadWorld). (read_run (replicate m acknowledged) w).call.phase)
      (step_head_heard false config address n old flash room whole low high 0 b t g old work long (omega arith) refl ∙ rw more)
      ∙ reads_on m 0 b (tallied t) (record { pointer = address + 0 * 32 }) old (over (head_of config address (length old) n 0) work)
      (head_long config address (length old) n 0 b t g old work flash refl long room) (omega arith) (omega arith) refl refl

shows_done : (call : ReadCall) (n w : ℕ) → call.phase ≡ phase.Ended answer.Done → next_of call n w ≡ transfer.Ended answer.Done
unfolding next_of case◌waiting◌ended◌
shows_done call n w e = rw e

module _ (payload : List ℕ) (config : Config) (address : ℕ) (buffer work flash : List ℕ) (a : Accepted address buffer work flash) (gauge : Gauge) where
  -- a read over heard transfers ends well
  heard_ends : (m : ℕ) → blocks_of (length buffer) < m → EndedWell (read_ran config address payload buffer work flash gauge (replicate m 0)).run.end
  unfolding when◌then◌else◌
  heard_ends m k =
      let w : ReadWorld = read_ran_in config address buffer work flash gauge (replicate m 0) in
      let shown : read_shows w ≡ transfer.Ended answer.Done =
      shows_done w.call (length w.buffer) (length w.work) (rw (heard_in_lem m) (by (eqb (length buffer) 0) refl)) in
      rw (ends payload config address buffer work flash a gauge (replicate m 0) (heard_sound m), shown) refl
    where
      by : (t : Bool) → eqb (length buffer) 0 ≡ t → (read_run (replicate m acknowledged) (start config address buffer work flash a gauge)).call.phase ≡ phase.Ended answer.Done
      by true t = ap (λ (w : ReadWorld). w.call.phase) (read_empty config address buffer work flash a gauge (eqb-true _ _ t) (replicate m acknowledged))
      by false t =
          let some : length buffer ≡ 0 → ⊥ = eqb-false _ _ t in
          let w = within address (length buffer) a.window (omega arith) in
          rw (start_is config address buffer work flash a gauge false t)
          (reads_all config address (length work) buffer flash a.room a.whole w.0 w.1 m _ nothing gauge work refl (omega arith) k)

-- what a clean write left is the payload
clean_bytes : (address : ℕ) (payload flash : List ℕ) → place_of address + length payload ≤ length flash → flash_bytes address (length payload) (clean address payload flash) ≡ payload
unfolding store
clean_bytes address payload flash fits =
    let front : length (take (place_of address) flash) ≡ place_of address = length-take-le (place_of address) flash (omega arith) in
    rw (append_assoc, drop_at (take (place_of address) flash) _ (place_of address) front) (take-append_seam payload _)

reads_back : (config config' : Config) (address : ℕ) (payload beside work flash payload' buffer work' : List ℕ) → Accepted address payload work flash
    → length buffer ≡ length payload → 39 ≤ length work'
    → (gauge gauge' : Gauge) (n m : ℕ) → length payload ≤ n * 32 → length payload + 32 ≤ m * 32
    → EndedWell (read_ran config' address payload' buffer work' (ran config address payload beside work flash gauge (replicate n 0)).flash gauge' (replicate m 0)).run.end
    × ((read_ran config' address payload' buffer work' (ran config address payload beside work flash gauge (replicate n 0)).flash gauge' (replicate m 0)).buffer ≡ payload)
reads_back config config' address payload beside work flash payload' buffer work' a fits room gauge gauge' n m blocks spare =
    let more : blocks_of (length payload) < m = omega arith in
    let now : List ℕ = (ran config address payload beside work flash gauge (replicate n 0)).flash in
    let clean-now : now ≡ clean address payload flash = (unbroken config address payload beside work flash a gauge n (omega arith)).1 in
    let c : Accepted address buffer work' now =
    record { window = rw fits a.window; room = room; whole = (run_leaves config address payload work flash a gauge beside (replicate n 0) (heard_sound n)).bytes.size ∙ a.whole } in
    let well : EndedWell (read_ran config' address payload' buffer work' now gauge' (replicate m 0)).run.end = heard_ends payload' config' address buffer work' now c gauge' m (rw fits more) in (
      well,
      (reads payload' config' address buffer work' now c gauge' (replicate m 0) (heard_sound m)).1 well
          ∙ rw (fits, clean-now) (by (eqb (length payload) 0) refl),
    )
  where
    by : (t : Bool) → eqb (length payload) 0 ≡ t → flash_bytes address (length payload) (clean address payload flash) ≡ payload
    by true t =
        let empty : length payload ≡ 0 = eqb-true _ _ t in
        let short : take 0 payload ≡ payload = take_all 0 payload (omega arith) in
        rw empty short
    by false t =
        let some : length payload ≡ 0 → ⊥ = eqb-false _ _ t in
        let w = within address (length payload) a.window (omega arith) in
        let whole : length flash ≡ 8192 = a.whole in
        clean_bytes address payload flash (omega arith)

-- READS ARE TRUE
pub reads_true : ReadsTrue
reads_true =
    record {
      stopped = λ config address buffer work flash a gauge es. stopped config address buffer work flash a gauge es;
      damaged = λ config address buffer work flash a pec gauge cs d. damaged config address buffer work flash a gauge pec cs d;
      any_host = λ config address buffer work flash a gauge doings allowed. any_host config address buffer work flash a gauge doings allowed;
      same = λ config address payload buffer work flash a gauge course sound. same payload config address buffer work flash a gauge course sound;
      reads = λ config address payload buffer work flash a gauge course sound. reads payload config address buffer work flash a gauge course sound;
      runs_on = λ config address payload buffer work flash a gauge course further p q. runs_on payload config address buffer work flash a gauge course further p q;
      reads_back = reads_back;
    }
