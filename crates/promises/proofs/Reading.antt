-- A data-flash read over events: what every event keeps, whatever its cause.
-- Assumes nothing.
use Prim.Native.Nat.{ℕ, suc, ◌+◌, ◌*◌, ◌-◌, ◌≤◌, ◌<◌, min}
use mathlib.Core.Path.{◌≡◌, refl, sym, ap, ◌∙◌}
use mathlib.Core.Bool.{Bool, true, false, false≢true}
use mathlib.Core.List.{List, [], ◌∷◌}
use native.Mathlib.Omega.{arith}
use lib.Dec.{eqb, leb}
use lib.ListN.{length, take, drop, length-take, length-drop}
use lib.Seq.{length-take-le}
use borrow.Author.Tests.{leb-true, leb-false}
use Rattle.smbus_pec.specs.Pec.{pec_of}
use Rattle.protocol.specs.Pick.{when◌then◌else◌}
use Rattle.protocol.specs.Bytes.{over, stored_at, blocks_of}
use Rattle.protocol.specs.Reply.{data_of}
use Rattle.protocol.specs.declared.common.Config.{Config}
use Rattle.protocol.specs.declared.error.Answer.{Answer}
use Rattle.protocol.specs.declared.error.Answer.TheVariants as answer
use Rattle.protocol.proofs.Laws.{length_over}
use Rattle.engine.specs.Pick.{case◌retry◌spent◌}
use Rattle.engine.specs.Budget.{failed as failedOf, tallied}
use Rattle.engine.specs.Bus.{phase_after}
use Rattle.engine.specs.declared.budget.Budget.{Budget}
use Rattle.engine.specs.declared.budget.Tally.{Tally}
use Rattle.engine.specs.declared.bus.Phase.{Phase}
use Rattle.engine.specs.declared.bus.Phase.TheVariants as phase
use Rattle.reading.specs.Parts.{has_head, block_ask}
use Rattle.reading.specs.Reading.{retry_of, end_of, fail_of}
use Rattle.r5.specs.Plans.{read_dataflash}
use Rattle.model_gauge.specs.Gauge.{offset_of, moved_of}
use Rattle.model_gauge.specs.declared.gauge.Gauge.{Gauge}
use Rattle.promises.specs.Flash.{place_of, block_of}
use Rattle.original.proofs.Laws.{missed}
use Rattle.promises.specs.Events.{Cause, Event, acknowledged, failed, unheard, cause_of, heard_as as heardBy, after, flash_after, acked_after, each}
use Rattle.promises.specs.Reads.{ReadWorld, heard, read_step, read_run, Coming, comes, damaged, read_over, Damages, read_noisily}
use Rattle.promises.specs.Reading.{flash_bytes, ReadAnswered, all_got, gave_up_lem, disbelieved}
use Rattle.promises.proofs.Machine.{why_of, why_number}
use Rattle.promises.proofs.Replies.{cut_reply, reply_good, reply_data}
use Rattle.promises.proofs.Frames.{address_points, address_stores}
use Rattle.promises.proofs.ReadSteps.{wanted_block, pointed_by, read_at, read_world, head_of, head_long, made_head, brought_at, made_read, heard_failed, head_heard, head_heard_buffer, received, received_buffer, made_damaged, made_over, damaged_head, damaged_over, block_in_lem}

-- as many bytes of the flash as are wanted
pub flash_long : (address size : ℕ) (flash : List ℕ) → length flash ≡ 8192 → 0x4000 ≤ address → address + size ≤ 0x6000 → length (flash_bytes address size flash) ≡ size
flash_long address size flash whole low high = length-take-le size (drop (place_of address) flash) (simp length-drop (omega arith))

module _ (noisy : Bool) (config : Config) (address n : ℕ) (old flash : List ℕ) (room : 39 ≤ n) (whole : length flash ≡ 8192)
    (low : 0x4000 ≤ address) (high : address + length old ≤ 0x6000) where
  abbrev pub size : ℕ
  size = length old

  abbrev pub wanted : List ℕ
  wanted = flash_bytes address (length old) flash

  wanted_long : length wanted ≡ size
  wanted_long = flash_long address size flash whole low high

  -- a call that waits has a block to read, and where its head was heard the pointer stands at that block; one that has ended says what has come
  abbrev pub Kept : Phase → Bool → ℕ → Gauge → Type 0
  Kept phase.Waiting h i g = (i * 32 < size) × (h ≡ false → g.pointer ≡ address + i * 32)
  Kept (phase.Ended a) h i g = ReadAnswered noisy size i a

  -- the blocks that were acknowledged stand in front, and the rest of the buffer is as it was; the flash is as it was
  pub record Reading (w : ReadWorld) : Type 0 where
    pub at : Phase
    pub head : Bool
    pub i : ℕ
    pub b : Budget
    pub t : Tally
    pub gauge : Gauge
    pub buffer : List ℕ
    pub work : List ℕ
    pub is : w ≡ read_world config address size n at head i b t gauge buffer work flash
    pub long : length work ≡ n
    pub front : buffer ≡ over (take (i * 32) wanted) old
    pub kept : Kept at head i gauge

  pub buffer_long : (i : ℕ) (buffer : List ℕ) → buffer ≡ over (take (i * 32) wanted) old → length buffer ≡ size
  buffer_long i buffer e = ap length e ∙ length_over (take (i * 32) wanted) old (omega (arith, length-take (i * 32) wanted, wanted_long))

  -- a failed attempt: the head is due again, or the call gives up
  reading_failed : (why : Answer) (h : Bool) (i : ℕ) (b : Budget) (t : Tally) (g : Gauge) (buffer work : List ℕ) → length work ≡ n → i * 32 < size → ReadAnswered noisy size i why
      → buffer ≡ over (take (i * 32) wanted) old
      → Reading (record { call = fail_of (read_at config address size n phase.Waiting h i b t) why; gauge = g; buffer = buffer; work = work; flash = flash; got = i })
  unfolding fail_of failedOf case◌retry◌spent◌ retry_of end_of has_head read_dataflash when◌then◌else◌
  reading_failed why h i b t g buffer work long l says f = by (eqb b.left 0) refl
    where
      by : (z : Bool) → eqb b.left 0 ≡ z
          → Reading (record { call = fail_of (read_at config address size n phase.Waiting h i b t) why; gauge = g; buffer = buffer; work = work; flash = flash; got = i })
      by true z =
          rw z
          (record { at = phase.Ended why; head = h; i = i; b = b; t = t; gauge = g; buffer = buffer; work = work; is = refl; long = long; front = f; kept = says })
      by false z =
          rw z
          (record {
            at = phase.Waiting;
            head = true;
            i = i;
            b = record { left = b.left - 1 };
            t = missed config.growing_waits config.max_read_retries b.left t;
            gauge = g;
            buffer = buffer;
            work = work;
            is = refl;
            long = long;
            front = f;
            kept = (l, λ e. absurd (false≢true (sym e)));
          })

  kept_after : (h : Bool) (i : ℕ) (g : Gauge) → (i * 32 < size → g.pointer ≡ address + i * 32) → Kept (phase_after (blocks_of size) i) h i g
  unfolding phase_after when◌then◌else◌
  kept_after h i g points = by (leb (blocks_of size) i) refl
    where
      by : (z : Bool) → leb (blocks_of size) i ≡ z → Kept (when z then phase.Ended answer.Done else phase.Waiting) h i g
      by true z = let l : blocks_of size ≤ i = leb-true _ _ z in all_got refl (omega arith)
      by false z =
          let l : i < blocks_of size = leb-false _ _ z in
          let m : i * 32 < size = omega arith in
          (m, λ e. points m)

  -- ---- the head is due

  module _ (i : ℕ) (b : Budget) (t : Tally) (g : Gauge) (buffer work : List ℕ) (long : length work ≡ n) (l : i * 32 < size) (f : buffer ≡ over (take (i * 32) wanted) old) where
    fits : length buffer ≡ size
    fits = buffer_long i buffer f

    -- the head was heard: the gauge points at its block
    pub step_head_heard : read_step acknowledged (read_world config address size n phase.Waiting true i b t g buffer work flash)
        ≡ read_world config address size n (phase_after (blocks_of size) i) false i b (tallied t) (record { pointer = address + i * 32 }) buffer (over (head_of config address size n i) work) flash
    unfolding heard
    step_head_heard =
        let a : address + i * 32 < 0x6000 = omega arith in
        made_head config address size n i b t g buffer work flash fits long room acknowledged []
        ∙ rw (head_long config address size n i b t g buffer work flash fits long room, address_points config.pec_read (address + i * 32) (omega arith) a g flash, address_stores config.pec_read (address + i * 32) (omega arith) a flash, head_heard_buffer config address size n i b t g buffer work flash fits long room, fits, head_heard config address size n i b t g buffer work flash fits long room)

    -- the head is lost, before the gauge acts or after
    head_failed : (e : Event) (c : Cause) → heardBy e ≡ cause_of c → (g' : Gauge)
        → after e g (pointed_by (head_of config address size n i) g flash) ≡ g' → flash_after e (head_of config address size n i) flash ≡ flash
        → Reading (read_step e (read_world config address size n phase.Waiting true i b t g buffer work flash))
    head_failed e c o g' p q =
        let laid : length (over (head_of config address size n i) work) ≡ n = head_long config address size n i b t g buffer work flash fits long room in
        rw (made_head config address size n i b t g buffer work flash fits long room e [], heard_failed config address size n i b t g buffer work flash fits long room e c o true [] [] (over (head_of config address size n i) work) laid (after e g (pointed_by (head_of config address size n i) g flash)) (flash_after e (head_of config address size n i) flash) i, p, q)
        (reading_failed (why_of c) true i b (tallied t) g' buffer (over (head_of config address size n i) work) laid l (gave_up_lem (why_number c) l) f)

    head_event : (e : Event) → Reading (read_step e (read_world config address size n phase.Waiting true i b t g buffer work flash))
    head_event acknowledged =
        rw step_head_heard
        (record {
          at = phase_after (blocks_of size) i;
          head = false;
          i = i;
          b = b;
          t = tallied t;
          gauge = record { pointer = address + i * 32 };
          buffer = buffer;
          work = over (head_of config address size n i) work;
          is = refl;
          long = head_long config address size n i b t g buffer work flash fits long room;
          front = f;
          kept = kept_after false i (record { pointer = address + i * 32 }) (λ m. refl);
        })
    head_event (failed c) = head_failed (failed c) c refl _ refl refl
    head_event (unheard c) = head_failed (unheard c) c refl _ refl (address_stores config.pec_read (address + i * 32) (omega arith) (omega arith) flash)

    -- ---- a read is due

    -- the buffer with the block of a reply in it
    abbrev pub block_after : List ℕ
    block_after = stored_at (i * 32) 32 (data_of (block_ask (size - i * 32) config.pec_read) (cut_reply g flash config.pec_read (size - i * 32))) buffer

    -- the block has come: the pointer moves on
    pub step_read_heard : read_step acknowledged (read_world config address size n phase.Waiting false i b t g buffer work flash)
        ≡ read_world config address size n (phase_after (blocks_of size) (suc i)) false (suc i) b (tallied t) (record { pointer = min (g.pointer + 32) 0x6000 }) block_after work flash
    unfolding heard moved_of
    step_read_heard =
        let good = reply_good g flash config.pec_read (size - i * 32) in
        made_read config address size n i b t g buffer work flash fits long room acknowledged []
        ∙ rw (long, received_buffer config address size n i b t g buffer work flash fits long room (cut_reply g flash config.pec_read (size - i * 32)) good, fits, received config address size n i b t g buffer work flash fits long room (cut_reply g flash config.pec_read (size - i * 32)) good (omega arith))

    -- its data is the block that is due
    pub block_after_lem : g.pointer ≡ address + i * 32 → block_after ≡ over (take (suc i * 32) wanted) old
    block_after_lem q =
        let place : offset_of g.pointer ≡ place_of address + i * 32 = rw q (omega arith) in
        let bytes : take (min 32 (size - i * 32)) (data_of (block_ask (size - i * 32) config.pec_read) (cut_reply g flash config.pec_read (size - i * 32))) ≡ block_of 32 i wanted =
        reply_data g flash config.pec_read (size - i * 32) (omega arith) ∙ rw place (sym (wanted_block (place_of address) size i flash)) in
        block_in_lem size i wanted old buffer _ l wanted_long refl f bytes

    -- the read is lost, before the gauge acts or after
    read_failed : (e : Event) (c : Cause) → heardBy e ≡ cause_of c → acked_after e i ≡ i
        → Reading (read_step e (read_world config address size n phase.Waiting false i b t g buffer work flash))
    read_failed e c o k =
        rw (made_read config address size n i b t g buffer work flash fits long room e [], k, heard_failed config address size n i b t g buffer work flash fits long room e c o false (brought_at config address size n i b t g buffer work flash fits long room) [] work long (after e g (moved_of g)) flash i)
        (reading_failed (why_of c) false i b (tallied t) (after e g (moved_of g)) buffer work long l (gave_up_lem (why_number c) l) f)

    read_event : (e : Event) → g.pointer ≡ address + i * 32 → Reading (read_step e (read_world config address size n phase.Waiting false i b t g buffer work flash))
    read_event acknowledged q =
        rw step_read_heard
        (record {
          at = phase_after (blocks_of size) (suc i);
          head = false;
          i = suc i;
          b = b;
          t = tallied t;
          gauge = record { pointer = min (g.pointer + 32) 0x6000 };
          buffer = block_after;
          work = work;
          is = refl;
          long = long;
          front = block_after_lem q;
          kept = kept_after false (suc i) (record { pointer = min (g.pointer + 32) 0x6000 }) (λ m. omega arith);
        })
    read_event (failed c) q = read_failed (failed c) c refl refl
    read_event (unheard c) q = read_failed (unheard c) c refl refl

    -- the reply is damaged: the gauge has acted, and the attempt failed
    read_damaged : noisy ≡ true → config.pec_read ≡ true → (front : List ℕ) (last : ℕ) → length front ≡ 35 → (pec_of 0 (0x16 ∷ 0x44 ∷ 0x17 ∷ front) ≡ last → ⊥)
        → Reading (read_over (damaged front last) (read_world config address size n phase.Waiting false i b t g buffer work flash))
    read_damaged noise pec front last full other =
        rw (made_damaged config address size n i b t g buffer work flash fits long room pec front last full other)
        (reading_failed answer.Pec false i b (tallied t) (moved_of g) buffer work long l (disbelieved noise refl l) f)

  -- ---- every event

  reading_at : (e : Event) (p : Phase) (h : Bool) (i : ℕ) (b : Budget) (t : Tally) (g : Gauge) (buffer work : List ℕ) → length work ≡ n
      → buffer ≡ over (take (i * 32) wanted) old → Kept p h i g
      → Reading (read_step e (read_world config address size n p h i b t g buffer work flash))
  reading_at e (phase.Ended a) h i b t g buffer work long f k =
      rw (made_over config address size n e [] a h i b t g buffer work flash)
      (record { at = phase.Ended a; head = h; i = i; b = b; t = t; gauge = g; buffer = buffer; work = work; is = refl; long = long; front = f; kept = k })
  reading_at e phase.Waiting true i b t g buffer work long f k = head_event i b t g buffer work long k.0 f e
  reading_at e phase.Waiting false i b t g buffer work long f k = read_event i b t g buffer work long k.0 f e (k.1 refl)

  pub reading_step : (e : Event) (w : ReadWorld) → Reading w → Reading (read_step e w)
  reading_step e w r = rw r.is (reading_at e r.at r.head r.i r.b r.t r.gauge r.buffer r.work r.long r.front r.kept)

  pub reading_run : (es : List Event) (w : ReadWorld) → Reading w → Reading (read_run es w)
  unfolding each
  reading_run [] w r = r
  reading_run (e ∷ es) w r = reading_run es (read_step e w) (reading_step e w r)

  -- ---- and every reply that is damaged

  damaged_at : noisy ≡ true → config.pec_read ≡ true → (front : List ℕ) (last : ℕ) → length front ≡ 35 → (pec_of 0 (0x16 ∷ 0x44 ∷ 0x17 ∷ front) ≡ last → ⊥)
      → (p : Phase) (h : Bool) (i : ℕ) (b : Budget) (t : Tally) (g : Gauge) (buffer work : List ℕ) → length work ≡ n → buffer ≡ over (take (i * 32) wanted) old → Kept p h i g
      → Reading (read_over (damaged front last) (read_world config address size n p h i b t g buffer work flash))
  damaged_at noise pec front last full other (phase.Ended a) h i b t g buffer work long f k =
      rw (damaged_over config address size n front last a h i b t g buffer work flash)
      (record { at = phase.Ended a; head = h; i = i; b = b; t = t; gauge = g; buffer = buffer; work = work; is = refl; long = long; front = f; kept = k })
  damaged_at noise pec front last full other phase.Waiting true i b t g buffer work long f k =
      rw (damaged_head config address size n i b t g buffer work flash (buffer_long i buffer f) long room front last) (head_event i b t g buffer work long k.0 f acknowledged)
  damaged_at noise pec front last full other phase.Waiting false i b t g buffer work long f k = read_damaged i b t g buffer work long k.0 f noise pec front last full other

  pub reading_noise : noisy ≡ true → config.pec_read ≡ true → (cs : List Coming) → Damages cs → (w : ReadWorld) → Reading w → Reading (read_noisily cs w)
  unfolding each read_over
  reading_noise noise pec [] d w r = r
  reading_noise noise pec (comes e ∷ cs) d w r = reading_noise noise pec cs d (read_step e w) (reading_step e w r)
  reading_noise noise pec (damaged front last ∷ cs) (full, other, d) w r =
      reading_noise noise pec cs d (read_over (damaged front last) w)
      (rw r.is (damaged_at noise pec front last full other r.at r.head r.i r.b r.t r.gauge r.buffer r.work r.long r.front r.kept))
