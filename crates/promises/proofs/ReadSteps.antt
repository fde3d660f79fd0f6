-- What one event does to a data-flash read that waits: the head or the read that is due goes out, and the call is where its outcome leads.
-- Assumes nothing.
use Rattle.std.specs.Prelude.{Err, Ok}
use Prim.Native.Nat.{ℕ, zero, suc, ◌+◌, ◌*◌, ◌-◌, ◌≤◌, ◌<◌, min}
use mathlib.Core.Path.{◌≡◌, refl, sym, ap, ◌∙◌}
use mathlib.Core.Bool.{Bool, true, false}
use mathlib.Core.List.{List, [], ◌∷◌, ◌++◌}
use native.Mathlib.Omega.{arith}
use native.Mathlib.Nat.{zero-sub, sub-zero, suc-sub-suc}
use lib.ListN.{length, take, drop, length-take, length-drop}
use lib.Seq.{take-add, drop-drop, take-nil, length-take-le}
use borrow.Author.Tests.{eq-eqb, le-leb, lt-ltb}
use Rattle.smbus_pec.specs.Pec.{pec_of}
use Rattle.protocol.specs.Pick.{when◌then◌else◌}
use Rattle.protocol.specs.Bytes.{over, block_in, stored_at, blocks_of}
use Rattle.protocol.specs.Frame.{sealed, pair_of, mac_bytes, laid_of, work_laid}
use Rattle.protocol.specs.Reply.{mac_ask, bytes_asked, heard_of, data_of}
use Rattle.protocol.specs.declared.common.Config.{Config}
use Rattle.protocol.specs.declared.error.Answer.{Answer}
use Rattle.protocol.specs.declared.error.Answer.TheVariants as answer
use Rattle.protocol.specs.declared.reply.Unheard.TheVariants as unheard
use Rattle.protocol.proofs.Laws.{take_over, length_over, take_min, laid_more}
use Rattle.engine.specs.Pick.{case◌waiting◌ended◌, case◌acknowledged◌error◌timeout◌}
use Rattle.engine.specs.Budget.{tallied}
use Rattle.engine.specs.Bus.{write_of, phase_after, fits_of}
use Rattle.engine.specs.Made.{write, read}
use Rattle.engine.specs.declared.budget.Budget.{Budget}
use Rattle.engine.specs.declared.budget.Tally.{Tally}
use Rattle.engine.specs.declared.bus.Outcome.TheVariants as outcome
use Rattle.engine.specs.declared.bus.Phase.{Phase}
use Rattle.engine.specs.declared.bus.Phase.TheVariants as phase
use Rattle.engine.specs.declared.bus.Transfer.TheVariants as transfer
use Rattle.reading.specs.Pick.{case◌refused◌fault◌headed◌block◌}
use Rattle.reading.specs.Parts.{head_bytes, block_ask, ask_of, most_of}
use Rattle.reading.specs.Parts as parts
use Rattle.reading.specs.Reading.{due_ask, shown_head, work_head, shown_of, work_shown, next_of, work_after, headed_of, advance_of, fail_of, heard_head, verdict_of, heard_block, acknowledged_of, weigh_of, judge_of, stored_of, counted_of, report_of, buffer_after}
use Rattle.reading.specs.declared.call.ReadCall.{ReadCall}
use Rattle.engine.specs.declared.bus.Task.{Task}
use Rattle.reading.specs.declared.call.ReadPlan.{ReadPlan}
use Rattle.r5.specs.Plans.{read_dataflash}
use Rattle.model_gauge.specs.Gauge.{reply_of, moved_of, taken, acts, effect_of}
use Rattle.model_gauge.specs.declared.gauge.Gauge.{Gauge}
use Rattle.model_gauge.proofs.Replies.{replied}
use Rattle.answers.specs.Runs.{call_r}
use Rattle.promises.specs.Flash.{block_of}
use Rattle.promises.specs.Events.{Cause, bus_error, timed_out, Event, acknowledged, failed, unheard, cause_of, heard_as as heardBy, lent_of, after, flash_after, acked_after}
use Rattle.promises.specs.Host.{makes}
use Rattle.promises.specs.Reads.{ReadWorld, heard, head_sent, asked, lending, read_made, read_step, damaged, read_over}
use Rattle.promises.proofs.Machine.{why_of}
use Rattle.promises.proofs.Replies.{count_of, reply_damaged}

-- the whole budget of a read
abbrev pub read_budget : Config → Budget
read_budget config = record { left = config.max_read_retries }

drop_take : (a b : ℕ) (l : List ℕ) → drop a (take b l) ≡ take (b - a) (drop a l)
drop_take zero b l = rw sub-zero
drop_take (suc a) zero l = rw zero-sub
drop_take (suc a) (suc b) [] = sym (take-nil (suc b - suc a))
drop_take (suc a) (suc b) (x ∷ l) = rw suc-sub-suc (drop_take a b l)

-- block i of what is wanted, straight from the flash
pub wanted_block : (at n i : ℕ) (flash : List ℕ) → block_of 32 i (take n (drop at flash)) ≡ take (min 32 (n - i * 32)) (drop (at + i * 32) flash)
wanted_block at n i flash = rw (drop_take, take_min, drop-drop)

head_short : (pec : Bool) (a : ℕ) → length (sealed pec (mac_bytes (pair_of a) [])) ≤ 5
unfolding sealed mac_bytes pair_of when◌then◌else◌
head_short true a = omega arith
head_short false a = omega arith

ask_command : (pec : Bool) (left : ℕ) → (block_ask left pec).command ≡ 0x44
unfolding block_ask mac_ask when◌then◌else◌
ask_command true left = refl
ask_command false left = refl

pub ask_small : (pec : Bool) (left : ℕ) → bytes_asked (block_ask left pec) ≤ 36
unfolding when◌then◌else◌
ask_small true left = rw count_of (omega arith)
ask_small false left = rw count_of (omega arith)

-- where a frame that is heard points
abbrev pub pointed_by : List ℕ → Gauge → List ℕ → Gauge
pointed_by frame g flash = (acts (write frame) g flash).gauge

-- a read of at most a whole reply that is heard
pub read_acts : (count : ℕ) (g : Gauge) (flash : List ℕ) → count ≤ 36 → acts (read 0x44 count) g flash ≡ taken (take count (reply_of g flash)) (moved_of g) flash
unfolding effect_of moved_of
read_acts count g flash few = replied.asked count g flash few

module _ (config : Config) (address size n : ℕ) where
  abbrev pub read_task : Task ReadPlan
  read_task = record { plan = read_dataflash config address; lent = record { length = size; work = n } }

  -- the call with i blocks received
  abbrev pub read_at : Phase → Bool → ℕ → Budget → Tally → ReadCall
  read_at p h i b t = record { task = read_task; phase = p; heading = h; received = i; budget = b; tally = t }

  abbrev pub read_world : Phase → Bool → ℕ → Budget → Tally → Gauge → List ℕ → List ℕ → List ℕ → ReadWorld
  read_world p h i b t g buffer work flash = record { call = read_at p h i b t; gauge = g; buffer = buffer; work = work; flash = flash; got = i }

  -- the head of block i
  abbrev pub head_of : ℕ → List ℕ
  head_of i = sealed config.pec_read (mac_bytes (pair_of (address + i * 32)) [])

  module _ (i : ℕ) (b : Budget) (t : Tally) (g : Gauge) (buffer work flash : List ℕ) (fits : length buffer ≡ size) (long : length work ≡ n) (room : 39 ≤ n) where
    -- ---- the head is due

    pub shows_head : next_of (read_at phase.Waiting true i b t) (length buffer) (length work) ≡ transfer.Write (length (head_of i))
    unfolding next_of case◌waiting◌ended◌ fits_of shown_of shown_head read_dataflash head_bytes laid_of write_of when◌then◌else◌ mac_bytes pair_of
    shows_head = rw (eq-eqb (length buffer) size fits, eq-eqb (length work) n long, lt-ltb 4 (length work) (omega arith))

    pub lays_head : work_after (read_at phase.Waiting true i b t) (length buffer) work ≡ over (head_of i) work
    unfolding work_after case◌waiting◌ended◌ fits_of work_shown work_head read_dataflash head_bytes work_laid when◌then◌else◌ mac_bytes pair_of
    lays_head = rw (eq-eqb (length buffer) size fits, eq-eqb (length work) n long, lt-ltb 4 (length work) (omega arith))

    pub head_long : length (over (head_of i) work) ≡ n
    head_long = length_over (head_of i) work (omega (arith, head_short config.pec_read (address + i * 32))) ∙ long

    pub made_head : (e : Event) (beside : List ℕ)
        → read_made e beside (read_world phase.Waiting true i b t g buffer work flash)
        ≡ heard e [] beside (over (head_of i) work) (after e g (pointed_by (head_of i) g flash)) (flash_after e (head_of i) flash) i (read_world phase.Waiting true i b t g buffer work flash)
    unfolding read_made makes head_sent
    made_head e beside = rw (shows_head, lays_head, take_over)

    -- ---- a read is due

    pub shows_read : next_of (read_at phase.Waiting false i b t) (length buffer) (length work) ≡ transfer.Read 0x44 (bytes_asked (block_ask (size - i * 32) config.pec_read))
    unfolding next_of case◌waiting◌ended◌ fits_of shown_of due_ask ask_of read_dataflash when◌then◌else◌
    shows_read = rw (eq-eqb (length buffer) size fits, eq-eqb (length work) n long, ask_command)

    pub lays_none : work_after (read_at phase.Waiting false i b t) (length buffer) work ≡ work
    unfolding work_after case◌waiting◌ended◌ fits_of work_shown when◌then◌else◌
    lays_none = rw (eq-eqb (length buffer) size fits, eq-eqb (length work) n long)

    -- how many bytes it asks for, and those that the gauge brings
    abbrev pub count_at : ℕ
    count_at = bytes_asked (block_ask (size - i * 32) config.pec_read)

    abbrev pub brought_at : List ℕ
    brought_at = take count_at (reply_of g flash)

    pub made_read : (e : Event) (beside : List ℕ)
        → read_made e beside (read_world phase.Waiting false i b t g buffer work flash)
        ≡ heard e brought_at beside work (after e g (moved_of g)) flash (acked_after e i) (read_world phase.Waiting false i b t g buffer work flash)
    unfolding read_made makes asked
    made_read e beside =
        rw (shows_read, lays_none, read_acts count_at g flash (ask_small config.pec_read (size - i * 32)))

    -- ---- what the call hears

    reported_failed : (c : Cause) (h : Bool) (bytes : List ℕ) → call_r (report_of (read_at phase.Waiting h i b t) (cause_of c) bytes size n) ≡ fail_of (read_at phase.Waiting h i b (tallied t)) (why_of c)
    unfolding report_of counted_of judge_of weigh_of case◌waiting◌ended◌ case◌acknowledged◌error◌timeout◌ case◌refused◌fault◌headed◌block◌ fits_of when◌then◌else◌
    reported_failed (bus_error code) h bytes = rw (eq-eqb size size refl, eq-eqb n n refl)
    reported_failed timed_out h bytes = rw (eq-eqb size size refl, eq-eqb n n refl)

    buffer_failed : (c : Cause) (h : Bool) (bytes : List ℕ) → buffer_after (read_at phase.Waiting h i b t) (cause_of c) bytes buffer n ≡ buffer
    unfolding buffer_after judge_of weigh_of case◌waiting◌ended◌ case◌acknowledged◌error◌timeout◌ case◌refused◌fault◌headed◌block◌ fits_of when◌then◌else◌
    buffer_failed (bus_error code) h bytes = rw (eq-eqb (length buffer) size fits, eq-eqb n n refl)
    buffer_failed timed_out h bytes = rw (eq-eqb (length buffer) size fits, eq-eqb n n refl)

    -- of a failure its cause alone, whatever lies beside it
    pub heard_failed : (e : Event) (c : Cause) → heardBy e ≡ cause_of c → (h : Bool) (brought beside laid : List ℕ) → length laid ≡ n → (g' : Gauge) (flash' : List ℕ) (k : ℕ)
        → heard e brought beside laid g' flash' k (read_world phase.Waiting h i b t g buffer work flash)
        ≡ record { call = fail_of (read_at phase.Waiting h i b (tallied t)) (why_of c); gauge = g'; buffer = buffer; work = laid; flash = flash'; got = k }
    unfolding heard
    heard_failed e c o h brought beside laid long' g' flash' k =
        let bytes : List ℕ = lent_of e brought beside in
        rw (o, long', buffer_failed c h bytes, fits, reported_failed c h bytes)

    -- whatever lies beside a failure, and whatever work buffer was lent, the call hears the same
    pub heard_same : (e : Event) (h : Bool) (brought beside laid laid' work' : List ℕ) → length laid ≡ n → length laid' ≡ n → (g' : Gauge) (flash' : List ℕ) (k : ℕ)
        → heard e brought beside laid' g' flash' k (read_world phase.Waiting h i b t g buffer work' flash)
        ≡ lending laid' (heard e brought [] laid g' flash' k (read_world phase.Waiting h i b t g buffer work flash))
    unfolding heard
    heard_same (acknowledged) h brought beside laid laid' work' l l' g' flash' k = rw (l, l')
    heard_same (failed c) h brought beside laid laid' work' l l' g' flash' k =
        heard_failed (failed c) c refl h brought beside laid' l' g' flash' k
        ∙ ap (lending laid') (sym (heard_failed (failed c) c refl h brought [] laid l g' flash' k))
    heard_same (unheard c) h brought beside laid laid' work' l l' g' flash' k =
        heard_failed (unheard c) c refl h brought beside laid' l' g' flash' k
        ∙ ap (lending laid') (sym (heard_failed (unheard c) c refl h brought [] laid l g' flash' k))

    pub head_heard : call_r (report_of (read_at phase.Waiting true i b t) outcome.Acknowledged [] size n) ≡ read_at (phase_after (blocks_of size) i) false i b (tallied t)
    unfolding report_of counted_of judge_of weigh_of acknowledged_of heard_head headed_of parts.read_count read_dataflash case◌waiting◌ended◌ case◌acknowledged◌error◌timeout◌ case◌refused◌fault◌headed◌block◌ fits_of when◌then◌else◌
    head_heard = rw (eq-eqb size size refl, eq-eqb n n refl)

    pub head_heard_buffer : buffer_after (read_at phase.Waiting true i b t) outcome.Acknowledged [] buffer n ≡ buffer
    unfolding buffer_after judge_of weigh_of acknowledged_of heard_head case◌waiting◌ended◌ case◌acknowledged◌error◌timeout◌ case◌refused◌fault◌headed◌block◌ fits_of when◌then◌else◌
    head_heard_buffer = rw (eq-eqb (length buffer) size fits, eq-eqb n n refl)

    module _ (bytes : List ℕ) (good : heard_of (block_ask (size - i * 32) config.pec_read) bytes ≡ (Ok tt)) where
      pub received : i < 4294967295 → call_r (report_of (read_at phase.Waiting false i b t) outcome.Acknowledged bytes size n) ≡ read_at (phase_after (blocks_of size) (suc i)) false (suc i) b (tallied t)
      unfolding report_of counted_of judge_of weigh_of acknowledged_of heard_block verdict_of due_ask ask_of advance_of parts.read_count read_dataflash case◌waiting◌ended◌ case◌acknowledged◌error◌timeout◌ case◌refused◌fault◌headed◌block◌ fits_of when◌then◌else◌
      received h =
          let more : min (i + 1) 4294967295 ≡ suc i = omega arith in
          rw (eq-eqb size size refl, eq-eqb n n refl, good, more)

      pub received_buffer : buffer_after (read_at phase.Waiting false i b t) outcome.Acknowledged bytes buffer n
          ≡ stored_at (i * 32) 32 (data_of (block_ask (size - i * 32) config.pec_read) bytes) buffer
      unfolding buffer_after judge_of weigh_of acknowledged_of heard_block verdict_of due_ask ask_of stored_of most_of read_dataflash case◌waiting◌ended◌ case◌acknowledged◌error◌timeout◌ case◌refused◌fault◌headed◌block◌ fits_of when◌then◌else◌
      received_buffer = rw (eq-eqb (length buffer) size fits, eq-eqb n n refl, good)

    -- ---- the reply is damaged

    pub damaged_head : (front : List ℕ) (last : ℕ)
        → read_over (damaged front last) (read_world phase.Waiting true i b t g buffer work flash) ≡ read_step (acknowledged) (read_world phase.Waiting true i b t g buffer work flash)
    unfolding read_over read_made makes
    damaged_head front last = rw shows_head

    module _ (bytes : List ℕ) (wrong : heard_of (block_ask (size - i * 32) config.pec_read) bytes ≡ (Err unheard.WrongPec)) where
      disbelieved : call_r (report_of (read_at phase.Waiting false i b t) outcome.Acknowledged bytes size n) ≡ fail_of (read_at phase.Waiting false i b (tallied t)) answer.Pec
      unfolding report_of counted_of judge_of weigh_of acknowledged_of heard_block verdict_of due_ask ask_of read_dataflash case◌waiting◌ended◌ case◌acknowledged◌error◌timeout◌ case◌refused◌fault◌headed◌block◌ fits_of when◌then◌else◌
      disbelieved = rw (eq-eqb size size refl, eq-eqb n n refl, wrong)

      disbelieved_buffer : buffer_after (read_at phase.Waiting false i b t) outcome.Acknowledged bytes buffer n ≡ buffer
      unfolding buffer_after judge_of weigh_of acknowledged_of heard_block verdict_of due_ask ask_of read_dataflash case◌waiting◌ended◌ case◌acknowledged◌error◌timeout◌ case◌refused◌fault◌headed◌block◌ fits_of when◌then◌else◌
      disbelieved_buffer = rw (eq-eqb (length buffer) size fits, eq-eqb n n refl, wrong)

    pub made_damaged : config.pec_read ≡ true → (front : List ℕ) (last : ℕ) → length front ≡ 35 → (pec_of 0 (0x16 ∷ 0x44 ∷ 0x17 ∷ front) ≡ last → ⊥)
        → read_over (damaged front last) (read_world phase.Waiting false i b t g buffer work flash)
        ≡ record { call = fail_of (read_at phase.Waiting false i b (tallied t)) answer.Pec; gauge = moved_of g; buffer = buffer; work = work; flash = flash; got = i }
    unfolding read_over makes heard when◌then◌else◌
    made_damaged pec front last full other =
        let wrong : heard_of (block_ask (size - i * 32) config.pec_read) (front ++ (last ∷ [])) ≡ (Err unheard.WrongPec) = rw pec (reply_damaged (size - i * 32) front last full other) in
        let asks : count_at ≡ 36 = rw pec (count_of true (size - i * 32)) in
        rw (shows_read, lays_none, asks, read_acts 36 g flash (omega arith), long, disbelieved_buffer (front ++ (last ∷ [])) wrong, fits, disbelieved (front ++ (last ∷ [])) wrong)

-- an ended call stays as it is, whatever reply is damaged
pub damaged_over : (config : Config) (address size n : ℕ) (front : List ℕ) (last : ℕ) (a : Answer) (h : Bool) (i : ℕ) (b : Budget) (t : Tally) (g : Gauge) (buffer work flash : List ℕ)
    → read_over (damaged front last) (read_world config address size n (phase.Ended a) h i b t g buffer work flash) ≡ read_world config address size n (phase.Ended a) h i b t g buffer work flash
unfolding read_over next_of work_after case◌waiting◌ended◌ makes
damaged_over config address size n front last a h i b t g buffer work flash = refl

-- whatever becomes of a transfer that it does not make
pub made_over : (config : Config) (address size n : ℕ) (e : Event) (beside : List ℕ) (a : Answer) (h : Bool) (i : ℕ) (b : Budget) (t : Tally) (g : Gauge) (buffer work flash : List ℕ)
    → read_made e beside (read_world config address size n (phase.Ended a) h i b t g buffer work flash) ≡ read_world config address size n (phase.Ended a) h i b t g buffer work flash
unfolding read_made next_of work_after case◌waiting◌ended◌ makes
made_over config address size n e beside a h i b t g buffer work flash = refl

-- a block into the buffer, after the i blocks that are there
pub block_in_lem : (size i : ℕ) (wanted old buffer bytes : List ℕ) → i * 32 < size → length wanted ≡ size → length old ≡ size
    → buffer ≡ over (take (i * 32) wanted) old → take (min 32 (size - i * 32)) bytes ≡ block_of 32 i wanted
    → stored_at (i * 32) 32 bytes buffer ≡ over (take (suc i * 32) wanted) old
unfolding stored_at block_in when◌then◌else◌
block_in_lem size i wanted old buffer bytes h w o e q =
    let f : length (take (i * 32) wanted) ≡ i * 32 = length-take-le (i * 32) wanted (omega arith) in
    let l : length buffer ≡ size = ap length e ∙ length_over (take (i * 32) wanted) old (omega arith) ∙ o in
    let r : length (drop (i * 32) buffer) ≡ size - i * 32 = length-drop (i * 32) buffer ∙ ap (λ (m : ℕ). m - i * 32) l in
    let c : min (min 32 (size - i * 32)) (length bytes) ≡ min 32 (size - i * 32) =
    sym (length-take (min 32 (size - i * 32)) bytes) ∙ ap length q ∙ length-take 32 (drop (i * 32) wanted) ∙ ap (min 32) (length-drop (i * 32) wanted ∙ ap (λ (m : ℕ). m - i * 32) w) in
    let k : min 32 (min (length bytes) (length (drop (i * 32) buffer))) ≡ min 32 (size - i * 32) = omega arith in
    let m : suc i * 32 ≡ i * 32 + 32 = omega arith in
    rw (le-leb (i * 32) (length buffer) (omega arith), k, q, e, laid_more (take (i * 32) wanted) (block_of 32 i wanted) old (i * 32) (sym f), m, take-add (i * 32) 32 wanted)
