-- What one event does to a data-flash write that waits: the frame of the block that is due goes out, and the call is where its outcome leads.
-- Assumes nothing.
use Rattle.std.specs.Prelude.{Ok}
use Prim.Native.Nat.{ℕ, suc, ◌+◌, ◌*◌, ◌≤◌, ◌<◌, min}
use mathlib.Core.Path.{◌≡◌, refl, sym, ◌∙◌}
use mathlib.Core.Bool.{Bool, true, false}
use mathlib.Core.Logic.{◌⊎◌, inl, inr}
use mathlib.Core.List.{List, []}
use native.Mathlib.Omega.{arith}
use lib.ListN.{length, drop, length-append, length-take}
use borrow.Author.Tests.{eq-eqb, lt-ltb}
use Rattle.protocol.specs.Pick.{when◌then◌else◌}
use Rattle.protocol.specs.Bytes.{over, send_of, blocks_of}
use Rattle.protocol.specs.Frame.{sealed, pair_of, mac_bytes, laid_of, work_laid}
use Rattle.protocol.specs.Answer.{number_of}
use Rattle.protocol.specs.declared.common.Config.{Config}
use Rattle.protocol.specs.declared.error.Answer.{Answer}
use Rattle.protocol.specs.declared.error.Answer.TheVariants as answer
use Rattle.protocol.proofs.Laws.{take_over, length_over}
use Rattle.engine.specs.Pick.{case◌waiting◌ended◌, case◌acknowledged◌error◌timeout◌}
use Rattle.engine.specs.Budget.{tallied}
use Rattle.engine.specs.Bus.{write_of, phase_after, fits_of}
use Rattle.engine.specs.declared.budget.Budget.{Budget}
use Rattle.engine.specs.declared.budget.Tally.{Tally}
use Rattle.engine.specs.declared.bus.Outcome.{Outcome}
use Rattle.engine.specs.declared.bus.Outcome.TheVariants as outcome
use Rattle.engine.specs.declared.bus.Phase.{Phase}
use Rattle.engine.specs.declared.bus.Phase.TheVariants as phase
use Rattle.engine.specs.declared.bus.Transfer.TheVariants as transfer
use Rattle.writing.specs.Frames.{is_plain, frame_count, block_bytes, bytes_at}
use Rattle.writing.specs.Writing.{plan_of, own_bytes, due_bytes, shown_of, work_shown, next_of, work_after, part_of, advance_of, fail_of, settle_of, replied_of, counted_of, report_of}
use Rattle.writing.specs.declared.call.WriteCall.{WriteCall}
use Rattle.engine.specs.declared.bus.Task.{Task}
use Rattle.writing.specs.declared.call.WritePlan.{WritePlan}
use Rattle.r5.specs.Plans.{write_dataflash}
use Rattle.promises.specs.Events.{Cause, bus_error, timed_out, Event, acknowledged, failed, unheard, cause_of, heard_as, lent_of, flash_after, acked_after}
use Rattle.promises.specs.Host.{makes}
use Rattle.promises.specs.Writes.{WriteWorld, sent, transfer_made, step}

-- the whole budget of a block
abbrev pub block_budget : Config → Budget
block_budget config = record { left = config.max_write_retries }

-- a failed transfer, with the answer that it would end the call with
abbrev pub why_of : Cause → Answer
why_of (bus_error code) = answer.I2c code
why_of timed_out = answer.Timeout

pub why_number : (c : Cause) → (number_of (why_of c) ≡ 1) ⊎ (number_of (why_of c) ≡ 2)
why_number (bus_error code) = inl refl
why_number timed_out = inr refl

-- a write brings no bytes, and those beside a failure are not looked at
no_reply : (e : Event) (beside : List ℕ) → replied_of (heard_as e) (length (lent_of e [] beside)) ≡ false
unfolding replied_of case◌acknowledged◌error◌timeout◌ when◌then◌else◌
no_reply (acknowledged) beside = refl
no_reply (failed (bus_error code)) beside = refl
no_reply (failed timed_out) beside = refl
no_reply (unheard (bus_error code)) beside = refl
no_reply (unheard timed_out) beside = refl

pub nothing_lent : (o : Outcome) → replied_of o 0 ≡ false
unfolding replied_of case◌acknowledged◌error◌timeout◌ when◌then◌else◌
nothing_lent outcome.Acknowledged = refl
nothing_lent (outcome.BusError code) = refl
nothing_lent outcome.Timeout = refl

sealed_short : (pec : Bool) (f : List ℕ) → length f ≤ 36 → length (sealed pec f) ≤ 37
unfolding sealed when◌then◌else◌
sealed_short true f h = simp length-append (omega arith)
sealed_short false f h = omega arith

module _ (config : Config) (address : ℕ) (payload : List ℕ) (n : ℕ) where
  abbrev pub task_of : Task WritePlan
  task_of = record { plan = write_dataflash config address; lent = record { length = length payload; work = n } }

  -- the call with i blocks acknowledged
  abbrev pub call_at : Phase → ℕ → Budget → Tally → WriteCall
  call_at p i b t = record { task = task_of; phase = p; sent = i; budget = b; tally = t }

  abbrev pub world_at : Phase → ℕ → Budget → Tally → List ℕ → List ℕ → WriteWorld
  world_at p i b t work flash = record { call = call_at p i b t; work = work; flash = flash; acked = i }

  -- the frame of block i
  abbrev pub frame_of : ℕ → List ℕ
  frame_of i = sealed config.pec_write (block_bytes address i payload)

  block_short : (i : ℕ) → length (block_bytes address i payload) ≤ 36
  unfolding block_bytes mac_bytes pair_of
  block_short i = omega (arith, length-take 32 (drop (i * 32) payload))

  frame_short : (i : ℕ) → length (frame_of i) ≤ 37
  frame_short i = sealed_short config.pec_write (block_bytes address i payload) (block_short i)

  module _ (i : ℕ) (b : Budget) (t : Tally) (work : List ℕ) (long : length work ≡ n) (room : 39 ≤ n) where
    -- the machine shows the frame of the block that is due
    pub shows_block : next_of (call_at phase.Waiting i b t) payload (length work) ≡ transfer.Write (length (frame_of i))
    unfolding next_of case◌waiting◌ended◌ fits_of own_bytes is_plain plan_of write_dataflash shown_of due_bytes bytes_at laid_of write_of when◌then◌else◌
    shows_block =
        rw (eq-eqb (length payload) (length payload) refl, eq-eqb (length work) n long, lt-ltb (length (block_bytes address i payload)) (length work) (omega (arith, block_short i)))

    pub lays : work_after (call_at phase.Waiting i b t) payload work ≡ over (frame_of i) work
    unfolding work_after case◌waiting◌ended◌ fits_of own_bytes is_plain plan_of write_dataflash work_shown due_bytes bytes_at work_laid when◌then◌else◌
    lays =
        rw (eq-eqb (length payload) (length payload) refl, eq-eqb (length work) n long, lt-ltb (length (block_bytes address i payload)) (length work) (omega (arith, block_short i)))

    -- and hands it out
    pub hands_out : part_of (call_at phase.Waiting i b t) payload (over (frame_of i) work) (length (frame_of i)) ≡ frame_of i
    unfolding part_of own_bytes is_plain plan_of write_dataflash send_of when◌then◌else◌
    hands_out = take_over (frame_of i) work

    pub laid_long : length (over (frame_of i) work) ≡ n
    laid_long = length_over (frame_of i) work (omega (arith, frame_short i)) ∙ long

    -- a report that brings no bytes where it acknowledges is taken
    pub is_taken : (o : Outcome) (r : ℕ) → replied_of o r ≡ false → report_of (call_at phase.Waiting i b t) o r (length payload) n ≡ Ok (settle_of (call_at phase.Waiting i b (tallied t)) o)
    unfolding report_of counted_of case◌waiting◌ended◌ fits_of when◌then◌else◌
    is_taken o r bare = rw (eq-eqb (length payload) (length payload) refl, eq-eqb n n refl, bare)

    -- what became of the frame is heard, whatever is lent beside a failure
    pub made_sent : (e : Event) (beside flash : List ℕ)
        → transfer_made payload e beside (world_at phase.Waiting i b t work flash)
        ≡ record { call = settle_of (call_at phase.Waiting i b (tallied t)) (heard_as e); work = over (frame_of i) work; flash = flash_after e (frame_of i) flash; acked = acked_after e i }
    unfolding transfer_made sent makes
    made_sent e beside flash =
        rw (shows_block, lays) (sym sent_is)
      where
        sent_is : record { call = settle_of (call_at phase.Waiting i b (tallied t)) (heard_as e); work = over (frame_of i) work; flash = flash_after e (frame_of i) flash; acked = acked_after e i }
            ≡ sent payload e beside (over (frame_of i) work) (length (frame_of i)) (world_at phase.Waiting i b t work flash)
        sent_is = rw (hands_out, laid_long, is_taken (heard_as e) (length (lent_of e [] beside)) (no_reply e beside))

    -- acknowledged: the next block is due, with a budget of its own, or the call is done
    pub step_acknowledged : (flash : List ℕ) → i < 4294967295
        → step payload (acknowledged) (world_at phase.Waiting i b t work flash)
        ≡ world_at (phase_after (blocks_of (length payload)) (suc i)) (suc i) (block_budget config) (tallied t) (over (frame_of i) work) (flash_after (acknowledged) (frame_of i) flash)
    unfolding settle_of advance_of frame_count case◌acknowledged◌error◌timeout◌ plan_of write_dataflash
    step_acknowledged flash h =
        let more : min (i + 1) 4294967295 ≡ suc i = omega arith in
        made_sent (acknowledged) [] flash ∙ rw more

    settled_failed : (c : Cause) → settle_of (call_at phase.Waiting i b (tallied t)) (cause_of c) ≡ fail_of (call_at phase.Waiting i b (tallied t)) (why_of c)
    unfolding settle_of case◌acknowledged◌error◌timeout◌
    settled_failed (bus_error code) = refl
    settled_failed timed_out = refl

    -- failed, whether or not the block has landed
    pub step_failed : (c : Cause) (flash : List ℕ)
        → step payload (failed c) (world_at phase.Waiting i b t work flash)
        ≡ record { call = fail_of (call_at phase.Waiting i b (tallied t)) (why_of c); work = over (frame_of i) work; flash = flash; acked = i }
    step_failed c flash = made_sent (failed c) [] flash ∙ rw settled_failed

    pub step_unheard : (c : Cause) (flash : List ℕ)
        → step payload (unheard c) (world_at phase.Waiting i b t work flash)
        ≡ record { call = fail_of (call_at phase.Waiting i b (tallied t)) (why_of c); work = over (frame_of i) work; flash = flash_after (unheard c) (frame_of i) flash; acked = i }
    step_unheard c flash = made_sent (unheard c) [] flash ∙ rw settled_failed

  -- an ended call shows its answer
  pub shows_ended : (a : Answer) (i : ℕ) (b : Budget) (t : Tally) (w : ℕ) → next_of (call_at (phase.Ended a) i b t) payload w ≡ transfer.Ended a
  unfolding next_of case◌waiting◌ended◌
  shows_ended a i b t w = refl

  -- and stays as it is
  pub made_ended : (e : Event) (beside : List ℕ) (a : Answer) (i : ℕ) (b : Budget) (t : Tally) (work flash : List ℕ)
      → transfer_made payload e beside (world_at (phase.Ended a) i b t work flash) ≡ world_at (phase.Ended a) i b t work flash
  unfolding transfer_made next_of work_after case◌waiting◌ended◌ makes
  made_ended e beside a i b t work flash = refl
