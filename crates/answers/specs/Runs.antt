-- A call fed any list of reports: with any replies, and to a writing call with any lent lengths.
-- Assumes nothing.
use Rattle.engine.specs.Bus.{Reported}
use Rattle.std.specs.Prelude.{ℕ, ◌+◌, ◌≤◌, ◌≡◌, List, [], ◌∷◌, length, Err, Ok}
use Rattle.protocol.specs.declared.error.Answer.{Answer}
use Rattle.engine.specs.declared.bus.Outcome.{Outcome}
use Rattle.engine.specs.declared.bus.Phase.TheVariants as phase
use Rattle.writing.specs.Writing as writing
use Rattle.writing.specs.declared.call.WriteCall.{WriteCall}
use Rattle.reading.specs.Reading as reading
use Rattle.reading.specs.declared.call.ReadCall.{ReadCall}

-- ---- a writing call

-- an outcome, the reply's length, the payload's and the work buffer's
pub record WriteReport : Type 0 where
  pub outcome : Outcome
  pub reply : ℕ
  pub payload : ℕ
  pub work : ℕ

-- the call that a report hands back
abbrev pub call_w : Reported WriteCall → WriteCall
call_w (Err (a, call)) = call
call_w (Ok call) = call

abbrev pub reported_w : WriteCall → WriteReport → WriteCall
reported_w call e = call_w (writing.report_of call e.outcome e.reply e.payload e.work)

unfoldable pub feed_w : WriteCall → List WriteReport → WriteCall
feed_w call [] = call
feed_w call (e ∷ es) = feed_w (reported_w call e) es

-- no counter is anywhere near its largest number (of the transfers: `ceilings`; of the milliseconds: `waits`)
pub record TameW (call : WriteCall) : Type 0 where
  pub frames : call.sent ≤ 256
  pub waits : call.tally.waits ≤ 16842495  -- at most 65,535 for each of 256 frames, and room for one more

-- ---- a reading call

pub record ReadReport : Type 0 where
  pub outcome : Outcome
  pub reply : List ℕ
  pub work : ℕ

-- a call and the caller's buffer
pub record Reader : Type 0 where
  pub call : ReadCall
  pub buffer : List ℕ

abbrev pub call_r : Reported ReadCall → ReadCall
call_r (Err (a, call)) = call
call_r (Ok call) = call

abbrev pub reported_r : Reader → ReadReport → Reader
reported_r r e = record {
  call = call_r (reading.report_of r.call e.outcome e.reply (length r.buffer) e.work);
  buffer = reading.buffer_after r.call e.outcome e.reply r.buffer e.work;
}

unfoldable pub feed_r : Reader → List ReadReport → Reader
feed_r r [] = r
feed_r r (e ∷ es) = feed_r (reported_r r e) es

-- one budget for everything: each wait is a retry that was taken from it
pub record TameR (call : ReadCall) : Type 0 where
  pub blocks : call.received ≤ 256
  pub budget : call.tally.waits + call.budget.left ≡ call.task.plan.retries
  pub waits : call.tally.waits ≤ 65535

-- ---- a call that has ended, or was refused at its start, stays as it is, whatever is reported to it; and so does the caller's buffer

pub record Stays : Type 0 where
  pub writing : (es : List WriteReport) (call : WriteCall) (a : Answer) → call.phase ≡ phase.Ended a → feed_w call es ≡ call
  pub reading : (es : List ReadReport) (r : Reader) (a : Answer) → r.call.phase ≡ phase.Ended a → feed_r r es ≡ r
