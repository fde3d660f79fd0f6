-- A run over a course, for any call: byte by byte, the transfer that the call shows goes to the gauge, and the call hears what came of it. (01, The model gauge)
-- What a transfer comes to is the model's (`model_gauge`), and what a call makes of it is its engine's (`calls`). A run that does not start, and a call that has
-- ended, are in the figures of `courses`.
-- Assumes nothing.
use Rattle.std.specs.Prelude.{ℕ, ◌≡◌, true, List, [], ◌∷◌, ◌++◌, length}
use Rattle.protocol.specs.declared.error.Answer.{Answer}
use Rattle.engine.specs.Made.{Made, write, read}
use Rattle.engine.specs.declared.bus.Phase.TheVariants as phase
use Rattle.engine.specs.declared.bus.Transfer.TheVariants as transfer
use Rattle.calls.specs.Call.{next_of, work_after, part_of, report_of, buffer_after, phase_of}
use Rattle.calls.specs.declared.call.Call.{Call}
use Rattle.ceilings.specs.Reports.{call_after}
use Rattle.model_gauge.specs.Gauge.{Effect, effect_of}
use Rattle.model_gauge.specs.declared.gauge.Fate.{Fate}
use Rattle.model_gauge.specs.declared.gauge.Fate.TheVariants as fate
use Rattle.model_gauge.specs.declared.gauge.Gauge.{Gauge}
use Rattle.courses.specs.Course.{sound_of}
use Rattle.courses.specs.Figures.{LentAgain}
use Rattle.courses.specs.Run.{World, world, left, left_over, run_of}
use Rattle.courses.specs.declared.course.End.TheVariants as end
use Rattle.courses.specs.declared.run.Link.{Link}
use Rattle.courses.specs.declared.run.Run.{Run}

-- the three bytes of a course: heard, lost before the gauge acts, lost after
pub data Means : ℕ → Fate → Type 0 where
  heard : Means 0 fate.Heard
  lost_before : Means 1 fate.LostBefore
  lost_after : Means 2 fate.LostAfter

-- what a transfer came to is reported: the call, the gauge, the buffer, the work buffer and the flash
abbrev pub reported_to : (payload : List ℕ) → Effect → Call → (buffer shown : List ℕ) → World
reported_to payload e call buffer shown =
    world (record { call = call_after (report_of call e.outcome e.reply (length payload) (length buffer) (length shown)); gauge = e.gauge })
    (buffer_after call e.outcome e.reply buffer (length shown)) shown e.flash

-- the transfer that a call shows: the bytes that it hands out, or a read
pub data Shows (call : Call) (payload buffer work : List ℕ) : Made → Type 0 where
  shows_write : (n : ℕ) → next_of call payload (length buffer) (length work) ≡ transfer.Write n
      → Shows call payload buffer work (write (part_of call payload (work_after call payload (length buffer) work) n))
  shows_read : (command count : ℕ) → next_of call payload (length buffer) (length work) ≡ transfer.Read command count
      → Shows call payload buffer work (read command count)

pub record RunLaws : Type 0 where
  -- what a run takes and what it leaves are told as they are
  pub taken : (link : Link) (buffer work flash : List ℕ) → world link buffer work flash ≡ record { link = link; buffer = buffer; work = work; flash = flash }
  pub told : (run : Run) (buffer work flash : List ℕ) → left run buffer work flash ≡ record { run = run; buffer = buffer; work = work; flash = flash }
  -- where the course has run out, a call that waits is cut, and all is as it was
  pub cut : (payload buffer work flash : List ℕ) (link : Link) → length flash ≡ 8192 → phase_of link.call ≡ phase.Waiting
      → LentAgain link.call (length payload) (length buffer) (length work)
      → run_of payload [] (world link buffer work flash) ≡ left (record { link = link; end = end.Cut }) buffer work flash
  -- where it shows a transfer, a byte of the course is that transfer, and the rest of the course is run on from there
  pub goes_on : (payload rest buffer work flash : List ℕ) (call : Call) (gauge : Gauge) (byte : ℕ) (f : Fate) (made : Made) → Means byte f
      → length flash ≡ 8192 → sound_of rest ≡ true → Shows call payload buffer work made
      → run_of payload (byte ∷ rest) (world (record { call = call; gauge = gauge }) buffer work flash)
      ≡ run_of payload rest (reported_to payload (effect_of f made gauge flash) call buffer (work_after call payload (length buffer) work))
  -- where the showing is refused, a byte of the course is no transfer
  pub none_on : (payload rest buffer work flash : List ℕ) (link : Link) (byte : ℕ) (f : Fate) (a : Answer) → Means byte f
      → length flash ≡ 8192 → sound_of rest ≡ true → next_of link.call payload (length buffer) (length work) ≡ transfer.Refused a
      → run_of payload (byte ∷ rest) (world link buffer work flash)
      ≡ run_of payload rest (world link buffer (work_after link.call payload (length buffer) work) flash)
  -- a call that was left somewhere and is run on over a further course is the call run over both
  pub runs_on : (payload course further : List ℕ) (from : World) → sound_of course ≡ true → sound_of further ≡ true
      → run_of payload further (left_over (run_of payload course from)) ≡ run_of payload (course ++ further) from
