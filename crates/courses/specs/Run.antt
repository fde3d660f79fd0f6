-- A call run over a course: it shows a transfer, which goes to the gauge or is lost on its way, and it hears what came of it. (01, The model gauge)
-- Assumes nothing.
use Rattle.engine.specs.Bus.{Reported}
use Rattle.std.specs.Prelude.{ℕ, List, [], ◌∷◌, length, Err, Ok}
use Rattle.protocol.specs.declared.error.Answer.{Answer}
use Rattle.engine.specs.Made.{Made}
use Rattle.calls.specs.Call.{next_of, work_after, part_of, report_of, buffer_after, phase_of, fits_of}
use Rattle.calls.specs.declared.call.Call.{Call}
use Rattle.model_gauge.specs.Gauge.{Effect, effect_of}
use Rattle.model_gauge.specs.declared.gauge.Fate.{Fate}
use Rattle.courses.specs.Pick.{case◌sending◌to◌none◌, case◌refused◌admitted◌}
use Rattle.courses.specs.Course.{fates_of, admit_of, end_of}
use Rattle.courses.specs.declared.course.End.TheVariants as end
use Rattle.courses.specs.declared.run.Link.{Link}
use Rattle.courses.specs.declared.run.Run.{Run}

-- call and gauge, the caller's buffer, the work buffer, the flash
pub record World : Type 0 where
  pub link : Link
  pub buffer : List ℕ
  pub work : List ℕ
  pub flash : List ℕ

abbrev pub world : Link → List ℕ → List ℕ → List ℕ → World
world link buffer work flash = record { link = link; buffer = buffer; work = work; flash = flash }

-- what a run leaves, the caller's buffer, the work buffer, the flash
pub record Left : Type 0 where
  pub run : Run
  pub buffer : List ℕ
  pub work : List ℕ
  pub flash : List ℕ

abbrev pub left : Run → List ℕ → List ℕ → List ℕ → Left
left run buffer work flash = record { run = run; buffer = buffer; work = work; flash = flash }

-- what a run left, to be run on
abbrev pub left_over : Left → World
left_over l = world l.run.link l.buffer l.work l.flash

-- a refused report leaves the call as it was
unfoldable pub taken_of : Reported Call → Call
taken_of (Err (a, call)) = call
taken_of (Ok call) = call

-- the call hears what a transfer came to, with a payload of p bytes lent; flash and gauge are those after it
unfoldable pub heard_in : ℕ → Effect → World → World
heard_in p e w =
    world (record { call = taken_of (report_of w.link.call e.outcome e.reply p (length w.buffer) (length w.work)); gauge = e.gauge })
    (buffer_after w.link.call e.outcome e.reply w.buffer (length w.work)) w.work e.flash

-- a transfer goes to the gauge
abbrev pub transferred : ℕ → Fate → Made → World → World
transferred p f made w = heard_in p (effect_of f made w.link.gauge w.flash) w

-- the call has shown what is next: its work buffer holds what that laid
abbrev pub showing : List ℕ → World → World
showing payload w = world w.link w.buffer (work_after w.link.call payload (length w.buffer) w.work) w.flash

-- one transfer, or none where the call shows none
unfoldable pub step_of : List ℕ → Fate → World → World
step_of payload f w =
    case next_of w.link.call payload (length w.buffer) (length w.work)
    sending part_of w.link.call payload (showing payload w).work
    to (λ made. transferred (length payload) f made (showing payload w))
    none showing payload w

-- a transfer for each byte of the course
unfoldable pub drive_of : List ℕ → List Fate → World → World
drive_of payload [] w = w
drive_of payload (f ∷ fs) w = drive_of payload fs (step_of payload f w)

-- how it ended, with a payload of p bytes, a buffer of n and a work buffer of w
unfoldable pub ended_of : Link → ℕ → ℕ → ℕ → Run
ended_of link p n w = record { link = link; end = end_of (phase_of link.call) (fits_of link.call p n w) }

-- what a run leaves that does not start
unfoldable pub refused_of : Link → Answer → Run
refused_of link a = record { link = link; end = end.Answered a }

-- what is left where a run ends
unfoldable pub leaves_of : ℕ → World → Left
leaves_of p w = left (ended_of w.link p (length w.buffer) (length w.work)) w.buffer w.work w.flash

-- 8, 11, or the call driven over the course
unfoldable pub run_of : List ℕ → List ℕ → World → Left
run_of payload course w =
    case admit_of (length w.flash) course
    refused (λ a. left (refused_of w.link a) w.buffer w.work w.flash)
    admitted leaves_of (length payload) (drive_of payload (fates_of course) w)
