-- Demand 3 on the model's courses: each byte of a course is one of the events that the demand speaks of, so every run over every course keeps it.
-- Assumes nothing.
use Rattle.std.specs.Prelude.{ℕ, zero, suc, ◌*◌, ◌≤◌, ◌≡◌, true, List, [], ◌∷◌, ◌++◌, length, replicate}
use Rattle.protocol.specs.Window.{in_window}
use Rattle.protocol.specs.declared.common.Config.{Config}
use Rattle.calls.specs.Call.{start_of}
use Rattle.calls.specs.declared.call.Call.TheVariants as call
use Rattle.calls.specs.declared.kind.Kind.TheVariants as kind
use Rattle.model_gauge.specs.declared.gauge.Gauge.{Gauge}
use Rattle.courses.specs.Course.{sound_of}
use Rattle.courses.specs.Run.{World, Left, world, left, run_of, left_over}
use Rattle.courses.specs.declared.course.End.{End}
use Rattle.promises.specs.Flash.{place_of, Overlaid, Stands}
use Rattle.promises.specs.Events.{Event, acknowledged, failed, unheard, timed_out}
use Rattle.promises.specs.Writes.{WriteWorld, began, shows, run}
use Rattle.promises.specs.Demand3.{clean, end_in, Tells, EndedWell, Goes, Accepted}

-- ---- a run over a course

-- what a byte of a course says of a transfer: 0, it is heard and acknowledged; 1, it is lost with nothing done; 2, it is lost with its full work done.
-- What is lost is a timeout; a run over any other byte is refused
abbrev pub event_at : ℕ → Event
event_at zero = acknowledged
event_at (suc zero) = failed timed_out
event_at (suc (suc n)) = unheard timed_out

-- a byte for each transfer
abbrev pub events_at : List ℕ → List Event
events_at [] = []
events_at (byte ∷ course) = event_at byte ∷ events_at course

-- the call, its work buffer and the flash, beside a gauge and a buffer, which a write does not look at
abbrev pub beside : Gauge → (buffer : List ℕ) → WriteWorld → World
beside gauge buffer w = world (record { call = call.Write w.call; gauge = gauge }) buffer w.work w.flash

-- a write starts beside a gauge and is run over a course
abbrev pub ran : Config → ℕ → (payload buffer work flash : List ℕ) → Gauge → List ℕ → Left
ran config address payload buffer work flash gauge course =
    run_of payload course
    (world (record { call = start_of (kind.WriteDataflash address) config (length payload) (length buffer) (length work); gauge = gauge }) buffer work flash)

-- the same write over the same events, as the demand has it
abbrev pub ran_in : Config → ℕ → List ℕ → List ℕ → List ℕ → List ℕ → WriteWorld
ran_in config address payload work flash course = run payload (events_at course) (began config address payload work flash)

-- what a run leaves that stops there: the call, its work buffer and the flash, beside a gauge and a buffer; it is cut where the machine shows a transfer, and
-- else has the answer that it shows
abbrev pub stopped_at : List ℕ → Gauge → (buffer : List ℕ) → WriteWorld → Left
stopped_at payload gauge buffer w =
    left (record { link = record { call = call.Write w.call; gauge = gauge }; end = end_in (shows payload w) }) buffer w.work w.flash

-- ---- what is promised of a run

-- the flash that it leaves as an overlay, the same byte by byte, and what its end says
pub record Leaves (address : ℕ) (payload flash : List ℕ) (i : ℕ) (left : Left) : Type 0 where
  pub overlay : Overlaid 32 (place_of address) payload flash i left.flash
  pub bytes : Stands 32 address payload flash i left.flash
  pub told : Tells 32 (length payload) i left.run.end

-- ---- going on

-- one go: a write is run over a course, and what is left of it is run on over a further course, any number of times; a call that has ended stays as it is
pub data Runs (config : Config) (address : ℕ) (payload buffer work flash : List ℕ) (gauge : Gauge) : Left → Type 0 where
  started : (course : List ℕ) → sound_of course ≡ true → Runs config address payload buffer work flash gauge (ran config address payload buffer work flash gauge course)
  ran_on : {left : Left} (course : List ℕ) → sound_of course ≡ true → Runs config address payload buffer work flash gauge left
      → Runs config address payload buffer work flash gauge (run_of payload course (left_over left))

-- a go over courses: settings, buffers, a read pointer and courses of its own
pub record GoOnCourses (address : ℕ) (payload flash : List ℕ) (e : End) (now : List ℕ) : Type 0 where
  pub config : Config
  pub buffer : List ℕ
  pub work : List ℕ
  pub gauge : Gauge
  pub left : Left
  pub room : 39 ≤ length work
  pub go : Runs config address payload buffer work flash gauge left
  pub ends : e ≡ left.run.end
  pub leaves : now ≡ left.flash

-- DEMAND 3 ON COURSES
pub record OnCourses : Type 0 where
  -- a run leaves the call, the work buffer, the flash and the end of the run over the course's events, and the buffer and the gauge's pointer as they were
  pub same : (config : Config) (address : ℕ) (payload buffer work flash : List ℕ) → Accepted address payload work flash
      → (gauge : Gauge) (course : List ℕ) → sound_of course ≡ true
      → ran config address payload buffer work flash gauge course ≡ stopped_at payload gauge buffer (ran_in config address payload work flash course)
  -- stop anywhere and know every byte, and what the end says
  pub promised : (config : Config) (address : ℕ) (payload buffer work flash : List ℕ) → Accepted address payload work flash
      → (gauge : Gauge) (course : List ℕ) → sound_of course ≡ true
      → Leaves address payload flash (ran_in config address payload work flash course).acked (ran config address payload buffer work flash gauge course)
  -- a call that was cut and is run on over a further course is the call run over both
  pub runs_on : (config : Config) (address : ℕ) (payload buffer work flash : List ℕ) → Accepted address payload work flash
      → (gauge : Gauge) (course further : List ℕ) → sound_of course ≡ true → sound_of further ≡ true
      → ran config address payload buffer work flash gauge (course ++ further) ≡ run_of payload further (left_over (ran config address payload buffer work flash gauge course))
  -- go on, any number of times: what is left is what one clean write leaves
  pub goes_on : (address : ℕ) (payload flash after : List ℕ) → in_window address (length payload) ≡ true → length flash ≡ 8192
      → Goes GoOnCourses address payload flash after → after ≡ clean address payload flash
  -- and that is what a run over heard transfers leaves, enough of them: it ends well
  pub unbroken : (config : Config) (address : ℕ) (payload buffer work flash : List ℕ) → Accepted address payload work flash
      → (gauge : Gauge) (n : ℕ) → length payload ≤ n * 32
      → EndedWell (ran config address payload buffer work flash gauge (replicate n 0)).run.end
      × ((ran config address payload buffer work flash gauge (replicate n 0)).flash ≡ clean address payload flash)
