-- Beside demand 3, for the reader: stop a data-flash read anywhere and know every byte of its buffer; what ended well has the flash's bytes; and what was
-- written is read back. What is supposed of the gauge is what demand 3 supposes, and that it replies to a read as the model does.
-- Assumes nothing.
use Rattle.std.specs.Prelude.{ℕ, ◌+◌, ◌*◌, ◌≤◌, ◌<◌, ◌≡◌, Bool, true, false, ◌⊎◌, List, ◌++◌, length, take, drop, replicate}
use Rattle.protocol.specs.Answer.{number_of}
use Rattle.protocol.specs.Bytes.{over}
use Rattle.protocol.specs.declared.common.Config.{Config}
use Rattle.protocol.specs.declared.error.Answer.{Answer}
use Rattle.engine.specs.declared.bus.Transfer.{Transfer}
use Rattle.engine.specs.declared.bus.Transfer.TheVariants as transfer
use Rattle.calls.specs.Call.{start_of}
use Rattle.calls.specs.declared.call.Call.TheVariants as call
use Rattle.calls.specs.declared.kind.Kind.TheVariants as kind
use Rattle.model_gauge.specs.declared.gauge.Gauge.{Gauge}
use Rattle.courses.specs.Course.{sound_of}
use Rattle.courses.specs.Run.{World, Left, world, left, run_of, left_over}
use Rattle.promises.specs.Flash.{place_of}
use Rattle.promises.specs.Events.{Event}
use Rattle.promises.specs.Host.{Doing, events, Allowed}
use Rattle.promises.specs.Reads.{ReadWorld, read_began, read_shows, read_run, Coming, Damages, read_noisily, read_does, ReadMay, read_hosted, ReadAlike}
use Rattle.promises.specs.Demand3.{end_in, EndedWell, Accepted}
use Rattle.promises.specs.Courses.{events_at, ran}

-- the n bytes of the flash from an address on
abbrev pub flash_bytes : ℕ → ℕ → List ℕ → List ℕ
flash_bytes address n flash = take n (drop (place_of address) flash)

-- ---- over events

-- what an answer says of a buffer of n bytes and i blocks that have come: with 0 every block has; with 1 or 2 one has not, and so with 3, where replies are damaged
pub data ReadAnswered (noisy : Bool) (n i : ℕ) (a : Answer) : Type 0 where
  all_got : number_of a ≡ 0 → n ≤ i * 32 → ReadAnswered noisy n i a
  gave_up_lem : (number_of a ≡ 1) ⊎ (number_of a ≡ 2) → i * 32 < n → ReadAnswered noisy n i a
  disbelieved : noisy ≡ true → number_of a ≡ 3 → i * 32 < n → ReadAnswered noisy n i a

-- what the machine shows then: a transfer, where a block is left to read, or such an answer; never a refusal
abbrev pub ReadTold : Bool → ℕ → ℕ → Transfer → Type 0
ReadTold noisy n i (transfer.Write count) = i * 32 < n
ReadTold noisy n i (transfer.Read command count) = i * 32 < n
ReadTold noisy n i (transfer.Refused a) = ⊥
ReadTold noisy n i (transfer.Ended a) = ReadAnswered noisy n i a

-- at every point of stopping, on a bus that damages replies or one that does not
pub record ReadPromised (noisy : Bool) (address : ℕ) (buffer flash : List ℕ) (w : ReadWorld) : Type 0 where
  -- the flash is as it was
  pub kept : w.flash ≡ flash
  -- the buffer has the flash's bytes in front, as many blocks as have come, and the rest of it is as it was
  pub front : w.buffer ≡ over (take (w.got * 32) (flash_bytes address (length buffer) flash)) buffer
  -- and what the machine shows
  pub told : ReadTold noisy (length buffer) w.got (read_shows w)

-- ---- over courses

-- the call and the gauge, the buffer, the work buffer and the flash, as the model's runs have them
abbrev pub in_model : ReadWorld → World
in_model w = world (record { call = call.Read w.call; gauge = w.gauge }) w.buffer w.work w.flash

-- a read starts beside a gauge and is run over a course; it does not look at the payload
abbrev pub read_ran : Config → ℕ → (payload buffer work flash : List ℕ) → Gauge → List ℕ → Left
read_ran config address payload buffer work flash gauge course =
    run_of payload course
    (world (record { call = start_of (kind.ReadDataflash address) config (length payload) (length buffer) (length work); gauge = gauge }) buffer work flash)

-- the same read over the same events
abbrev pub read_ran_in : Config → ℕ → List ℕ → List ℕ → List ℕ → Gauge → List ℕ → ReadWorld
read_ran_in config address buffer work flash gauge course = read_run (events_at course) (read_began gauge config address buffer work flash)

-- what a run leaves that stops there: the call and the gauge, the buffer, the work buffer and the flash; it is cut where the machine shows a transfer, and
-- else has the answer that it shows
abbrev pub read_stopped_at : ReadWorld → Left
read_stopped_at w =
    left (record { link = record { call = call.Read w.call; gauge = w.gauge }; end = end_in (read_shows w) }) w.buffer w.work w.flash

pub record ReadsTrue : Type 0 where
  -- stop anywhere, whatever each failure's cause, with a PEC or without, from whatever pointer
  pub stopped : (config : Config) (address : ℕ) (buffer work flash : List ℕ) → Accepted address buffer work flash → (gauge : Gauge) (es : List Event)
      → ReadPromised false address buffer flash (read_run es (read_began gauge config address buffer work flash))
  -- with a PEC also on a bus that damages replies: no byte of such a reply is in the buffer, and whatever block comes next is the one that was due
  pub damaged : (config : Config) (address : ℕ) (buffer work flash : List ℕ) → Accepted address buffer work flash → config.pec_read ≡ true → (gauge : Gauge)
      → (cs : List Coming) → Damages cs → ReadPromised true address buffer flash (read_noisily cs (read_began gauge config address buffer work flash))
  -- any host: whatever work buffer it lends, whatever lies in the reply beside a failure and whatever refused report comes in between, nothing else changes
  pub any_host : (config : Config) (address : ℕ) (buffer work flash : List ℕ) → Accepted address buffer work flash → (gauge : Gauge)
      → (doings : List Doing) → Allowed read_does (ReadMay (length buffer) (length work)) doings (read_began gauge config address buffer work flash)
      → ReadAlike (read_hosted doings (read_began gauge config address buffer work flash)) (read_run (events doings) (read_began gauge config address buffer work flash))
  -- on a course: a run leaves what the run over the course's events leaves, and ends as the machine then shows
  pub same : (config : Config) (address : ℕ) (payload buffer work flash : List ℕ) → Accepted address buffer work flash
      → (gauge : Gauge) (course : List ℕ) → sound_of course ≡ true
      → read_ran config address payload buffer work flash gauge course ≡ read_stopped_at (read_ran_in config address buffer work flash gauge course)
  -- no read changes the flash, and one that ends well returns its bytes
  pub reads : (config : Config) (address : ℕ) (payload buffer work flash : List ℕ) → Accepted address buffer work flash
      → (gauge : Gauge) (course : List ℕ) → sound_of course ≡ true
      → ((read_ran config address payload buffer work flash gauge course).flash ≡ flash)
      × (EndedWell (read_ran config address payload buffer work flash gauge course).run.end
      → (read_ran config address payload buffer work flash gauge course).buffer ≡ flash_bytes address (length buffer) flash)
  -- a read that was cut and is run on over a further course is the read run over both
  pub runs_on : (config : Config) (address : ℕ) (payload buffer work flash : List ℕ) → Accepted address buffer work flash
      → (gauge : Gauge) (course further : List ℕ) → sound_of course ≡ true → sound_of further ≡ true
      → read_ran config address payload buffer work flash gauge (course ++ further) ≡ run_of payload further (left_over (read_ran config address payload buffer work flash gauge course))
  -- on courses of heard transfers, long enough, a write and then a read of the same range, each by settings of its own: the read ends well and has the payload
  pub reads_back : (config config' : Config) (address : ℕ) (payload beside work flash payload' buffer work' : List ℕ) → Accepted address payload work flash
      → length buffer ≡ length payload → 39 ≤ length work'
      → (gauge gauge' : Gauge) (n m : ℕ) → length payload ≤ n * 32 → length payload + 32 ≤ m * 32
      → EndedWell (read_ran config' address payload' buffer work' (ran config address payload beside work flash gauge (replicate n 0)).flash gauge' (replicate m 0)).run.end
      × ((read_ran config' address payload' buffer work' (ran config address payload beside work flash gauge (replicate n 0)).flash gauge' (replicate m 0)).buffer ≡ payload)
