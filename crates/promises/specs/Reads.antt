-- A data-flash read over a list of events: what the call, the buffer, the gauge and the flash are at the end of it, whatever the host lends.
-- Assumes nothing.
use Rattle.std.specs.Prelude.{ℕ, ◌≡◌, List, [], ◌∷◌, ◌++◌, length, take}
use Rattle.smbus_pec.specs.Pec.{pec_of}
use Rattle.protocol.specs.Bytes.{over}
use Rattle.protocol.specs.declared.common.Config.{Config}
use Rattle.engine.specs.Made.{write, read}
use Rattle.engine.specs.declared.bus.Transfer.{Transfer}
use Rattle.reading.specs.Reading.{start_of, next_of, work_after, report_of, buffer_after}
use Rattle.reading.specs.declared.call.ReadCall.{ReadCall}
use Rattle.r5.specs.Plans.{read_dataflash}
use Rattle.model_gauge.specs.Gauge.{acts}
use Rattle.model_gauge.specs.declared.gauge.Gauge.{Gauge}
use Rattle.answers.specs.Runs.{call_r}
use Rattle.promises.specs.Events.{Event, acknowledged, heard_as, lent_of, after, flash_after, acked_after, each}
use Rattle.promises.specs.Host.{makes, Doing, transfers, reports, Misplaced}

-- the call, the gauge, the caller's buffer and the work buffer; the flash; how many blocks have come: reads that were acknowledged, with the gauge's own reply
pub record ReadWorld : Type 0 where
  pub call : ReadCall
  pub gauge : Gauge
  pub buffer : List ℕ
  pub work : List ℕ
  pub flash : List ℕ
  pub got : ℕ

-- a data-flash read starts, beside a gauge
unfoldable pub read_began : Gauge → Config → ℕ → List ℕ → List ℕ → List ℕ → ReadWorld
read_began gauge config address buffer work flash = record {
  call = start_of (read_dataflash config address) (length buffer) (length work);
  gauge = gauge;
  buffer = buffer;
  work = work;
  flash = flash;
  got = 0;
}

-- the call hears of a transfer what an acknowledged one brought, or whatever lies there beside a failure; and the gauge and the flash are as it left them
unfoldable pub heard : Event → (brought beside work : List ℕ) → Gauge → (flash : List ℕ) → (got : ℕ) → ReadWorld → ReadWorld
heard e brought beside work gauge flash got w = record {
  call = call_r (report_of w.call (heard_as e) (lent_of e brought beside) (length w.buffer) (length work));
  gauge = gauge;
  buffer = buffer_after w.call (heard_as e) (lent_of e brought beside) w.buffer (length work);
  work = work;
  flash = flash;
  got = got;
}

-- a head of n bytes goes to the gauge from the front of the work buffer, and brings none
unfoldable pub head_sent : Event → (beside work : List ℕ) → ℕ → ReadWorld → ReadWorld
head_sent e beside work n w =
    heard e [] beside work (after e w.gauge (acts (write (take n work)) w.gauge w.flash).gauge) (flash_after e (take n work) w.flash) w.got w

-- a read goes to the gauge, and brings the reply that it gives to such a read
unfoldable pub asked : Event → (beside work : List ℕ) → (command count : ℕ) → ReadWorld → ReadWorld
asked e beside work command count w =
    heard e (acts (read command count) w.gauge w.flash).reply beside work (after e w.gauge (acts (read command count) w.gauge w.flash).gauge) w.flash (acked_after e w.got) w

-- the same with another work buffer
abbrev pub lending : List ℕ → ReadWorld → ReadWorld
lending work w = record { call = w.call; gauge = w.gauge; buffer = w.buffer; work = work; flash = w.flash; got = w.got }

-- what the machine shows, and what showing it leaves in the work buffer
abbrev pub read_shows : ReadWorld → Transfer
read_shows w = next_of w.call (length w.buffer) (length w.work)

abbrev pub read_laid : ReadWorld → List ℕ
read_laid w = work_after w.call (length w.buffer) w.work

-- one transfer, as the machine shows it. Where it shows none, nothing goes out and nothing is heard
unfoldable pub read_made : Event → (beside : List ℕ) → ReadWorld → ReadWorld
read_made e beside w =
    let laid : List ℕ = read_laid w in
    makes (λ n. head_sent e beside laid n w) (λ command count. asked e beside laid command count w) (lending laid w) (read_shows w)

-- with nothing lent beside it
abbrev pub read_step : Event → ReadWorld → ReadWorld
read_step e w = read_made e [] w

-- a transfer for each event. Every point of stopping is the end of some list
abbrev pub read_run : List Event → ReadWorld → ReadWorld
read_run es w = each read_step es w

-- ---- a bus that damages replies

-- what becomes of a transfer on it: what becomes of any; or a read is replied to, and the reply comes with these bytes. A head has no reply
pub data Coming : Type 0 where
  comes : Event → Coming
  damaged : (front : List ℕ) (last : ℕ) → Coming

-- the call hears of a reply what came of it
unfoldable pub read_over : Coming → ReadWorld → ReadWorld
read_over (comes e) w = read_step e w
read_over (damaged front last) w =
    let laid : List ℕ = read_laid w in
    makes (λ n. head_sent acknowledged [] laid n w)
    (λ command count. heard acknowledged (front ++ (last ∷ [])) [] laid (acts (read command count) w.gauge w.flash).gauge w.flash w.got w) (lending laid w) (read_shows w)

-- where a reply has a PEC it has 36 bytes, and is damaged where the last is not the PEC of 16, 44, 17 and the others
abbrev pub Damages : List Coming → Type 0
Damages [] = Unit {0}
Damages (comes e ∷ cs) = Damages cs
Damages (damaged front last ∷ cs) = (length front ≡ 35) × (pec_of 0 (0x16 ∷ 0x44 ∷ 0x17 ∷ front) ≡ last → ⊥) × Damages cs

abbrev pub read_noisily : List Coming → ReadWorld → ReadWorld
read_noisily cs w = each read_over cs w

-- ---- any host

-- what a host does; with a report in between it lends the front of its buffer
unfoldable pub read_does : Doing → ReadWorld → ReadWorld
read_does (transfers e work beside) w = read_made e beside (lending work w)
read_does (reports o reply lent work) w = record {
  call = call_r (report_of w.call o reply (length (take lent w.buffer)) work);
  gauge = w.gauge;
  buffer = over (buffer_after w.call o reply (take lent w.buffer) work) w.buffer;
  work = w.work;
  flash = w.flash;
  got = w.got;
}

-- what it may do with a call that was lent a buffer of `size` bytes and a work buffer of n at the start
abbrev pub ReadMay : (size n : ℕ) → Doing → ReadWorld → Type 0
ReadMay size n (transfers e work beside) w = length work ≡ n
ReadMay size n (reports o reply lent work) w = Misplaced (read_shows w) size n o (length reply) (length (take lent w.buffer)) work

abbrev pub read_hosted : List Doing → ReadWorld → ReadWorld
read_hosted ds w = each read_does ds w

-- the same but for the bytes of the work buffer
abbrev pub ReadAlike : ReadWorld → ReadWorld → Type 0
ReadAlike v w =
    (v.call ≡ w.call) × (v.gauge ≡ w.gauge) × (v.buffer ≡ w.buffer) × (length v.work ≡ length w.work) × (v.flash ≡ w.flash) × (v.got ≡ w.got)
