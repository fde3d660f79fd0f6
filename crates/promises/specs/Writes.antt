-- A data-flash write over a list of events: what the call, the flash and the count are at the end of it, whatever the host lends.
-- Assumes nothing.
use Rattle.std.specs.Prelude.{ℕ, ◌≡◌, List, [], length}
use Rattle.protocol.specs.declared.common.Config.{Config}
use Rattle.engine.specs.declared.bus.Transfer.{Transfer}
use Rattle.writing.specs.Writing.{start_of, next_of, work_after, part_of, report_of}
use Rattle.writing.specs.declared.call.WriteCall.{WriteCall}
use Rattle.r5.specs.Plans.{write_dataflash}
use Rattle.answers.specs.Runs.{call_w}
use Rattle.promises.specs.Events.{Event, heard_as, lent_of, flash_after, acked_after, each}
use Rattle.promises.specs.Host.{makes, Doing, transfers, reports, Misplaced}

-- the call and its work buffer; the flash; how many blocks were acknowledged
pub record WriteWorld : Type 0 where
  pub call : WriteCall
  pub work : List ℕ
  pub flash : List ℕ
  pub acked : ℕ

-- a data-flash write starts
unfoldable pub began : Config → ℕ → List ℕ → List ℕ → List ℕ → WriteWorld
began config address payload work flash =
    record { call = start_of (write_dataflash config address) (length payload) (length work); work = work; flash = flash; acked = 0 }

-- the n bytes that the machine hands out go to the gauge, and it hears what came of them; a write brings no bytes
unfoldable pub sent : List ℕ → Event → (beside work : List ℕ) → ℕ → WriteWorld → WriteWorld
sent payload e beside work n w = record {
  call = call_w (report_of w.call (heard_as e) (length (lent_of e [] beside)) (length payload) (length work));
  work = work;
  flash = flash_after e (part_of w.call payload work n) w.flash;
  acked = acked_after e w.acked;
}

-- the same with another work buffer
abbrev pub holding : List ℕ → WriteWorld → WriteWorld
holding work w = record { call = w.call; work = work; flash = w.flash; acked = w.acked }

-- what the machine shows
abbrev pub shows : List ℕ → WriteWorld → Transfer
shows payload w = next_of w.call payload (length w.work)

-- the n bytes that it hands out where it shows a write of n bytes
abbrev pub handed : List ℕ → ℕ → WriteWorld → List ℕ
handed payload n w = part_of w.call payload (work_after w.call payload w.work) n

-- one transfer, as the machine shows it. Where it shows no write, nothing goes out and nothing is heard
unfoldable pub transfer_made : List ℕ → Event → (beside : List ℕ) → WriteWorld → WriteWorld
transfer_made payload e beside w =
    let laid : List ℕ = work_after w.call payload w.work in
    makes (λ n. sent payload e beside laid n w) (λ command count. holding laid w) (holding laid w) (shows payload w)

-- with nothing lent beside it
abbrev pub step : List ℕ → Event → WriteWorld → WriteWorld
step payload e w = transfer_made payload e [] w

-- a transfer for each event. Every point of stopping is the end of some list
abbrev pub run : List ℕ → List Event → WriteWorld → WriteWorld
run payload es w = each (step payload) es w

-- ---- any host

-- what a host does
unfoldable pub does : List ℕ → Doing → WriteWorld → WriteWorld
does payload (transfers e work beside) w = transfer_made payload e beside (holding work w)
does payload (reports o reply lent work) w =
    record { call = call_w (report_of w.call o (length reply) lent work); work = w.work; flash = w.flash; acked = w.acked }

-- what it may do with a call that was lent a work buffer of n bytes at the start
abbrev pub May : List ℕ → ℕ → Doing → WriteWorld → Type 0
May payload n (transfers e work beside) w = length work ≡ n
May payload n (reports o reply lent work) w = Misplaced (shows payload w) (length payload) n o (length reply) lent work

abbrev pub hosted : List ℕ → List Doing → WriteWorld → WriteWorld
hosted payload ds w = each (does payload) ds w

-- the same but for the bytes of the work buffer
abbrev pub Alike : WriteWorld → WriteWorld → Type 0
Alike v w = (v.call ≡ w.call) × (length v.work ≡ length w.work) × (v.flash ≡ w.flash) × (v.acked ≡ w.acked)
