-- Demand 3: stop a data-flash write anywhere and know every byte; go on from the count, and the flash is as one clean write leaves it.
--
-- What is supposed of the gauge: it reads the frames that the step machine shows, and stores their bytes, as the model does (model_gauge, `stored`);
-- it has stored whole every block that it acknowledged; and a failed transfer did nothing or its full work unheard. Nothing is supposed of the bus, the
-- retries or the PEC: the list of events says what becomes of each transfer, and any list will do.
-- The frames are those of demand 2: `over_original` below lays the events over the transfers that the Rust makes, and `frames` spells them out.
-- Assumes nothing.
use Rattle.std.specs.Prelude.{ℕ, ◌+◌, ◌*◌, ◌≤◌, ◌<◌, ◌≡◌, true, ◌⊎◌, List, length, drop, replicate, eqb}
use Rattle.protocol.specs.Common.{TwoByteBudgets}
use Rattle.protocol.specs.Pick.{when◌then◌else◌}
use Rattle.protocol.specs.Answer.{number_of, detail_of}
use Rattle.protocol.specs.Window.{in_window}
use Rattle.protocol.specs.declared.common.Side.TheVariants as side
use Rattle.protocol.specs.declared.common.Config.{Config}
use Rattle.protocol.specs.declared.error.Answer.{Answer}
use Rattle.protocol.specs.declared.error.Answer.TheVariants as answer
use Rattle.engine.specs.declared.bus.Transfer.{Transfer}
use Rattle.engine.specs.declared.bus.Transfer.TheVariants as transfer
use Rattle.courses.specs.declared.course.End.{End}
use Rattle.courses.specs.declared.course.End.TheVariants as end
use Rattle.original.specs.OriginalCommon.{set_for}
use Rattle.original.specs.Bus.{begun}
use Rattle.original.specs.OriginalR5 as rust
use Rattle.promises.specs.Flash.{place_of, store, block_frame, Overlaid, Stands}
use Rattle.promises.specs.Events.{Event, acknowledged}
use Rattle.promises.specs.Host.{Doing, events, Allowed}
use Rattle.promises.specs.OverOriginal.{outcomes_in, made_in, laid_over, stop_of}
use Rattle.promises.specs.Writes.{WriteWorld, began, shows, handed, run, does, May, hosted, Alike}

-- what one clean write leaves
abbrev pub clean : ℕ → List ℕ → List ℕ → List ℕ
clean address payload flash = store flash (place_of address) payload

-- what an answer says of i acknowledged blocks of k bytes, of n bytes in all: 0, all are; 6, its count is theirs, a nonzero multiple of k below n;
-- 1 or 2, no count is given and no block was acknowledged
pub data Answered (k n i : ℕ) (a : Answer) : Type 0 where
  all_acked : number_of a ≡ 0 → n ≤ i * k → Answered k n i a
  some_acked : number_of a ≡ 6 → detail_of a ≡ i * k → 0 < i → i * k < n → Answered k n i a
  none_acked : (number_of a ≡ 1) ⊎ (number_of a ≡ 2) → i ≡ 0 → Answered k n i a

-- what the machine shows then: a block, where one is left to send, or such an answer; never a read, never a refusal
abbrev pub Told : ℕ → ℕ → ℕ → Transfer → Type 0
Told k n i (transfer.Write count) = i * k < n
Told k n i (transfer.Read command count) = ⊥
Told k n i (transfer.Refused a) = ⊥
Told k n i (transfer.Ended a) = Answered k n i a

-- at every point of stopping: the flash as an overlay, the same byte by byte, and what the machine shows
pub record Promised (address : ℕ) (payload flash : List ℕ) (w : WriteWorld) : Type 0 where
  pub overlay : Overlaid 32 (place_of address) payload flash w.acked w.flash
  pub bytes : Stands 32 address payload flash w.acked w.flash
  pub told : Told 32 (length payload) w.acked (shows payload w)

-- ---- going on

-- how a go stopped: cut, where the machine shows a transfer, or with the answer that it shows
abbrev pub end_in : Transfer → End
end_in (transfer.Write n) = end.Cut
end_in (transfer.Read command count) = end.Cut
end_in (transfer.Refused a) = end.Answered a
end_in (transfer.Ended a) = end.Answered a

-- what that says of i acknowledged blocks of k bytes, of n bytes in all: cut, a block is left to send
abbrev pub Tells : ℕ → ℕ → ℕ → End → Type 0
Tells k n i end.Cut = i * k < n
Tells k n i (end.Answered a) = Answered k n i a

-- it ended with the answer 0
abbrev pub EndedWell : End → Type 0
EndedWell end.Cut = ⊥
EndedWell (end.Answered a) = number_of a ≡ 0

-- the count that an answer gives; none given means zero
abbrev pub given_count : Answer → ℕ
given_count a = when eqb (number_of a) 6 then detail_of a else 0

-- goes one after the other, from a flash to what the last one leaves, which ended well; `Go address payload flash e now` says of one go how it stopped
-- and what flash it left. After an error the next go sends only the bytes past the count, to the address that many further on; after a stop in the
-- middle it sends all of them again, to the same address
pub data Goes (Go : ℕ → List ℕ → List ℕ → End → List ℕ → Type 0) : ℕ → List ℕ → List ℕ → List ℕ → Type 0 where
  ended_well : {address : ℕ} {payload flash after : List ℕ} (e : End) → EndedWell e → Go address payload flash e after
      → Goes Go address payload flash after
  went_on : {address : ℕ} {payload flash now after : List ℕ} (a : Answer) → Go address payload flash (end.Answered a) now
      → Goes Go (address + given_count a) (drop (given_count a) payload) now after → Goes Go address payload flash after
  started_over : {address : ℕ} {payload flash now after : List ℕ} → Go address payload flash end.Cut now
      → Goes Go address payload now after → Goes Go address payload flash after

-- a go over events: settings, a work buffer and events of its own
pub record GoOver (address : ℕ) (payload flash : List ℕ) (e : End) (now : List ℕ) : Type 0 where
  pub config : Config
  pub work : List ℕ
  pub es : List Event
  pub room : 39 ≤ length work
  pub ends : e ≡ end_in (shows payload (run payload es (began config address payload work flash)))
  pub leaves : now ≡ (run payload es (began config address payload work flash)).flash

-- an accepted write: inside the window, with room for every frame, on a flash of 8,192 bytes
pub record Accepted (address : ℕ) (payload work flash : List ℕ) : Type 0 where
  pub window : in_window address (length payload) ≡ true
  pub room : 39 ≤ length work
  pub whole : length flash ≡ 8192

-- DEMAND 3
pub record Demand3 : Type 0 where
  -- stop anywhere and know every byte, and what the count says
  pub stopped : (config : Config) (address : ℕ) (payload work flash : List ℕ) → Accepted address payload work flash → (es : List Event)
      → Promised address payload flash (run payload es (began config address payload work flash))
  -- wherever a write is shown, the bytes handed out are the frame of the block that is due
  pub frames : (config : Config) (address : ℕ) (payload work flash : List ℕ) → Accepted address payload work flash → (es : List Event) (n : ℕ)
      → shows payload (run payload es (began config address payload work flash)) ≡ transfer.Write n
      → handed payload n (run payload es (began config address payload work flash))
      ≡ block_frame config.pec_write address (run payload es (began config address payload work flash)).acked payload
  -- demand 2's transfers: for the outcomes of these events the flash is what becomes of the transfers that the Rust makes, and the machine stands where
  -- the Rust's call does, cut or with its answer
  pub over_original : (config : Config) (address : ℕ) (payload work flash : List ℕ) → TwoByteBudgets config → Accepted address payload work flash
      → (es : List Event)
      → ((run payload es (began config address payload work flash)).flash
      ≡ laid_over es (made_in (rust.write_dataflash (set_for side.Write config) address payload begun (outcomes_in es))) flash)
      × (end_in (shows payload (run payload es (began config address payload work flash))) ≡ stop_of (rust.write_dataflash (set_for side.Write config) address payload begun (outcomes_in es)))
  -- any host: whatever work buffer of that length it lends for each transfer, whatever lies in the reply beside a failure, and whatever it reports in between
  -- that is refused (8, 9 or 10), the call, the flash and the count are those of its transfers alone: none of that changes anything
  pub any_host : (config : Config) (address : ℕ) (payload work flash : List ℕ) → Accepted address payload work flash
      → (doings : List Doing) → Allowed (does payload) (May payload (length work)) doings (began config address payload work flash)
      → Alike (hosted payload doings (began config address payload work flash)) (run payload (events doings) (began config address payload work flash))
  -- the count that an error gives is of the blocks acknowledged
  pub counted : (config : Config) (address : ℕ) (payload work flash : List ℕ) → Accepted address payload work flash → (es : List Event) (a : Answer)
      → shows payload (run payload es (began config address payload work flash)) ≡ transfer.Ended a → (number_of a ≡ 0 → ⊥)
      → given_count a ≡ (run payload es (began config address payload work flash)).acked * 32
  -- figures: 6 with 64 gives 64; the code of a bus error is no count, and a timeout has none
  pub counts : (given_count (answer.PartialDataFlashWrite 64) ≡ 64) × (given_count (answer.I2c 5) ≡ 0) × (given_count answer.Timeout ≡ 0)
  -- go on from the count, any number of times
  pub resumed : (address : ℕ) (payload flash after : List ℕ) → in_window address (length payload) ≡ true → length flash ≡ 8192
      → Goes GoOver address payload flash after → after ≡ clean address payload flash
  -- and that is what a write leaves whose every transfer is acknowledged: it ends well
  pub unbroken : (config : Config) (address : ℕ) (payload work flash : List ℕ) → Accepted address payload work flash
      → (n : ℕ) → length payload ≤ n * 32
      → EndedWell (end_in (shows payload (run payload (replicate n acknowledged) (began config address payload work flash))))
      × ((run payload (replicate n acknowledged) (began config address payload work flash)).flash ≡ clean address payload flash)
  -- the overlay and the bytes say the same, for blocks of any length
  pub agree : (k address : ℕ) (payload flash : List ℕ) → in_window address (length payload) ≡ true → length flash ≡ 8192 → (i : ℕ) (now : List ℕ)
      → (Overlaid k (place_of address) payload flash i now → Stands k address payload flash i now)
      × (Stands k address payload flash i now → Overlaid k (place_of address) payload flash i now)
