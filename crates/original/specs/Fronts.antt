-- What a reading call leaves in its caller's buffer, wherever it stops: ended well, failed, or cut because the outcomes ran out. (01, Frames and retries)
-- The front is the data of the replies that were believed, in order, cut to the buffer's length; the rest is as it was.
-- Stated over the transfers made and what the bus did with each of them, and over no counter of the call. Assumes nothing.
use Rattle.std.specs.Prelude.{ℕ, ◌-◌, ◌%◌, ◌≤◌, ◌<◌, ◌≡◌, Bool, false, List, [], ◌∷◌, ◌++◌, length, take, drop, get_or, eqb}
use Rattle.smbus_pec.specs.Pec.{pec_of}
use Rattle.protocol.specs.Pick.{when◌then◌else◌}
use Rattle.protocol.specs.Bytes.{over}
use Rattle.protocol.specs.declared.common.Config.{Config}
use Rattle.interface.specs.Plans as machine
use Rattle.r5.specs.Plans as machine-r5
use Rattle.original.specs.Bus.{BusOutcome, Acknowledged, BusError, Timeout, delivered, Made, write, read, Read, ◌leaving◌, transfers_of}
use Rattle.original.specs.Fed.{Lending, reads}

-- how a reply is laid out: so many bytes before the data, a PEC behind it or none, and the command that the PEC covers
pub record Layout : Type 0 where
  pub before : ℕ
  pub pec : Bool
  pub command : ℕ

-- of a plain read: nothing before the data, and the PEC covers the command that was sent
abbrev pub plain : Bool → ℕ → Layout
plain pec command = record { before = 0; pec = pec; command = command }

-- of a MAC read and of data flash: three bytes before the data, and the PEC covers 44
abbrev pub mac : Bool → Layout
mac pec = record { before = 3; pec = pec; command = 0x44 }

-- the last byte is the PEC of 16, the command, 17 and the bytes before it
unfoldable pub right_pec : ℕ → List ℕ → Bool
right_pec command reply = eqb (get_or reply (length reply - 1) 0) (pec_of 0 (0x16 ∷ command ∷ 0x17 ∷ take (length reply - 1) reply))

-- the data of a reply; none where its PEC is wrong
unfoldable pub data_in : Layout → List ℕ → List ℕ
data_in layout reply =
    when layout.pec then (when right_pec layout.command reply then drop layout.before (take (length reply - 1) reply) else [])
    else drop layout.before reply

-- the data that one transfer brought: that of an acknowledged read; nothing else brings any
unfoldable pub brought : Layout → Made → BusOutcome → List ℕ
brought layout (write frame) o = []
brought layout (read command count) (Acknowledged bytes) = data_in layout (delivered count bytes)
brought layout (read command count) (BusError code) = []
brought layout (read command count) Timeout = []

-- the data that all transfers brought, each beside its outcome; the last may still wait for its own
unfoldable pub all_brought : Layout → List Made → List BusOutcome → List ℕ
all_brought layout [] outcomes = []
all_brought layout (t ∷ transfers) [] = []
all_brought layout (t ∷ transfers) (o ∷ outcomes) = brought layout t o ++ all_brought layout transfers outcomes

-- what a reading call leaves in the buffer
unfoldable pub buffer_left : Read → List ℕ
buffer_left (came leaving left) = left

-- all that its transfers brought
abbrev pub gathered : Layout → List BusOutcome → Read → List ℕ
gathered layout outcomes r = all_brought layout (transfers_of r) outcomes

-- what was brought, cut to the buffer's length, over the front of the buffer
abbrev pub Front : Layout → List ℕ → List BusOutcome → Read → Type 0
Front layout buffer outcomes r = buffer_left r ≡ over (take (length buffer) (gathered layout outcomes r)) buffer

-- every reading call, for these settings, a work buffer of w bytes at each step, what is lent and these outcomes
pub record Fronts (config : Config) (w : ℕ) (lent : ℕ → Lending) (outcomes : List BusOutcome) : Type 0 where
  -- interface.rs
  pub read_register_lem : (address : ℕ) (buffer : List ℕ)
      → Front (plain config.pec_read address) buffer outcomes (reads (machine.read_register config address (length buffer)) buffer w lent outcomes)
  pub dispatch_command_lem : (address : ℕ) (input output : List ℕ)
      → Front (mac config.pec_read) output outcomes (reads (machine.dispatch_command config address (length input) (length output)) output w lent outcomes)
  -- a length is one of the machine's 64-bit numbers
  pub buffer_read_lem : (address : ℕ) (buffer : List ℕ) → length buffer ≤ 18446744073709551615
      → Front (plain false address) buffer outcomes (reads (machine.read_buffer config address (length buffer)) buffer w lent outcomes)
  -- versions/r5.rs
  pub read_security_keys_lem : (buffer : List ℕ) → length buffer ≡ 28
      → Front (mac config.pec_read) buffer outcomes (reads (machine-r5.read_security_keys config) buffer w lent outcomes)
  pub read_authentication_key_lem : (buffer : List ℕ) → length buffer ≡ 16
      → Front (mac config.pec_read) buffer outcomes (reads (machine-r5.read_authentication_key config) buffer w lent outcomes)
  pub read_mfg_info_c_lem : (buffer : List ℕ)
      → Front (mac config.pec_read) buffer outcomes (reads (machine-r5.read_mfg_info_c config (length buffer)) buffer w lent outcomes)
  pub read_mfg_info_lem : (buffer : List ℕ)
      → Front (plain config.pec_read 0x70) buffer outcomes (reads (machine-r5.read_mfg_info config (length buffer)) buffer w lent outcomes)
  pub read_charging_voltage_override_lem : (buffer : List ℕ) → length buffer ≡ 10
      → Front (mac config.pec_read) buffer outcomes (reads (machine-r5.read_charging_voltage_override config) buffer w lent outcomes)
  pub read_dataflash_lem : (start : ℕ) (buffer : List ℕ)
      → Front (mac config.pec_read) buffer outcomes (reads (machine-r5.read_dataflash config start) buffer w lent outcomes)
  -- short of a full buffer, data flash was brought in whole blocks of 32
  pub whole_blocks : (start : ℕ) (buffer : List ℕ)
      → length (gathered (mac config.pec_read) outcomes (reads (machine-r5.read_dataflash config start) buffer w lent outcomes)) < length buffer
      → length (gathered (mac config.pec_read) outcomes (reads (machine-r5.read_dataflash config start) buffer w lent outcomes)) % 32 ≡ 0
