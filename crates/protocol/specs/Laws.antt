-- What the parts that all calls share come to, in plain lists and numbers: the window, the block copier, how many blocks there are, the part to send, the one
-- builder, the fixed pairs, when a reply is believed; and what the settings have on each side. (01, The step machine; Frames and retries; 02, W-211)
-- Assumes nothing.
use Rattle.std.specs.Prelude.{ℕ, ◌+◌, ◌*◌, ◌≤◌, ◌<◌, min, ◌≡◌, Bool, true, false, List, [], ◌∷◌, ◌++◌, length, take, drop, Some, None, Ok, Err}
use Rattle.smbus_pec.specs.Pec.{pec_of}
use Rattle.protocol.specs.Common.{retries_on, pec_on}
use Rattle.protocol.specs.Bytes.{block_in, stored_at, blocks_of, send_of}
use Rattle.protocol.specs.Frame.{sealed, fixed_pair, laid_of, work_laid}
use Rattle.protocol.specs.Reply.{bytes_asked, checked_of, heard_of}
use Rattle.protocol.specs.Window.{window_first, window_last, window_size, window_end, in_window, in_window_by_last}
use Rattle.protocol.specs.declared.common.Side.TheVariants as side
use Rattle.protocol.specs.declared.common.Config.{Config}
use Rattle.protocol.specs.declared.frame.MacCommand.TheVariants.{SecurityKeys, AuthenticationKey, ChargingVoltageOverride, MfgInfoC}
use Rattle.protocol.specs.declared.reply.Ask.{Ask}
use Rattle.protocol.specs.declared.reply.Unheard.TheVariants.{WrongLength, WrongPec}

pub record Laws : Type 0 where
  -- 6000 hex is the first address plus the size, and the address after the last
  pub window_end_lem : (window_end ≡ window_first + window_size) × (window_end ≡ window_last + 1)
  -- every answer of the window is that of document 01's formula, whatever the start and the length
  pub window_by_last : (start len : ℕ) → in_window start len ≡ in_window_by_last start len
  -- the block copier lays as many bytes over the front as it may, as the block has and as there is room for
  pub copies : (most k : ℕ) (block buffer : List ℕ) → k ≡ min most (min (length block) (length buffer)) → block_in most block buffer ≡ take k block ++ drop k buffer
  -- from its middle onward: what follows the first `at` bytes is lent to the copier; where they are more than there are, nothing is
  pub stores : (at most : ℕ) (block buffer : List ℕ) → at ≤ length buffer → stored_at at most block buffer ≡ take at buffer ++ block_in most block (drop at buffer)
  pub stores_none : (at most : ℕ) (block buffer : List ℕ) → length buffer < at → stored_at at most block buffer ≡ buffer
  -- so many blocks of 32 hold n bytes, and one fewer do not
  pub blocks : (n : ℕ) → (n ≤ blocks_of n * 32) × (blocks_of n * 32 < n + 32)
  -- the part to send is the front of the work buffer where a frame was built, otherwise of the caller's own bytes
  pub sends : (payload work : List ℕ) (n : ℕ) → (send_of payload work true n ≡ take n work) × (send_of payload work false n ≡ take n payload)
  -- a PEC, where it is on, is that of 16 and the frame
  pub seals : (frame : List ℕ) → (sealed true frame ≡ frame ++ (pec_of 0 (0x16 ∷ frame) ∷ [])) × (sealed false frame ≡ frame)
  -- a frame that has room beside a PEC is laid over the front of the work buffer; one that has none is not
  pub lays : (pec : Bool) (frame work : List ℕ) → length frame < length work
      → (laid_of pec frame (length work) ≡ Some (length (sealed pec frame))) × (work_laid pec frame work ≡ sealed pec frame ++ drop (length (sealed pec frame)) work)
  pub no_room : (pec : Bool) (frame work : List ℕ) → length work ≤ length frame → (laid_of pec frame (length work) ≡ None) × (work_laid pec frame work ≡ work)
  -- the fixed pairs
  pub pairs :
      (fixed_pair SecurityKeys ≡ 0x35 ∷ 0x00 ∷ []) × (fixed_pair AuthenticationKey ≡ 0x37 ∷ 0x00 ∷ [])
      × (fixed_pair ChargingVoltageOverride ≡ 0xB0 ∷ 0x00 ∷ []) × (fixed_pair MfgInfoC ≡ 0x7B ∷ 0x00 ∷ [])
  -- a reply of another length than was asked, one of that length whose PEC differs, and any other
  pub wrong_length : (ask : Ask) (reply : List ℕ) → (bytes_asked ask ≡ length reply → ⊥) → heard_of ask reply ≡ Err WrongLength
  pub wrong_pec : (ask : Ask) (reply : List ℕ) → bytes_asked ask ≡ length reply → ask.pec ≡ true → checked_of ask.covered reply ≡ false → heard_of ask reply ≡ Err WrongPec
  pub good : (ask : Ask) (reply : List ℕ) → bytes_asked ask ≡ length reply → (ask.pec ≡ true → checked_of ask.covered reply ≡ true) → heard_of ask reply ≡ Ok tt
  -- a side has its own budget and its own PEC, as they stand in the settings
  pub sides : (config : Config)
      → (retries_on config side.Write ≡ config.max_write_retries) × (retries_on config side.Read ≡ config.max_read_retries)
      × (pec_on config side.Write ≡ config.pec_write) × (pec_on config side.Read ≡ config.pec_read)
