-- The bytes of every frame. (01, Frames and retries)
-- Assumes nothing.
use Rattle.std.specs.Prelude.{ℕ, ◌+◌, ◌/◌, ◌%◌, Bool, List, [], ◌∷◌, ◌++◌, length, ltb, Option, Some, None}
use Rattle.smbus_pec.specs.Pec.{pec_of}
use Rattle.protocol.specs.Pick.{when◌then◌else◌}
use Rattle.protocol.specs.Bytes.{over}
use Rattle.protocol.specs.declared.frame.MacCommand.{MacCommand}
use Rattle.protocol.specs.declared.frame.MacCommand.TheVariants.{SecurityKeys, AuthenticationKey, ChargingVoltageOverride, MfgInfoC}

-- the PEC of a write covers 16 hex and the frame
unfoldable pub sealed : Bool → List ℕ → List ℕ
sealed pec f = when pec then f ++ (pec_of 0 (0x16 ∷ f) ∷ []) else f

-- a number's two bytes, low byte first
unfoldable pub pair_of : ℕ → List ℕ
pair_of n = n % 256 ∷ n / 256 % 256 ∷ []

-- 44, the count of what follows, a command or an address, the data: block writes, addresses, keys, overrides, info C, MAC commands
unfoldable pub mac_bytes : List ℕ → List ℕ → List ℕ
mac_bytes pair bytes = 0x44 ∷ (length bytes + 2) % 256 ∷ pair ++ bytes

-- the fixed pairs of the keys, the override and info C
abbrev pub fixed_pair : MacCommand → List ℕ
fixed_pair SecurityKeys = 0x35 ∷ 0x00 ∷ []
fixed_pair AuthenticationKey = 0x37 ∷ 0x00 ∷ []
fixed_pair ChargingVoltageOverride = 0xB0 ∷ 0x00 ∷ []
fixed_pair MfgInfoC = 0x7B ∷ 0x00 ∷ []

-- a command's 32-bit address: bits 23..16, then 02, then bits 15..8, then bits 7..0
unfoldable pub command_bytes : ℕ → List ℕ
command_bytes address = address / 65536 % 256 ∷ 2 ∷ address / 256 % 256 ∷ address % 256 ∷ []

-- a register's or a buffer's address, the data
unfoldable pub register_bytes : ℕ → List ℕ → List ℕ
register_bytes address bytes = address ∷ bytes

-- manufacturer info: 70, length, data
unfoldable pub info_bytes : List ℕ → List ℕ
info_bytes bytes = 0x70 ∷ length bytes % 256 ∷ bytes

-- a work buffer of w bytes takes a frame where the frame and a PEC have room; how long it is then
unfoldable pub laid_of : Bool → List ℕ → ℕ → Option ℕ
laid_of pec f w = when ltb (length f) w then Some (length (sealed pec f)) else None

unfoldable pub work_laid : Bool → List ℕ → List ℕ → List ℕ
work_laid pec f work = when ltb (length f) (length work) then over (sealed pec f) work else work
