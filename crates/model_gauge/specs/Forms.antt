-- Which frames are read as what, in both directions: no list of bytes but these is a block write or an address. (01, The model gauge; Frames)
-- Assumes nothing.
use Rattle.std.specs.Prelude.{ℕ, ◌+◌, ◌*◌, ◌≤◌, ◌≡◌, Bool, List, [], ◌∷◌, length}
use Rattle.protocol.specs.Frame.{sealed}
use Rattle.model_gauge.specs.Frame.{read_frame}
use Rattle.model_gauge.specs.declared.frame.Form.TheVariants as form

-- 44, how many bytes follow, the address low byte first, the bytes; after them nothing, or their PEC
abbrev pub counted : Bool → ℕ → ℕ → List ℕ → List ℕ
counted pec low high bytes = sealed pec (0x44 ∷ (length bytes + 2) ∷ low ∷ high ∷ bytes)

pub record Forms : Type 0 where
  -- with 1 to 32 bytes it is a block write of them all, at its address
  pub block : (pec : Bool) (low high : ℕ) (bytes : List ℕ) → 1 ≤ length bytes → length bytes ≤ 32
      → read_frame (counted pec low high bytes) ≡ form.BlockWrite (high * 256 + low) (length bytes)
  -- and each block write is such a frame
  pub block_only : (frame : List ℕ) (address count : ℕ) → read_frame frame ≡ form.BlockWrite address count
      → (pec : Bool) × (low : ℕ) × (high : ℕ) × (bytes : List ℕ) × (frame ≡ counted pec low high bytes)
      × (address ≡ high * 256 + low) × (count ≡ length bytes) × (1 ≤ count) × (count ≤ 32)
  -- with none it is an address
  pub address : (pec : Bool) (low high : ℕ) → read_frame (counted pec low high []) ≡ form.Address (high * 256 + low)
  -- and each address is such a frame
  pub address_only : (frame : List ℕ) (address : ℕ) → read_frame frame ≡ form.Address address
      → (pec : Bool) × (low : ℕ) × (high : ℕ) × (frame ≡ counted pec low high []) × (address ≡ high * 256 + low)
