-- A flash with bytes stored over it, for blocks of any length k: as an overlay, and byte by byte for each address.
-- Assumes nothing.
use Rattle.std.specs.Prelude.{ℕ, suc, ◌+◌, ◌*◌, ◌-◌, ◌/◌, ◌%◌, ◌≤◌, ◌<◌, min, ◌≡◌, Bool, ◌⊎◌, List, [], ◌∷◌, ◌++◌, length, take, drop, get_or}
use Rattle.smbus_pec.specs.Pec.{pec_of}
use Rattle.protocol.specs.Pick.{when◌then◌else◌}

-- where an address lies in the flash: the byte of 4000 hex is first. The demand has a place of its own and does not borrow the model's (`offset_of`)
abbrev pub place_of : ℕ → ℕ
place_of address = address - 0x4000

-- the byte of an address
abbrev pub byte_at : List ℕ → ℕ → ℕ
byte_at flash address = get_or flash (place_of address) 0

-- bytes over a flash from a place on; the rest of it as it was
unfoldable pub store : List ℕ → ℕ → List ℕ → List ℕ
store flash at bytes = take at flash ++ bytes ++ drop (at + length bytes) flash

-- block i of a payload, the last perhaps short
abbrev pub block_of : ℕ → ℕ → List ℕ → List ℕ
block_of k i payload = take k (drop (i * k) payload)

-- its frame, at its own address: 44, the count of what follows, the address low byte first, its bytes; with PEC, that of 16 and all of it (01, Frames)
abbrev pub block_frame : Bool → ℕ → ℕ → List ℕ → List ℕ
block_frame pec address i payload =
    let block : List ℕ = block_of 32 i payload in
    let at : ℕ = address + i * 32 in
    let frame : List ℕ = 0x44 ∷ (length block + 2) ∷ at % 256 ∷ at / 256 % 256 ∷ block in
    when pec then frame ++ (pec_of 0 (0x16 ∷ frame) ∷ []) else frame

-- the flash with the first i blocks of a payload over it, or all of them where there are fewer
abbrev pub upto : ℕ → ℕ → List ℕ → List ℕ → ℕ → List ℕ
upto k at payload flash i = store flash at (take (i * k) payload)

-- as an overlay: the i acknowledged blocks stand over the flash, and of the next one nothing or all
abbrev pub Overlaid : ℕ → ℕ → List ℕ → List ℕ → ℕ → List ℕ → Type 0
Overlaid k at payload flash i now = (now ≡ upto k at payload flash i) ⊎ (now ≡ upto k at payload flash (suc i))

-- in bytes, for each address x of the window, of a payload at an address
pub record Stands (k address : ℕ) (payload flash : List ℕ) (i : ℕ) (now : List ℕ) : Type 0 where
  -- no byte more, none fewer
  pub size : length now ≡ length flash
  -- the bytes of acknowledged blocks stand at their addresses
  pub acked : (x : ℕ) → address ≤ x → x < address + i * k → x < address + length payload → byte_at now x ≡ get_or payload (x - address) 0
  -- the next block is all old or all new
  pub next :
      ((x : ℕ) → address + i * k ≤ x → x < address + suc i * k → x < address + length payload → byte_at now x ≡ byte_at flash x)
      ⊎ ((x : ℕ) → address + i * k ≤ x → x < address + suc i * k → x < address + length payload → byte_at now x ≡ get_or payload (x - address) 0)
  -- the byte of every other address of the window is as before
  pub other : (x : ℕ) → 0x4000 ≤ x → x < 0x6000 → (x < address) ⊎ (address + min (suc i * k) (length payload) ≤ x) → byte_at now x ≡ byte_at flash x
