-- Hexadecimal to bytes and back: digits are accepted exactly where they are the digits of some bytes that have room. (01, The bench program)
-- Assumes nothing.
use Rattle.std.specs.Prelude.{ℕ, ◌≤◌, ◌<◌, ◌≡◌, List, length, get_or, Ok}
use Rattle.hexadecimal.specs.Hex.{bytes_of, decoded_of, hex_of}

-- every element is a byte
abbrev pub AllBytes : List ℕ → Type 0
AllBytes s = (k : ℕ) → get_or s k 0 < 256

-- what was encoded is accepted where it has room, and decodes to the bytes; what is accepted had room, decodes to bytes, and is the encoding of these
pub record BothWays : Type 0 where
  pub bytes_digits_bytes : (s : List ℕ) (room : ℕ) → AllBytes s → length s ≤ room → (decoded_of (hex_of s) room ≡ Ok (length s)) × (bytes_of (hex_of s) ≡ s)
  pub digits_bytes_digits : (s : List ℕ) (room n : ℕ) → decoded_of s room ≡ Ok n
      → (hex_of (bytes_of s) ≡ s) × AllBytes (bytes_of s) × (length (bytes_of s) ≡ n) × (n ≤ room)
