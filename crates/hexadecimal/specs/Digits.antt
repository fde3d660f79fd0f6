-- The sixteen digits in ASCII, and what they make of bytes and of a line. (01, The bench program: upper-case hexadecimal)
-- Assumes nothing.
use Rattle.std.specs.Prelude.{ℕ, ◌/◌, ◌%◌, ◌≡◌, List, [], ◌∷◌, ◌⊎◌, get_or}
use Rattle.hexadecimal.specs.Hex.{hex_of}
use Rattle.hexadecimal.specs.BothWays.{AllBytes}
use Rattle.hexadecimal.specs.Line.{line_bytes}

-- the digits of 0 to 15
abbrev pub sixteen : List ℕ
sixteen =
    0x30
    ∷ 0x31
    ∷ 0x32
    ∷ 0x33
    ∷ 0x34
    ∷ 0x35
    ∷ 0x36
    ∷ 0x37
    ∷ 0x38
    ∷ 0x39
    ∷ 0x41
    ∷ 0x42
    ∷ 0x43
    ∷ 0x44
    ∷ 0x45
    ∷ 0x46
    ∷ []

-- two for each byte, the high one first
unfoldable pub in_digits : List ℕ → List ℕ
in_digits [] = []
in_digits (b ∷ s) = get_or sixteen (b / 16) 0 ∷ get_or sixteen (b % 16) 0 ∷ in_digits s

pub record Hexadecimal : Type 0 where
  -- bytes are written in these digits, and read from them
  pub writes : (s : List ℕ) → AllBytes s → hex_of s ≡ in_digits s
  pub reads : (s : List ℕ) → AllBytes s → line_bytes (in_digits s) ≡ s
  -- a line that is anything else has no bytes
  pub only : (line : List ℕ) → (line_bytes line ≡ []) ⊎ ((in_digits (line_bytes line) ≡ line) × AllBytes (line_bytes line))
