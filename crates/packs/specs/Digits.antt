-- The table of digits, and a number that may be none. (02, W-212)
-- Assumes nothing.
use Rattle.std.specs.Prelude.{ℕ, ◌<◌, ◌≡◌, List, get_or, ltb, Option, Some, None}
use Rattle.protocol.specs.Pick.{when◌then◌else◌}
use Rattle.hexadecimal.specs.Hex.{value_of}

-- the rule of a table of digits: its entry for each byte is the value of that digit
abbrev pub Tabled : List ℕ → Type 0
Tabled t = (k : ℕ) → k < 256 → get_or t k 0 ≡ value_of k

-- a number up to this one; a larger one stands for none
unfoldable pub up_to : ℕ → ℕ → Option ℕ
up_to most n = when ltb most n then None else Some n
