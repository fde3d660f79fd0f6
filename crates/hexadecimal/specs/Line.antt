-- A line of hexadecimal. (01, The bench program)
-- Assumes nothing.
use Rattle.std.specs.Prelude.{ℕ, ◌*◌, List, [], ◌∷◌, ◌++◌, length, eqb}
use Rattle.protocol.specs.Pick.{when◌then◌else◌}
use Rattle.hexadecimal.specs.Hex.{bytes_of, hex_of}

-- the bytes of a line; one that is no hexadecimal has none, as an empty one
unfoldable pub line_bytes : List ℕ → List ℕ
line_bytes line = when eqb (length (bytes_of line) * 2) (length line) then bytes_of line else []

-- bytes as they are written: upper-case hexadecimal and a line feed
unfoldable pub feed_bytes : List ℕ → List ℕ
feed_bytes said = hex_of said ++ (10 ∷ [])

-- line after line
unfoldable pub feeds : List (List ℕ) → List ℕ
feeds [] = []
feeds (line ∷ lines) = feed_bytes line ++ feeds lines
