-- A line that lies whole in a chunk, taken where it lies. (02, W-212)
-- Assumes nothing.
use Rattle.std.specs.Prelude.{ℕ, ◌+◌, ◌-◌, ◌*◌, List, length, get_or, ltb, eqb, Some, None}
use Rattle.protocol.specs.Pick.{when◌then◌else◌}
use Rattle.hexadecimal.specs.Hex.{byte_of}
use Rattle.packs.specs.Said.{Said}
use Rattle.packs.specs.declared.Pack.TheVariants as pack
use Rattle.packs.specs.declared.Sheet.{Sheet}
use Rattle.packs.specs.Count.{counted_of, step_of}

-- the byte of the two digits at a place of a chunk, or 256
unfoldable pub pair_at : List ℕ → ℕ → ℕ
pair_at chunk at = byte_of (get_or chunk at 0) (get_or chunk (at + 1) 0)

-- after 00: two bytes and a line feed
unfoldable pub read_ahead : List ℕ → ℕ → Said
read_ahead chunk at =
    when eqb (get_or chunk (at + 6) 0) 10 then
    (when ltb 255 (pair_at chunk (at + 2)) then None else
    when ltb 255 (pair_at chunk (at + 4)) then None else
    Some (pack.Read (pair_at chunk (at + 4) * 256 + pair_at chunk (at + 2))))
    else None

-- after 01: a byte that is not 0 and a line feed
unfoldable pub unread_ahead : List ℕ → ℕ → Said
unread_ahead chunk at =
    when eqb (get_or chunk (at + 4) 0) 10 then
    (when eqb (pair_at chunk (at + 2)) 0 then None else
    when ltb 255 (pair_at chunk (at + 2)) then None else
    Some (pack.Unread (pair_at chunk (at + 2))))
    else None

-- the pack of the line at a place of a chunk, where the longest line has room there and this one is a pack
unfoldable pub ahead_of : List ℕ → ℕ → Said
ahead_of chunk at =
    when ltb (length chunk - at) 7 then None else
    when eqb (get_or chunk at 0) 48 then
    (when eqb (get_or chunk (at + 1) 0) 48 then read_ahead chunk at else
    when eqb (get_or chunk (at + 1) 0) 49 then unread_ahead chunk at else
    None)
    else None

-- the same between two lines; in the middle of one, nothing
unfoldable pub line_at : ℕ → List ℕ → ℕ → Said
line_at line chunk at = when eqb line 1 then ahead_of chunk at else None

-- how many bytes are used: of a line, its digits and the line feed; where there is none, one
unfoldable pub used_by : Said → ℕ
used_by (Some (pack.Read cycles)) = 7
used_by (Some (pack.Unread answer)) = 5
used_by None = 1

-- a line is counted; where there is none, one byte is taken
unfoldable pub turn_of : Said → ℕ → Sheet → Sheet
turn_of (Some (pack.Read cycles)) b d = counted_of (Some (pack.Read cycles)) d.reader.count d.numbers
turn_of (Some (pack.Unread answer)) b d = counted_of (Some (pack.Unread answer)) d.reader.count d.numbers
turn_of None b d = step_of b d
