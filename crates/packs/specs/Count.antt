-- The count over the lines so far, byte by byte. (02, W-212)
-- Assumes nothing.
use Rattle.std.specs.Prelude.{ℕ, ◌+◌, ◌*◌, ◌/◌, ◌%◌, min, max, Bool, List, [], ◌∷◌, set, get_or, replicate, ltb, leb, eqb, Some, None}
use Rattle.protocol.specs.Pick.{when◌then◌else◌}
use Rattle.hexadecimal.specs.Hex.{value_of}
use Rattle.packs.specs.Said.{Said}
use Rattle.packs.specs.declared.Pack.TheVariants as pack
use Rattle.packs.specs.declared.Count.{Count}
use Rattle.packs.specs.declared.Reader.{Reader}
use Rattle.packs.specs.declared.Sheet.{Sheet}
use Rattle.packs.specs.Sheet.{sheet}

-- no packs; whatever is lower than the lowest or higher than the highest takes its place
unfoldable pub no_packs : Count
no_packs = record { read = 0; unread = 0; sum = 0; lowest = 65535; highest = 0 }

-- at the start of a line: no digits after the 1
unfoldable pub between_of : Count → Reader
between_of count = record { count = count; line = 1 }

-- in a line that is refused
unfoldable pub refused_of : Count → Reader
refused_of count = record { count = count; line = 0 }

unfoldable pub start_of : Reader
start_of = between_of no_packs

-- nothing read yet, and no answer counted
unfoldable pub start_sheet : Sheet
start_sheet = sheet start_of (replicate 256 0)

abbrev pub seen_of : Count → ℕ
seen_of count = count.read + count.unread

unfoldable pub is_refused : Reader → Bool
is_refused reader = eqb reader.line 0

-- one more that was read; the sum is kept in 32 bits, which no file overflows (`Largest` in `count_promises`)
unfoldable pub add_read : Count → ℕ → Count
add_read count cycles = record {
  read = count.read + 1;
  unread = count.unread;
  sum = (count.sum + cycles) % 4294967296;
  lowest = min cycles count.lowest;
  highest = max cycles count.highest;
}

-- one more that was not
unfoldable pub add_unread : Count → Count
add_unread count = record { read = count.read; unread = count.unread + 1; sum = count.sum; lowest = count.lowest; highest = count.highest }

-- one more that this answer stopped, kept in 16 bits, which no file overflows (`Balanced` in `count_promises`)
unfoldable pub one_more : ℕ → List ℕ → List ℕ
one_more answer numbers = set numbers answer ((get_or numbers answer 0 + 1) % 65536)

-- what a line's digits say, a number after a 1: 00 and the cycles, low byte first; 01 and an answer that is not 0
unfoldable pub said_of : ℕ → Said
said_of line =
    when leb 0x1000000 line then (when ltb line 0x1010000 then Some (pack.Read (line % 256 * 256 + line / 256 % 256)) else None) else
    when ltb 0x10100 line then (when ltb line 0x10200 then Some (pack.Unread (line % 256)) else None) else
    None

-- a pack is counted
unfoldable pub counted_by : Said → Count → List ℕ → Sheet
counted_by (Some (pack.Read cycles)) count numbers = sheet (between_of (add_read count cycles)) numbers
counted_by (Some (pack.Unread answer)) count numbers = sheet (between_of (add_unread count)) (one_more answer numbers)
counted_by None count numbers = sheet (refused_of count) numbers

-- a line is whole: it is refused where it is no pack, or one too many
unfoldable pub counted_of : Said → Count → List ℕ → Sheet
counted_of s count numbers = when leb 65535 (seen_of count) then sheet (refused_of count) numbers else counted_by s count numbers

-- one more digit of a line
unfoldable pub digit_of : Reader → ℕ → Reader
digit_of reader value = record { count = reader.count; line = reader.line * 16 + value }

-- one byte: a line feed, or a digit; a byte that is neither, and a seventh digit, refuse their line
unfoldable pub step_of : ℕ → Sheet → Sheet
step_of b d =
    when is_refused d.reader then d else
    when eqb b 10 then counted_of (said_of d.reader.line) d.reader.count d.numbers else
    when ltb 15 (value_of b) then sheet (refused_of d.reader.count) d.numbers else
    when leb 0x1000000 d.reader.line then sheet (refused_of d.reader.count) d.numbers else
    sheet (digit_of d.reader (value_of b)) d.numbers

-- byte after byte
unfoldable pub feed_of : List ℕ → Sheet → Sheet
feed_of [] d = d
feed_of (b ∷ s) d = feed_of s (step_of b d)
