-- The lines that the bench program prints. (01, The bench program)
-- Assumes nothing.
use Rattle.std.specs.Prelude.{ℕ, ◌+◌, ◌*◌, ◌/◌, ◌%◌, List, [], ◌∷◌, ◌++◌, length, leb}
use Rattle.hexadecimal.specs.Line.{feed_bytes}
use Rattle.protocol.specs.Pick.{when◌then◌else◌}
use Rattle.protocol.specs.Bytes.{over}
use Rattle.protocol.specs.Frame.{pair_of}
use Rattle.protocol.specs.Answer.{number_of, detail_of}
use Rattle.protocol.specs.declared.error.Answer.{Answer}
use Rattle.engine.specs.declared.budget.Tally.{Tally}

-- how many bytes are printed where there is room for so many; 0 where that is too few
unfoldable pub printed_of : List ℕ → ℕ → ℕ
printed_of said room = when leb (length said * 2 + 1) room then length (feed_bytes said) else 0

-- what printing leaves: the line over the front, where there is room
unfoldable pub out_printed : List ℕ → List ℕ → List ℕ
out_printed said out = when leb (length said * 2 + 1) (length out) then over (feed_bytes said) out else out

-- a number's four bytes, low byte first
unfoldable pub quad_of : ℕ → List ℕ
quad_of n = n % 256 ∷ n / 256 % 256 ∷ n / 65536 % 256 ∷ n / 16777216 % 256 ∷ []

-- a write: 00 and the frame
unfoldable pub write_said : List ℕ → List ℕ
write_said frame = 0x00 ∷ frame

-- a read: 01, the command and a two-byte count
unfoldable pub read_said : ℕ → ℕ → List ℕ
read_said command count = 0x01 ∷ command ∷ pair_of count

-- the end: FF, the answer, its two-byte detail, the waits, how long they were (02, W-203) and a reading call's buffer
unfoldable pub end_said : Answer → Tally → List ℕ → List ℕ
end_said answer tally buffer = 0xFF ∷ number_of answer ∷ pair_of (detail_of answer) ++ quad_of tally.waits ++ quad_of tally.waited_ms ++ buffer

-- no outcomes left: FE, the waits, how long they were and a reading call's buffer
unfoldable pub cut_said : Tally → List ℕ → List ℕ
cut_said tally buffer = 0xFE ∷ quad_of tally.waits ++ quad_of tally.waited_ms ++ buffer

-- the longest of them: an end with the longest buffer
abbrev pub longest_said : ℕ
longest_said = 12 + 8192
