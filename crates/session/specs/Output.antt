-- The whole bench as bytes: those of the input to those of the output. (01, The bench program)
-- Assumes nothing.
use Rattle.std.specs.Prelude.{ℕ, ◌+◌, List, [], length, take, ltb}
use Rattle.protocol.specs.Pick.{when◌then◌else◌}
use Rattle.lines.specs.Input.{lines_from, rest_from}
use Rattle.hexadecimal.specs.Line.{feeds}
use Rattle.dialogue.specs.Bench.{bench_of}
use Rattle.session.specs.Desk.{held_bytes}

-- what is printed for an input, by the calls' own definitions
unfoldable pub printed : List ℕ → List ℕ
printed input = feeds (bench_of (lines_from [] input) (rest_from [] input))

-- one line more, where what follows the last line feed is already longer than any line that is valid
unfoldable pub early : List ℕ → ℕ
early rest = when ltb held_bytes (length rest) then 1 else 0

-- the same for an input that may go on: a line for each line that is whole, and for one that is too long already
unfoldable pub printed_so_far : List ℕ → List ℕ
printed_so_far input =
    feeds (take (length (lines_from [] input) + early (rest_from [] input)) (bench_of (lines_from [] input) (rest_from [] input)))
