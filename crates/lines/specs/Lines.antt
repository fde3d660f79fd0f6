-- Input that comes in chunks, put together to lines. (01, The bench program: one frame a line, line feed at the end)
-- Assumes nothing.
use Rattle.std.specs.Prelude.{ℕ, ◌+◌, ◌-◌, List, [], ◌∷◌, length, drop, ltb, leb, eqb}
use Rattle.protocol.specs.Pick.{when◌then◌else◌}
use Rattle.protocol.specs.Bytes.{stored_at}
use Rattle.lines.specs.declared.Took.{Took}
use Rattle.lines.specs.declared.Took.TheVariants as took

-- the bytes before the first line feed, or all of them
unfoldable pub before_feed : List ℕ → List ℕ
before_feed [] = []
before_feed (b ∷ s) = when eqb b 10 then [] else b ∷ before_feed s

-- what k bytes from `from` on, of a chunk of n, come to beside those that are held
unfoldable pub took_by : ℕ → ℕ → ℕ → ℕ → ℕ → Took
took_by n from k room have =
    when ltb room (have + k) then took.Long else
    when leb (n - from) k then took.More (have + k) else
    when eqb have 0 then took.Here k (from + k + 1) else took.Held (have + k) (from + k + 1)

-- a line is whole at a line feed, and has no room where it is longer than what it is held in
unfoldable pub took_of : List ℕ → ℕ → ℕ → ℕ → Took
took_of chunk from room have = took_by (length chunk) from (length (before_feed (drop from chunk))) room have

-- the bytes go after those that are held, as far as there is room; a line that lies whole in its chunk is not copied
unfoldable pub kept_of : Took → List ℕ → List ℕ → ℕ → List ℕ
kept_of (took.Here n next) line held have = held
kept_of (took.Held n next) line held have = stored_at have (length line) line held
kept_of (took.More n) line held have = stored_at have (length line) line held
kept_of took.Long line held have = stored_at have (length line) line held

unfoldable pub held_after : List ℕ → ℕ → List ℕ → ℕ → List ℕ
held_after chunk from held have = kept_of (took_of chunk from (length held) have) (before_feed (drop from chunk)) held have
