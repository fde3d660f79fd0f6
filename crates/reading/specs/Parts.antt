-- What a reading call is made of. (01, Frames and retries)
-- Assumes nothing.
use Rattle.std.specs.Prelude.{ℕ, ◌+◌, ◌-◌, min, Bool, true, false, List, []}
use Rattle.protocol.specs.Pick.{when◌then◌else◌}
use Rattle.protocol.specs.Bytes.{blocks_of, block_start}
use Rattle.protocol.specs.Frame.{pair_of, fixed_pair, mac_bytes, command_bytes}
use Rattle.protocol.specs.Reply.{mac_ask}
use Rattle.protocol.specs.declared.common.Side.{Side}
use Rattle.protocol.specs.declared.common.Side.TheVariants as side
use Rattle.protocol.specs.declared.reply.Ask.{Ask}
use Rattle.reading.specs.declared.parts.Head.{Head}
use Rattle.reading.specs.declared.parts.Head.TheVariants as head
use Rattle.reading.specs.declared.parts.Reads.{Reads}
use Rattle.reading.specs.declared.parts.Reads.TheVariants as reads

-- a plain read has no head
unfoldable pub has_head : Head → Bool
has_head head.Bare = false
has_head (head.Command address) = true
has_head (head.Mac command) = true
has_head (head.DataFlash start) = true

-- where the data flash that is read begins
unfoldable pub first_address : Head → ℕ
first_address head.Bare = 0
first_address (head.Command address) = 0
first_address (head.Mac command) = 0
first_address (head.DataFlash start) = start

-- the head before its PEC; that of data flash is block i's own address
unfoldable pub head_bytes : Head → ℕ → List ℕ
head_bytes head.Bare i = []
head_bytes (head.Command address) i = command_bytes address
head_bytes (head.Mac command) i = mac_bytes (fixed_pair command) []
head_bytes (head.DataFlash start) i = mac_bytes (pair_of (start + block_start i)) []

-- the side of a call with these reads: one that reads nothing is a write
abbrev pub reads_side : Reads → Side
reads_side reads.Nothing = side.Write
reads_side (reads.Once ask) = side.Read
reads_side (reads.Blocks pec) = side.Read

-- how many reads there are for a buffer of n bytes
unfoldable pub read_count : Reads → ℕ → ℕ
read_count reads.Nothing n = 0
read_count (reads.Once ask) n = 1
read_count (reads.Blocks pec) n = blocks_of n

-- what is left of n bytes after i blocks
abbrev pub left_of : ℕ → ℕ → ℕ
left_of n i = n - block_start i

-- a block of data flash: 32 bytes with PEC, otherwise what is left of them
unfoldable pub block_ask : ℕ → Bool → Ask
block_ask left pec = when pec then mac_ask 0x44 32 true else mac_ask 0x44 (min 32 left) false

-- what read i asks for
unfoldable pub ask_of : Reads → ℕ → ℕ → Ask
ask_of reads.Nothing n i = mac_ask 0x44 0 false
ask_of (reads.Once ask) n i = ask
ask_of (reads.Blocks pec) n i = block_ask (left_of n i) pec

-- how much of a reply is handed over: all that the buffer has room for, or a block of 32
unfoldable pub most_of : Reads → ℕ → ℕ
most_of reads.Nothing n = 0
most_of (reads.Once ask) n = n
most_of (reads.Blocks pec) n = 32
