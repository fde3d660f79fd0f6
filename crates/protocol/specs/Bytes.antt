-- What is laid into a buffer, and what is handed out of one.
-- Assumes nothing.
use Rattle.std.specs.Prelude.{ℕ, ◌+◌, ◌*◌, ◌/◌, min, Bool, List, ◌++◌, length, take, drop, leb}
use Rattle.protocol.specs.Pick.{when◌then◌else◌}

-- f over the front of w, and the rest of w as it was
unfoldable pub over : List ℕ → List ℕ → List ℕ
over f w = f ++ drop (length f) w

-- at most `most` bytes of a block over the front of w, as many as there is room for
unfoldable pub block_in : ℕ → List ℕ → List ℕ → List ℕ
block_in most b w = over (take (min most (min (length b) (length w))) b) w

-- the block after the first `at` bytes, which stay; nothing where `at` is past the end
unfoldable pub stored_at : ℕ → ℕ → List ℕ → List ℕ → List ℕ
stored_at at most b w = when leb at (length w) then take at w ++ block_in most b (drop at w) else w

-- how many blocks of 32 there are in n bytes, the last perhaps short
abbrev pub blocks_of : ℕ → ℕ
blocks_of n = (n + 31) / 32

-- where block i of 32 starts
abbrev pub block_start : ℕ → ℕ
block_start i = i * 32

-- the part to send: the frame's n bytes as they were built in the work buffer, or the caller's own
unfoldable pub send_of : List ℕ → List ℕ → Bool → ℕ → List ℕ
send_of payload work built n = when built then take n work else take n payload
