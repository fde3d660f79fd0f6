-- Which frames a writing call sends. (01, Frames and retries)
-- Assumes nothing.
use Rattle.std.specs.Prelude.{ℕ, ◌+◌, Bool, true, false, List, [], take, drop, ltb, eqb}
use Rattle.protocol.specs.Pick.{when◌then◌else◌}
use Rattle.protocol.specs.Bytes.{blocks_of, block_start}
use Rattle.protocol.specs.Frame.{pair_of, fixed_pair, mac_bytes, register_bytes, info_bytes}
use Rattle.protocol.specs.declared.frame.MacCommand.TheVariants as mac
use Rattle.writing.specs.declared.frames.Frames.{Frames}
use Rattle.writing.specs.declared.frames.Frames.TheVariants as frames

-- the caller built the frame
unfoldable pub is_plain : Frames → Bool
is_plain frames.Plain = true
is_plain (frames.Register address) = false
is_plain frames.MfgInfo = false
is_plain (frames.Mac command) = false
is_plain (frames.AccessKey lower upper) = false
is_plain (frames.MfgInfoC lower upper) = false
is_plain (frames.DataFlash start) = false

-- the frames write data flash
unfoldable pub is_flash : Frames → Bool
is_flash frames.Plain = false
is_flash (frames.Register address) = false
is_flash frames.MfgInfo = false
is_flash (frames.Mac command) = false
is_flash (frames.AccessKey lower upper) = false
is_flash (frames.MfgInfoC lower upper) = false
is_flash (frames.DataFlash start) = true

-- where the data flash that they write begins
unfoldable pub first_address : Frames → ℕ
first_address frames.Plain = 0
first_address (frames.Register address) = 0
first_address frames.MfgInfo = 0
first_address (frames.Mac command) = 0
first_address (frames.AccessKey lower upper) = 0
first_address (frames.MfgInfoC lower upper) = 0
first_address (frames.DataFlash start) = start

-- how many there are for a payload of n bytes
unfoldable pub frame_count : Frames → ℕ → ℕ
frame_count frames.Plain n = 1
frame_count (frames.Register address) n = 1
frame_count frames.MfgInfo n = 1
frame_count (frames.Mac command) n = 1
frame_count (frames.AccessKey lower upper) n = 2
frame_count (frames.MfgInfoC lower upper) n = 3
frame_count (frames.DataFlash start) n = blocks_of n

-- half i of an access key: the lower half's frame, then the upper half's, each low byte first
unfoldable pub half_bytes : ℕ → ℕ → ℕ → List ℕ
half_bytes lower upper i = when eqb i 0 then mac_bytes (pair_of lower) [] else mac_bytes (pair_of upper) []

-- data-flash block i, at its own address
unfoldable pub block_bytes : ℕ → ℕ → List ℕ → List ℕ
block_bytes start i payload = mac_bytes (pair_of (start + block_start i)) (take 32 (drop (block_start i) payload))

-- manufacturer info C: both halves of the access key, then its own frame
unfoldable pub info_cbytes : ℕ → ℕ → ℕ → List ℕ → List ℕ
info_cbytes lower upper i payload = when ltb i 2 then half_bytes lower upper i else mac_bytes (fixed_pair mac.MfgInfoC) payload

-- frame i, before its PEC
unfoldable pub bytes_at : Frames → ℕ → List ℕ → List ℕ
bytes_at frames.Plain i payload = payload
bytes_at (frames.Register address) i payload = register_bytes address payload
bytes_at frames.MfgInfo i payload = info_bytes payload
bytes_at (frames.Mac command) i payload = mac_bytes (fixed_pair command) payload
bytes_at (frames.AccessKey lower upper) i payload = half_bytes lower upper i
bytes_at (frames.MfgInfoC lower upper) i payload = info_cbytes lower upper i payload
bytes_at (frames.DataFlash start) i payload = block_bytes start i payload
