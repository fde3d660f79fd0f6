-- The retired kinds, by the first two characters of a request line. (02, W-210)
-- Assumes nothing.
use Rattle.std.specs.Prelude.{ℕ, Bool, true, false, List, get_or, eqb}
use Rattle.protocol.specs.Pick.{when◌then◌else◌}

-- a line, in ASCII, that begins with 0C or 0D; nothing else on it counts
unfoldable pub retired_kind : List ℕ → Bool
retired_kind line =
    when eqb (get_or line 0 0) 0x30 then (when eqb (get_or line 1 0) 0x43 then true else when eqb (get_or line 1 0) 0x44 then true else false) else false
