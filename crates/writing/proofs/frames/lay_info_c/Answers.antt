-- `writing::frames::lay_info_c` meets its contract: the halves first, then the frame of info C.
-- Assumes nothing.
use Rattle.writing.specs.Frames.{info_cbytes}
use borrow.Author.Tests.{lt-ltb, le-ltb}
use Rattle.protocol.specs.Pick.{when◌then◌else◌}
use Rattle.writing.proofs.frames.lay_info_c.Goals as goal

pub returns-then-i-lt2 : goal.returns-then-i-lt2
unfolding info_cbytes when◌then◌else◌
returns-then-i-lt2 c = rw (lt-ltb _ _ c.if-i-lt2.true) c.lay_half.ensures

pub returns-else-i-lt2 : goal.returns-else-i-lt2
unfolding info_cbytes when◌then◌else◌
returns-else-i-lt2 c = rw (le-ltb _ _ c.if-i-lt2.false) c.lay_fixed.ensures
