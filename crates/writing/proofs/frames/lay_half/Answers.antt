-- `writing::frames::lay_half` meets its contract.
-- Assumes nothing.
use borrow.Author.Tests.{eq-eqb, ne_eqb}
use Rattle.protocol.specs.Pick.{when◌then◌else◌}
use Rattle.writing.specs.Frames.{half_bytes}
use Rattle.writing.proofs.frames.lay_half.Goals as goal
use Rattle.writing.proofs.frames.lay_half.Goals.{then-i-eq0, else-i-eq0}

pub returns : goal.returns
unfolding half_bytes when◌then◌else◌
returns c =
    elim c.if-i-eq0.branch [
      | then-i-eq0 w ↦ rw (eq-eqb _ _ w.if-i-eq0.true, ← w.half-is) c.lay_number.ensures
      | else-i-eq0 w ↦ rw (ne_eqb _ _ w.if-i-eq0.false, ← w.half-is) c.lay_number.ensures
    ]
