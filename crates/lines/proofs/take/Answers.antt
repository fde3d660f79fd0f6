-- `lines::take` meets its contract: what comes before the line feed is judged, and kept as the verdict says.
-- Assumes nothing.
use mathlib.Core.Path.{◌∙◌}
use Rattle.lines.specs.Lines.{took_of, held_after}
use Rattle.lines.proofs.Laws.{take_before}
use Rattle.lines.proofs.take.Goals as goal

pub returns : goal.returns
unfolding took_of held_after
returns c =
    let r = c.run-n.ensures in
    let j = c.judge-took.ensures in
    let b = c.block.ensures in
    (rw (← r) j, c.keep.ensures ∙ rw (b, j, r, take_before))
