-- `dialogue::go_on` meets its contract: the payload and the buffer are taken from where they stand, and the buffer comes back.
-- Assumes nothing.
use mathlib.Core.Path.{refl}
use Rattle.dialogue.proofs.Laws.{went_on}
use Rattle.dialogue.specs.Dialogue.{payload_in}
use Rattle.dialogue.proofs.go_on.Goals as goal

pub returns : goal.returns
unfolding payload_in
returns c =
    let h = c.hear-reported.ensures in
    let s = c.say.ensures in
    let a = c.args in
    let g = went_on a.call a.place a.line.now a.request.now a.buffer.now _ _ _ _ _ c.block-payload.ensures c.min-end.ensures h.0 h.1 c.front.ensures in
    rw (← g.0, ← g.1) (s.0, refl, s.1)
