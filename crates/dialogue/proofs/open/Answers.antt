-- `dialogue::open` meets its contract: it is the call that the line names, with a buffer of A5.
-- Assumes nothing.
use Rattle.dialogue.proofs.Laws.{opened}
use Rattle.dialogue.proofs.open.Goals as goal

pub returns : goal.returns
returns c =
    let s = c.say.ensures in
    let f = c.fill.ensures in
    let a = c.args in
    let g = opened a.asked a.line.now a.buffer.now _ _ _ _ _ f c.rest-payload.ensures c.front-own.ensures c.start-call.ensures c.lent.ensures in
    rw (← g) (s.0, f, s.1)
