-- `dialogue::answer` meets its contract: a request line goes to `first`, an outcome line is decoded and its bytes handed on.
-- Assumes nothing.
use mathlib.Core.Path.{refl}
use Rattle.dialogue.specs.Dialogue.{answer_of, request_after, outcome_after, buffer_after}
use Rattle.dialogue.proofs.Laws.{bytes_in_lem}
use Rattle.dialogue.proofs.answer.Goals as goal

pub returns-in-Fresh : goal.returns-in-Fresh
unfolding answer_of request_after outcome_after buffer_after
returns-in-Fresh c =
    let e = c.first.ensures in
    rw c.in-Fresh.is (e.0, e.1, refl, e.2, e.3)

pub returns-in-Call : goal.returns-in-Call
unfolding answer_of request_after outcome_after buffer_after
returns-in-Call c =
    let d = c.decode-n.ensures in
    let f = bytes_in_lem _ _ _ _ _ d.0 d.1 c.front.ensures in
    let g = c.go_on.ensures in
    rw (c.in-Call.is, ← f) (g.0, refl, d.1, g.1, g.2)
