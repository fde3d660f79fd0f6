-- `dialogue::say` meets its contract: each arm is a case of `say_of`.
-- Assumes nothing.
use Rattle.dialogue.specs.Dialogue.{bytes_said, said_of, turned_of, say_of}
use Rattle.dialogue.proofs.say.Goals as goal

pub returns-in-Ok : goal.returns-in-Ok
unfolding say_of
returns-in-Ok c = rw (c.in-Ok.is, c.in-Ok.call-is) c.show.ensures

pub returns-in-Err : goal.returns-in-Err
unfolding turned_of say_of said_of bytes_said
returns-in-Err c =
    let e = c.end.ensures in
    rw (c.in-Err.is, c.in-Err.answer-is, c.in-Err.call-is, ← c.tally.ensures) (rw e.0, e.1)
