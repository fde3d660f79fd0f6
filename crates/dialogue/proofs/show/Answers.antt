-- `dialogue::show` meets its contract: it is the line of what the call shows.
-- Assumes nothing.
use Rattle.dialogue.specs.Dialogue.{turned_of, zeros, line_shown, show_of}
use Rattle.dialogue.proofs.show.Goals as goal

pub returns : goal.returns
unfolding turned_of show_of line_shown zeros
returns c =
    let e = c.next-shown.ensures in
    let t = c.tell.ensures in
    rw (← e.1, ← e.2, ← e.0, ← c.sent.ensures, ← c.to_send-frame.ensures, ← c.tally.ensures) (rw t.0, t.1)
