-- `dialogue::refuse` meets its contract: it prints an end with no waits and no buffer.
-- Assumes nothing.
use Rattle.dialogue.specs.Dialogue.{bytes_said, said_of, turned_of, refused_of}
use Rattle.dialogue.proofs.refuse.Goals as goal

pub returns : goal.returns
unfolding refused_of turned_of said_of bytes_said
returns c =
    let e = c.end.ensures in
    rw (← c.new.ensures) (rw e.0, e.1)
