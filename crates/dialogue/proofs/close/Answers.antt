-- `dialogue::close` meets its contract: each arm is a case of `close_of`.
-- Assumes nothing.
use Rattle.dialogue.specs.Dialogue.{close_of}
use Rattle.dialogue.proofs.close.Goals as goal

pub returns-in-Fresh : goal.returns-in-Fresh
unfolding close_of
returns-in-Fresh c = rw (c.in-Fresh.is, ← c.unfinished.ensures, ← c.new.ensures) c.end.ensures

pub returns-in-Call : goal.returns-in-Call
unfolding close_of
returns-in-Call c = rw (c.in-Call.is, ← c.front.ensures, ← c.tally.ensures) c.last.ensures
