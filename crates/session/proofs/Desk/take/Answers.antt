-- `session::Desk::take` meets its contract: nothing is laid, and then come the turns.
-- Assumes nothing.
use mathlib.Core.Path.{◌∙◌}
use Rattle.session.specs.Session.{take_of}
use Rattle.session.specs.Loop.{desk_at}
use Rattle.session.proofs.Desk.take.Goals as goal

pub returns : goal.returns
unfolding take_of desk_at
returns c = (c.turns.ensures ∙ rw c.written.ensures.0, c.written.ensures.1)
