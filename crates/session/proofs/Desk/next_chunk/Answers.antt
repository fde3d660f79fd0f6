-- `session::Desk::next_chunk` meets its contract: the session alone moves.
-- Assumes nothing.
use Rattle.session.specs.Loop.{desk_at}
use Rattle.session.proofs.Desk.next_chunk.Goals as goal

pub returns : goal.returns
unfolding desk_at
returns c = cc
