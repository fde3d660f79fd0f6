-- `session::Session::start` meets its contract: the fields are those of `start_of`.
-- Assumes nothing.
use Rattle.session.specs.Session.{start_of}
use Rattle.session.proofs.Session.start.Goals as goal

pub returns : goal.returns
unfolding start_of
returns c = cc
