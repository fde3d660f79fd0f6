-- `session::Session::at_byte` meets its contract: the fields are those of `at_byte`.
-- Assumes nothing.
use Rattle.session.specs.Session.{at_byte}
use Rattle.session.proofs.Session.at_byte.Goals as goal

pub returns : goal.returns
unfolding at_byte
returns c = cc
