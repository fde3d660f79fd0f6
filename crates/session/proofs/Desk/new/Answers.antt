-- `session::Desk::new` meets its contract: the session is a fresh one, and each array holds zeros.
-- Assumes nothing.
use mathlib.Core.Path.{◌≡◌, sym, subst}
use Rattle.session.specs.declared.Desk.{Desk}
use Rattle.session.specs.Session.{start_of}
use Rattle.session.specs.Loop.{Fresh, blank}
use Rattle.session.proofs.Loop.{blank_fresh}
use Rattle.session.proofs.Desk.new.Goals as goal

pub returns : goal.returns
unfolding blank start_of
returns c = let e : ◌≡◌ {A = Desk} _ blank = rw c.start.ensures in (e, subst Fresh (sym e) blank_fresh)
