-- `session::Desk::turns` meets its contract: the turns made and those to come are all of them.
-- Assumes nothing.
use Prim.Native.Nat.{◌-◌}
use lib.ListN.{length}
use Rattle.session.specs.Session.{turns_of}
use Rattle.session.proofs.Laws.{Leads}
use Rattle.session.proofs.Desk.turns.Given as goal

abbrev pub invariant-loop-self : goal.invariant-loop-self
invariant-loop-self l = Leads l.chunk l.self (turns_of (length l.chunk) l.chunk l.initial.self)

abbrev pub decreases-loop-self : goal.decreases-loop-self
decreases-loop-self l = length l.chunk - l.self.session.at
