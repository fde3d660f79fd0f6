-- `dialogue::last` meets its contract: each arm is a case of `last_of`.
-- Assumes nothing.
use borrow.Author.Tests.{eq-eqb, ne_eqb}
use Rattle.protocol.specs.Pick.{when◌then◌else◌}
use Rattle.dialogue.specs.Dialogue.{last_of}
use Rattle.dialogue.proofs.last.Goals as goal

pub returns-then-left-eq0 : goal.returns-then-left-eq0
unfolding last_of when◌then◌else◌
returns-then-left-eq0 c = rw (eq-eqb _ 0 c.if-left-eq0.true) c.cut.ensures

pub returns-else-left-eq0 : goal.returns-else-left-eq0
unfolding last_of when◌then◌else◌
returns-else-left-eq0 c = rw (ne_eqb _ 0 c.if-left-eq0.false) c.end.ensures
