-- `courses::run::Link::drive` meets its contract: the transfers made and those to come are all of them.
use mathlib.Core.Path.{sym, ◌∙◌}
use borrow.Author.Rules.{rules}
use Rattle.courses.proofs.Courses.{drive_turn, drive_done}
use Rattle.courses.proofs.run.Link.drive.Goals as goal

pub loop-byte-preserved : goal.loop-byte-preserved
loop-byte-preserved c =
    let turn = drive_turn _ _ _ _ _ _ c.loop-byte-test.true c.fate.ensures c.step-link.ensures in
    (search rules, (turn ∙ c.loop-byte.invariant.1.0, (search rules, (search rules, search rules))))

pub returns : goal.returns
returns c = sym (drive_done _ _ _ _ c.loop-byte-test.false) ∙ c.loop-byte.invariant.1.0
