-- `report::page::Page::put_unread` meets its contract: a number that did not occur is a case of `put_unread`, and the parts of a line come one after the other.
-- Assumes nothing.
use Rattle.protocol.proofs.Cases.{cases, not_eq}
use Rattle.hexadecimal.specs.Text.{ascii}
use Rattle.report.specs.Page.{put_unread}
use Rattle.report.proofs.page.Page.put_unread.Goals as goal

pub returns-then-n-eq0 : goal.returns-then-n-eq0
unfolding put_unread
returns-then-n-eq0 c = search cases

pub returns : goal.returns
unfolding put_unread ascii
returns c = not_eq _ _ _ _ _ c.if-n-eq0.false (cc)
