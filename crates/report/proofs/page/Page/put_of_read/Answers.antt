-- `report::page::Page::put_of_read` meets its contract: none read is a case of `put_of_read`, and otherwise the mean comes after the range.
-- Assumes nothing.
use Rattle.protocol.proofs.Cases.{cases, not_eq}
use Rattle.report.specs.Page.{put_of_read}
use Rattle.report.proofs.page.Page.put_of_read.Goals as goal

pub returns-then-count-eq0 : goal.returns-then-count-eq0
unfolding put_of_read
returns-then-count-eq0 c = search cases

pub returns : goal.returns
unfolding put_of_read
returns c = not_eq _ _ _ _ _ c.if-count-eq0.false (cc)
