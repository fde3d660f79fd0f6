-- `report::page::Page::put_refused` meets its contract: the line's number is one more than the packs that are counted.
-- Assumes nothing.
use Rattle.hexadecimal.specs.Text.{ascii}
use Rattle.report.specs.Page.{put_refused}
use Rattle.report.proofs.page.Page.put_refused.Goals as goal

pub returns : goal.returns
unfolding put_refused ascii
returns c = cc
