-- `report::page::Page::put_range` meets its contract: one line comes after the other.
-- Assumes nothing.
use Rattle.hexadecimal.specs.Text.{ascii}
use Rattle.report.specs.Page.{put_range}
use Rattle.report.proofs.page.Page.put_range.Goals as goal

pub returns : goal.returns
unfolding put_range ascii
returns c = cc
