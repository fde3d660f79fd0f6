-- `report::page::Page::put_line` meets its contract: the figure comes after the name.
-- Assumes nothing.
use Rattle.report.specs.Page.{put_line}
use Rattle.report.proofs.page.Page.put_line.Goals as goal

pub returns : goal.returns
unfolding put_line
returns c = cc
