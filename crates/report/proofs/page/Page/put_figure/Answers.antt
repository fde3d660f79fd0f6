-- `report::page::Page::put_figure` meets its contract: each part comes after the one before it.
-- Assumes nothing.
use Rattle.report.specs.Page.{put_figure}
use Rattle.report.proofs.page.Page.put_figure.Goals as goal

pub returns : goal.returns
unfolding put_figure
returns c = cc
