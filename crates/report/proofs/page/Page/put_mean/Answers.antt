-- `report::page::Page::put_mean` meets its contract: one line comes after the other.
-- Assumes nothing.
use Rattle.hexadecimal.specs.Text.{ascii}
use Rattle.report.specs.Page.{put_mean}
use Rattle.report.proofs.page.Page.put_mean.Goals as goal

pub returns : goal.returns
unfolding put_mean ascii
returns c = cc
