-- `report::page::Page::put_report` meets its contract: one part comes after the other.
-- Assumes nothing.
use Rattle.hexadecimal.specs.Text.{ascii}
use Rattle.report.specs.Page.{put_report}
use Rattle.report.proofs.page.Page.put_report.Goals as goal

pub returns : goal.returns
unfolding put_report ascii
returns c = cc
