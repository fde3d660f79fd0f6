-- `report::page::Page::put_packs` meets its contract: one line comes after the other.
-- Assumes nothing.
use Rattle.hexadecimal.specs.Text.{ascii}
use Rattle.report.specs.Page.{put_packs}
use Rattle.report.proofs.page.Page.put_packs.Goals as goal

pub returns : goal.returns
unfolding put_packs ascii
returns c = cc
