-- `report::page::Page::new` meets its contract: the fields are those of an empty page.
-- Assumes nothing.
use mathlib.Core.Path.{refl}
use Rattle.report.specs.Page.{page}
use Rattle.report.proofs.page.Page.new.Goals as goal

pub returns : goal.returns
unfolding page
returns c = refl
