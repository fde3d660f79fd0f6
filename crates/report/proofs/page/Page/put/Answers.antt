-- `report::page::Page::put` meets its contract: a text without room changes nothing, and one with room is stored after what is laid.
-- Assumes nothing.
use native.Mathlib.Omega.{arith}
use Rattle.report.specs.Page.{page}
use Rattle.report.proofs.Laws.{put_none, put_stored}
use Rattle.report.proofs.page.Page.put.Goals as goal

pub returns-then-saturating_add-gt8192 : goal.returns-then-saturating_add-gt8192
returns-then-saturating_add-gt8192 c = put_none c.args.text.now c.args.self.now (omega arith)

pub returns : goal.returns
unfolding page
returns c = put_stored c.args.text.now c.args.self.now c.store_block.new.buf (omega arith) c.store_block.ensures
