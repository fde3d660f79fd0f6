-- `report::page::Page::lay` meets its contract: every report and every refusal has room, so that all of its text is laid.
-- Assumes nothing.
use native.Mathlib.Omega.{arith}
use Rattle.report.specs.Page.{page}
use Rattle.report.proofs.Texts.{laid_report, laid_refused}
use Rattle.report.proofs.page.Page.lay.Goals as goal

pub returns-then-sheet-eq-NO_DIGITS : goal.returns-then-sheet-eq-NO_DIGITS
unfolding page
returns-then-sheet-eq-NO_DIGITS c =
    laid_report c.args.sheet.now c.args.self.now c.put_report.new.self c.if-sheet-eq-NO_DIGITS.true (omega arith) c.put_report.ensures

pub returns : goal.returns
unfolding page
returns c = laid_refused c.args.sheet.now c.args.self.now c.put_refused.new.self c.if-sheet-eq-NO_DIGITS.false (omega arith) c.put_refused.ensures
