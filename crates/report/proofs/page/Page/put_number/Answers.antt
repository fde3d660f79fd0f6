-- `report::page::Page::put_number` meets its contract: the fewest decimal digits of a number of 32 bits are its text.
-- Assumes nothing.
use mathlib.Core.Path.{◌≡◌, ◌∙◌}
use native.Mathlib.Omega.{arith}
use lib.ListN.{take}
use Rattle.report.specs.Decimal.{decimal_of}
use Rattle.report.specs.Page.{put_number}
use Rattle.report.proofs.Digits.{decimal_fewest}
use Rattle.report.proofs.page.Page.put_number.Goals as goal

pub returns : goal.returns
unfolding put_number
returns c =
    let n = c.args.n in
    let d = c.decimal-places in
    let e : take d.result d.new.out ≡ decimal_of n = d.ensures.digits ∙ decimal_fewest n d.result (omega arith) d.ensures.len in
    rw e at c.put.ensures
