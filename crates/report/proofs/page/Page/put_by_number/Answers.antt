-- `report::page::Page::put_by_number` meets its contract: with the lines that are left, the page of each turn comes to the same.
use Prim.Native.Nat.{◌-◌}
use mathlib.Core.Path.{◌≡◌, ◌∙◌}
use native.Mathlib.Omega.{arith}
use Rattle.report.specs.Page.{put_by_number}
use Rattle.report.proofs.Laws.{unread_turn}
use Rattle.report.proofs.page.Page.put_by_number.Goals as goal

pub loop-number-preserved : goal.loop-number-preserved
loop-number-preserved c =
    let l = c.loop-number in
    let a = c.args in
    unread_turn a.numbers.now l.number l.self _ (omega arith) c.put_unread.ensures ∙ l.invariant

pub returns : goal.returns
unfolding put_by_number
returns c =
    let l = c.loop-number in
    let e : 256 - l.number ≡ 0 = omega arith in
    rw e at l.invariant
