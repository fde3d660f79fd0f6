-- `report::page::Page::put_by_number` meets its contract: with the lines that are left, the page of each turn comes to the same.
-- Assumes nothing.
use Prim.Native.Nat.{◌-◌}
use mathlib.Core.Path.{◌≡◌}
use Rattle.report.specs.Page.{put_by_number}
use Rattle.report.proofs.page.Page.put_by_number.Given as goal

abbrev pub invariant-loop-number : goal.invariant-loop-number
invariant-loop-number l = put_by_number l.numbers (256 - l.number) l.number l.self ≡ put_by_number l.numbers 255 1 l.initial.self
