-- `printing::line` meets its contract: where there is room it is laid.
-- Assumes nothing.
use Prim.Native.Nat.{◌+◌, ◌*◌, ◌≤◌, ◌<◌}
use mathlib.Core.List.{◌++◌}
use native.Mathlib.Omega.{arith}
use lib.ListN.{length, length-append}
use Rattle.protocol.proofs.Cases.{cases}
use Rattle.printing.specs.Printing.{printed_of, out_printed}
use Rattle.printing.proofs.line.Goals as goal

pub returns-then-head-body : goal.returns-then-head-body
unfolding printed_of
returns-then-head-body c =
    let a = c.args in
    let n : length (a.head.now ++ a.body.now) * 2 + 1 ≤ length a.out.now = rw length-append (omega (arith, c.div_ceil.ensures)) in
    (search cases, c.lay.ensures.1)

pub returns-else-head-body : goal.returns-else-head-body
unfolding printed_of out_printed
returns-else-head-body c =
    let a = c.args in
    let n : length a.out.now < length (a.head.now ++ a.body.now) * 2 + 1 = rw length-append (omega (arith, c.div_ceil.ensures)) in
    search cases
