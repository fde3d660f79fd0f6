-- `lines::judge` meets its contract: each arm is a case of `took_by`.
-- Assumes nothing.
use Prim.Native.Nat.{◌+◌, ◌-◌, ◌≤◌, ◌<◌}
use native.Mathlib.Omega.{arith}
use Rattle.protocol.proofs.Cases.{cases}
use Rattle.lines.specs.Lines.{took_by}
use Rattle.lines.proofs.judge.Goals as goal

pub returns-then-room-have : goal.returns-then-room-have
unfolding took_by
returns-then-room-have c =
    let a = c.args in
    let held : a.room < a.have + a.n = omega arith in
    search cases

pub returns-then-saturating_sub-n : goal.returns-then-saturating_sub-n
unfolding took_by
returns-then-saturating_sub-n c =
    let a = c.args in
    let held : a.have + a.n ≤ a.room = omega arith in
    let left : a.size - a.from ≤ a.n = omega arith in
    search cases

pub returns-then-have-eq0 : goal.returns-then-have-eq0
unfolding took_by
returns-then-have-eq0 c =
    let a = c.args in
    let held : a.have + a.n ≤ a.room = omega arith in
    let left : a.n < a.size - a.from = omega arith in
    search cases

pub returns-else-have-eq0 : goal.returns-else-have-eq0
unfolding took_by
returns-else-have-eq0 c =
    let a = c.args in
    let held : a.have + a.n ≤ a.room = omega arith in
    let left : a.n < a.size - a.from = omega arith in
    search cases
