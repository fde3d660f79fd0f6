-- `packs::Sheet::take` meets its contract: before each turn, what is left of the chunk leads to where the whole of it does.
use native.Mathlib.Omega.{arith}
use Rattle.packs.proofs.Laws.{used_some}
use Rattle.packs.proofs.Lies.{turn_leads, turn_on, all_fed}
use Rattle.packs.proofs.Sheet.take.Goals as goal

pub turn-i-requires : goal.turn-i-requires
turn-i-requires c =
    let l = c.loop-i in
    let a = c.args in
    (turn_leads a.chunk.now l.i l.self _ c.loop-i-test.true c.line_at-pack.ensures).0

pub loop-i-preserved : goal.loop-i-preserved
loop-i-preserved c =
    let l = c.loop-i in
    let a = c.args in
    turn_on a.chunk.now l.i _ l.self c.turn-i.new.self _ _ c.loop-i-test.true c.line_at-pack.ensures c.turn-i.ensures l.invariant.1

pub returns : goal.returns
returns c =
    let l = c.loop-i in
    let a = c.args in
    all_fed a.chunk.now l.i _ _ c.loop-i-test.false l.invariant.1

pub loop-i-smaller : goal.loop-i-smaller
loop-i-smaller c = omega (arith, c.turn-i.ensures.0, used_some c.line_at-pack.result, c.loop-i-test.true)
