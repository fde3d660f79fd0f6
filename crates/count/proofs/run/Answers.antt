-- `count::run` meets its contract: the chunks that were taken, one after the other, lead to where it stops.
use native.Mathlib.Omega.{arith}
use Rattle.count.proofs.Laws.{going_first, led_on, led_over}
use Rattle.count.proofs.run.Goals as goal

pub loop-taken-init : goal.loop-taken-init
loop-taken-init g c = going_first _ c.requires

pub returns-in-Err : goal.returns-in-Err
returns-in-Err g c = led_over c.loop-taken.taken _ _ _ _ _ _ _ (omega arith) c.loop-taken.invariant c.in-Err.is c.after.ensures

pub loop-taken-preserved : goal.loop-taken-preserved
loop-taken-preserved g c = led_on _ _ _ _ _ _ c.read-brought.ensures c.loop-taken.invariant c.in_default.is c.after.ensures
