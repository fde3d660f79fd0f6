-- `packs::Sheet::turn` meets its contract: each arm is a case of `turn_of`.
-- Assumes nothing.
use mathlib.Core.Path.{refl}
use native.Mathlib.Omega.{arith}
use Rattle.packs.proofs.Laws.{used_some, turn_line, turn_byte}
use Rattle.packs.proofs.Sheet.turn.Goals as goal

pub bounds-chunk-at : goal.bounds-chunk-at
bounds-chunk-at c = omega (arith, used_some c.args.pack, c.requires)

pub returns-in_default : goal.returns-in_default
returns-in_default c = turn_byte _ _ _ _ _ _ c.in_default.is refl c.step.ensures

pub returns : goal.returns
returns c = turn_line _ _ _ _ _ _ c.args.self.now c.in-Some.is c.bytes.ensures c.count.ensures
