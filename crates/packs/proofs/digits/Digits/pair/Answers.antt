-- `packs::digits::Digits::pair` meets its contract: the table has the value of each digit.
-- Assumes nothing.
use native.Mathlib.Omega.{arith}
use Rattle.packs.specs.Ahead.{pair_at}
use Rattle.packs.proofs.Laws.{no_pair, a_pair}
use Rattle.packs.proofs.digits.Digits.pair.Goals as goal

pub returns-then-high-gt15 : goal.returns-then-high-gt15
unfolding pair_at
returns-then-high-gt15 c = no_pair _ _ _ _ c.value-high.ensures c.value-low.ensures c.then-high-gt15.either

pub returns : goal.returns
unfolding pair_at
returns c = a_pair _ _ _ _ c.value-high.ensures c.value-low.ensures (omega arith) (omega arith)
