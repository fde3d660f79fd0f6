-- `model_gauge::gauge::block_at` meets its contract: the block is laid over 32 bytes FF.
-- Assumes nothing.
use Prim.Native.Nat.{◌≤◌}
use mathlib.Core.Path.{◌∙◌}
use native.Mathlib.Omega.{arith}
use lib.ListN.{length, length-take}
use Rattle.model_gauge.specs.Gauge.{block_at}
use Rattle.model_gauge.proofs.Laws.{block_whole}
use Rattle.model_gauge.proofs.gauge.block_at.Goals as goal

pub returns : goal.returns
unfolding block_at
returns c =
    let b : length c.block.result.now ≤ 32 = rw (c.block.ensures, length-take) (omega arith) in
    c.copy_block.ensures ∙ block_whole 32 _ _ b b ∙ rw c.block.ensures
