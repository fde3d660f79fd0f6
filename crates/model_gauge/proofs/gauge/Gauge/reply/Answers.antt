-- `model_gauge::gauge::Gauge::reply` meets its contract: the parts are laid one after the other.
-- Assumes nothing.
use mathlib.Core.Path.{◌≡◌, refl, ap, ◌∙◌}
use Prim.Native.Nat.{◌%◌, ◌/◌}
use native.Mathlib.Omega.{arith}
use lib.ListN.{length, get_or}
use Rattle.model_gauge.specs.Gauge.{reply_front, reply_of}
use Rattle.model_gauge.proofs.Laws.{block_long, reply_front_lem, reply_whole}
use Rattle.model_gauge.proofs.gauge.Gauge.reply.Goals as goal

pub returns : goal.returns
unfolding reply_of reply_front
returns c =
    let first = c.store_block.ensures in
    let second = c.store_block-2.ensures in
    let block = c.block_at-data in
    let p = c.args.self.pointer in
    let low : get_or c.to_le_bytes.result 0 0 ≡ p % 256 = rw c.to_le_bytes.ensures in
    let high : get_or c.to_le_bytes.result 1 0 ≡ p / 256 = rw c.to_le_bytes.ensures (omega arith) in
    let long : length block.result ≡ 32 = ap length block.ensures ∙ block_long _ _ in
    reply_whole _ _ _ _ _ refl long refl first second _
    ∙ rw (c.check_byte.ensures, c.front.ensures, reply_front_lem _ _ _ _ _ refl long refl first second, block.ensures, c.offset.ensures, low, high)
