-- `dialogue::fill` meets its contract: the bytes filled stand in front of what the buffer had.
-- Assumes nothing.
use Prim.Native.Nat.{ℕ, min}
use mathlib.Core.Path.{◌≡◌, ap, ◌∙◌}
use mathlib.Core.List.{List}
use native.Mathlib.Omega.{arith}
use lib.ListN.{length, take, replicate, length-take, length-replicate}
use Rattle.protocol.specs.Bytes.{over}
use Rattle.dialogue.specs.Dialogue.{filled}
use Rattle.dialogue.proofs.fill.Goals as goal

pub returns : goal.returns
unfolding filled over
returns c =
    let b : List ℕ = c.args.buffer.now in
    let n : ℕ = min c.args.n (length b) in
    let m : c.min-end.result ≡ n = c.min-end.ensures in
    let k : length (take c.min-end.result b) ≡ n = rw length-take (omega arith) in
    let f : c.fill.new.self ≡ replicate n 0xA5 = c.fill.ensures.after (λ y q. q) ∙ ap (λ (i : ℕ). replicate i 0xA5) k in
    rw (f, m, length-replicate)
