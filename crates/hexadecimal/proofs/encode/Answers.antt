-- `hexadecimal::encode` meets its contract: the loop keeps the digits of the bytes passed at the front.
-- Assumes nothing.
use Prim.Native.Nat.{ℕ, ◌+◌, ◌*◌}
use mathlib.Core.Path.{◌≡◌, refl, ap, ◌∙◌}
use mathlib.Core.List.{List, ◌++◌}
use native.Mathlib.Omega.{arith}
use lib.ListN.{length, drop, set}
use lib.Seq.{take-length}
use Rattle.hexadecimal.proofs.Cases.{cases}
use Rattle.hexadecimal.specs.Hex.{hex_of, encoded_of, out_encoded}
use Rattle.hexadecimal.proofs.Laws.{encode_turn, length_hex}
use Rattle.hexadecimal.proofs.encode.Goals as goal

pub returns-then-out-n : goal.returns-then-out-n
unfolding encoded_of out_encoded
returns-then-out-n c = search cases

pub loop-i-init : goal.loop-i-init
unfolding hex_of
loop-i-init c = refl

pub loop-i-preserved : goal.loop-i-preserved
loop-i-preserved c =
    let l = c.loop-i in
    ap (λ (d : List ℕ). set (set d (l.i * 2) c.digit.result) (l.i * 2 + 1) c.digit-in-loop-i.result) l.invariant
    ∙ encode_turn c.args.bytes.now c.args.out.now l.i _ _ (omega arith) (omega arith) c.digit.ensures c.digit-in-loop-i.ensures

pub returns : goal.returns
unfolding encoded_of out_encoded
returns c =
    let l = c.loop-i in
    let a = c.args in
    let s : List ℕ = a.bytes.now in
    let e : l.i ≡ length s = omega arith in
    let left : l.out ≡ hex_of s ++ drop (length (hex_of s)) a.out.now = l.invariant ∙ rw (e, take-length, length_hex) in
    search cases
