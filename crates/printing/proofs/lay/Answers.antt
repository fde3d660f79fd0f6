-- `printing::lay` meets its contract: the digits of the one part, those of the other after them, and the line feed are the line.
-- Assumes nothing.
use Prim.Native.Nat.{ℕ, ◌+◌, ◌*◌, ◌≤◌}
use mathlib.Core.Path.{refl}
use mathlib.Core.List.{List, ◌++◌}
use native.Mathlib.Omega.{arith}
use lib.ListN.{length, length-append}
use Rattle.protocol.proofs.Cases.{cases}
use Rattle.printing.proofs.Laws.{laid_line, length_feed}
use Rattle.printing.specs.Printing.{out_printed}
use Rattle.printing.proofs.lay.Goals as goal

pub returns : goal.returns
unfolding out_printed
returns c =
    let a = c.args in
    let h : List ℕ = a.head.now in
    let b : List ℕ = a.body.now in
    let n : length (h ++ b) * 2 + 1 ≤ length a.out.now = rw length-append (omega arith) in
    let laid = laid_line h b a.out.now c.encode.new.out c.encode-2.new.out (length h * 2) refl (omega arith) c.encode.ensures.1 c.encode-2.ensures.1 in
    (omega (arith, length_feed (h ++ b), length-append h b), search cases)
