-- `hexadecimal::decode` meets its contract: the loop keeps the bytes of the pairs passed at the front.
-- Assumes nothing.
use Prim.Native.Nat.{◌+◌, ◌*◌}
use mathlib.Core.Path.{◌≡◌}
use mathlib.Core.List.{◌++◌}
use lib.ListN.{length, take, drop}
use Rattle.hexadecimal.specs.Hex.{bytes_of}
use Rattle.hexadecimal.proofs.decode.Given as goal

abbrev pub invariant-loop-i : goal.invariant-loop-i
invariant-loop-i l =
    let i = l.i-iterator.count in
    let rest = l.i-iterator.iter.rest.now in
    (l.i-iterator.iter.size ≡ 2) × (i * 2 + length rest ≡ length l.digits) × (bytes_of l.digits ≡ take i l.out ++ bytes_of rest) × (drop i l.out ≡ drop i l.initial.out)
