-- `hexadecimal::encode` meets its contract: the loop keeps the digits of the bytes passed at the front.
-- Assumes nothing.
use Prim.Native.Nat.{◌*◌}
use mathlib.Core.Path.{◌≡◌}
use mathlib.Core.List.{◌++◌}
use lib.ListN.{take, drop}
use Rattle.hexadecimal.specs.Hex.{hex_of}
use Rattle.hexadecimal.proofs.encode.Given as goal

abbrev pub invariant-loop-i : goal.invariant-loop-i
invariant-loop-i l = l.out ≡ hex_of (take l.i l.bytes) ++ drop (l.i * 2) l.initial.out
