-- What a read of standard input brings.
-- Assumes nothing.
use Rattle.std.specs.Prelude.{ℕ, ◌≤◌, ◌<◌, List, length}
use Rattle.chunks.specs.declared.Brought.{Brought}
use Rattle.chunks.specs.declared.Brought.TheVariants as brought

-- a read brings a byte at least, into the array that is lent
abbrev pub Brings : Brought → List ℕ → Type 0
Brings (brought.Bytes n) chunk = (0 < n) × (n ≤ length chunk)
Brings brought.End chunk = Unit {0}
Brings brought.Failed chunk = Unit {0}
