-- What a call makes on the bus.
-- Assumes nothing.
use Rattle.std.specs.Prelude.{ℕ, List}

-- a transfer: a write of a frame, or of one command byte followed by a read of so many bytes
pub data Made : Type 0 where
  write : List ℕ → Made
  read : ℕ → ℕ → Made
