-- What the count has before it: where the input stands, and how often each answer stopped a read. (02, W-212)
-- Assumes nothing.
use Rattle.std.specs.Prelude.{ℕ, List}
use Rattle.packs.specs.declared.Reader.{Reader}
use Rattle.packs.specs.declared.Sheet.{Sheet}

abbrev pub sheet : Reader → List ℕ → Sheet
sheet reader numbers = record { reader = reader; numbers = numbers }
