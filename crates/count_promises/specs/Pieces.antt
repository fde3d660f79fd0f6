-- The count, piece by piece, comes to the outcome of the whole input. (02, W-212)
-- Assumes nothing.
use Rattle.std.specs.Prelude.{ℕ, ◌≡◌, true, List, [], ◌∷◌, ◌++◌}
use Rattle.packs.specs.declared.Sheet.{Sheet}
use Rattle.packs.specs.Count.{start_sheet, is_refused, feed_of}
use Rattle.report.specs.Sheet.{outcome_in}
use Rattle.count_promises.specs.Packs.{said_in, outcome_of}

-- piece after piece
unfoldable pub taken_all : List (List ℕ) → Sheet → Sheet
taken_all [] d = d
taken_all (piece ∷ pieces) d = taken_all pieces (feed_of piece d)

-- the input that was cut into these pieces
unfoldable pub in_one : List (List ℕ) → List ℕ
in_one [] = []
in_one (piece ∷ pieces) = piece ++ in_one pieces

pub record Pieces : Type 0 where
  -- where the input ends, however it was cut
  pub ends : (pieces : List (List ℕ)) → outcome_in (taken_all pieces start_sheet) ≡ outcome_of (said_in (in_one pieces))
  -- where a line is refused, whatever follows
  pub stops : (pieces : List (List ℕ)) (more : List ℕ) → is_refused (taken_all pieces start_sheet).reader ≡ true
      → outcome_in (taken_all pieces start_sheet) ≡ outcome_of (said_in (in_one pieces ++ more))
