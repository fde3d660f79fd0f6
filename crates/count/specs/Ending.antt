-- How the program comes to the end of its reading, and what it prints there. (02, W-212)
-- Assumes nothing.
use Rattle.std.specs.Prelude.{ℕ, ◌+◌, ◌<◌, ◌≡◌, true, List, [], ◌∷◌, ◌++◌, length, take, Result, Ok, Err}
use Rattle.chunks.specs.declared.Brought.{Brought}
use Rattle.chunks.specs.declared.Brought.TheVariants as brought
use Rattle.packs.specs.declared.Sheet.{Sheet}
use Rattle.packs.specs.Count.{start_sheet, is_refused, feed_of}
use Rattle.report.specs.Report.{text_of}
use Rattle.report.specs.Sheet.{outcome_in}
use Rattle.count_promises.specs.Packs.{printed_of}
use Rattle.count_promises.specs.Pieces.{taken_all, in_one}
use Rattle.count.specs.declared.Ending.{Ending}
use Rattle.count.specs.declared.Ending.TheVariants as ending
use Rattle.count.specs.declared.Stop.{Stop}

-- what a read leads to: the input goes on; or its end, or a failure, ends the reading
unfoldable pub led_by : Brought → Result (Unit {0}) Ending
led_by (brought.Bytes n) = Ok tt
led_by brought.End = Err ending.Whole
led_by brought.Failed = Err ending.Failed

-- the bytes that it brought are counted
unfoldable pub sheet_by : Brought → List ℕ → Sheet → Sheet
sheet_by (brought.Bytes n) chunk d = feed_of (take n chunk) d
sheet_by brought.End chunk d = d
sheet_by brought.Failed chunk d = d

-- what is known at each ending. That `Whole` is the end of the input, and `Failed` a failed read, no contract can say
abbrev pub How : Ending → ℕ → Sheet → Type 0
How ending.Whole left d = Unit {0}
How ending.Refused left d = is_refused d.reader ≡ true
How ending.Failed left d = Unit {0}
How ending.Spent left d = left ≡ 0

-- each piece has a byte
abbrev pub Filled : List (List ℕ) → Type 0
Filled [] = Unit {0}
Filled (piece ∷ pieces) = (0 < length piece) × Filled pieces

-- it came there from nothing, piece by piece, as many as chunks are counted
pub record Stopped (r : Stop) (d : Sheet) : Type 0 where
  pub pieces : List (List ℕ)
  pub filled : Filled pieces
  pub counted : length pieces + r.left ≡ 18446744073709551615
  pub taken : d ≡ taken_all pieces start_sheet
  pub how : How r.ending r.left d

-- what is printed: the outcome of what was read, and nothing where a read failed
unfoldable pub text_by : Ending → Sheet → List ℕ
text_by ending.Whole d = text_of (outcome_in d)
text_by ending.Refused d = text_of (outcome_in d)
text_by ending.Failed d = []
text_by ending.Spent d = []

unfoldable pub text_at : Stop → Sheet → List ℕ
text_at r d = text_by r.ending d

pub record Ends : Type 0 where
  -- at the end of the input, its report
  pub whole : (r : Stop) (d : Sheet) (c : Stopped r d) → r.ending ≡ ending.Whole → text_at r d ≡ printed_of (in_one c.pieces)
  -- at a line that is refused, what is printed for the whole input, whatever is left of it
  pub refused : (r : Stop) (d : Sheet) (c : Stopped r d) → r.ending ≡ ending.Refused → (more : List ℕ)
      → text_at r d ≡ printed_of (in_one c.pieces ++ more)
  -- where a read failed, nothing; nor after as many chunks as a u64 counts
  pub failed : (r : Stop) (d : Sheet) → r.ending ≡ ending.Failed → text_at r d ≡ []
  pub spent : (r : Stop) (d : Sheet) → r.ending ≡ ending.Spent → text_at r d ≡ []
