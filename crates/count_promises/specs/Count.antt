-- What is promised of the count over all packs. (02, W-212)
-- Assumes nothing.
use Rattle.report.specs.Decimal.{Decimals}
use Rattle.count_promises.specs.Lines.{Lines, Whole, Files, Refusals}
use Rattle.count_promises.specs.Reports.{Reports}
use Rattle.count_promises.specs.Unread.{UnreadIsNotZero}
use Rattle.count_promises.specs.Pieces.{Pieces}
use Rattle.count_promises.specs.Tells.{Tells}

pub record CountOverPacks : Type 0 where
  -- which lines are packs, and that the lines make up the input
  pub lines : Lines
  pub whole : Whole
  -- an input is refused exactly where a line is no pack, or one too many: of its bytes, and of what its lines say
  pub files : Files
  pub refusals : Refusals
  -- the figures of a report belong together; order does not matter; files can be joined
  pub reports : Reports
  -- a pack that nobody has read never counts as one that nobody has used
  pub unread : UnreadIsNotZero
  -- however the input is cut into pieces
  pub pieces : Pieces
  -- what a number is in decimal, and that what is printed tells the whole outcome
  pub decimals : Decimals
  pub tells : Tells
