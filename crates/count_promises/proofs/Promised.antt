-- The count over all packs is what is promised of it.
-- Assumes nothing.
use Rattle.report.proofs.Decimals.{decimals}
use Rattle.count_promises.specs.Count.{CountOverPacks}
use Rattle.count_promises.proofs.Lines.{lines, whole}
use Rattle.count_promises.proofs.Files.{files}
use Rattle.count_promises.proofs.Refusals.{refusals}
use Rattle.count_promises.proofs.Reports.{reports}
use Rattle.count_promises.proofs.Unread.{unread_is_not_zero}
use Rattle.count_promises.proofs.Pieces.{pieces}
use Rattle.count_promises.proofs.Tells.{tells}

pub count_over_packs : CountOverPacks
count_over_packs = record {
  lines = lines;
  whole = whole;
  files = files;
  refusals = refusals;
  reports = reports;
  unread = unread_is_not_zero;
  pieces = pieces;
  decimals = decimals;
  tells = tells;
}
