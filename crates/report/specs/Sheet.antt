-- What a sheet comes to, if the input ends there. (02, W-212)
-- Assumes nothing.
use Rattle.std.specs.Prelude.{ℕ, suc, ◌/◌, ◌%◌, List, get_or, eqb}
use Rattle.std.proofs.Math.Option.{Option, none, some}
use Rattle.protocol.specs.Pick.{when◌then◌else◌}
use Rattle.packs.specs.Count.{seen_of}
use Rattle.packs.specs.declared.Sheet.{Sheet}
use Rattle.packs.specs.declared.Count.{Count}
use Rattle.report.specs.Report.{Figures, Report, Outcome, report, refused}

-- with none read there is no lowest, highest, mean or remainder
unfoldable pub figures_in : Count → Option Figures
figures_in count =
    when eqb count.read 0 then none else
    some record { lowest = count.lowest; highest = count.highest; mean = count.sum / count.read; remainder = count.sum % count.read }

unfoldable pub report_in : Count → List ℕ → Report
report_in count numbers = record {
  seen = seen_of count;
  read = count.read;
  unread = count.unread;
  by = λ k. get_or numbers k 0;
  sum = count.sum;
  figures = figures_in count;
}

-- a line that is not whole, or refused, is the first that is refused
unfoldable pub outcome_in : Sheet → Outcome
outcome_in d =
    when eqb d.reader.line 1 then report (report_in d.reader.count d.numbers) else
    refused (suc (seen_of d.reader.count))
