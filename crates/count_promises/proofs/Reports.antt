-- What holds of every report, put together: its figures belong together, the order of the lines does not matter, and two files can be joined.
-- Assumes nothing.
use mathlib.Core.Path.{◌≡◌}
use mathlib.Core.List.{List}
use mathlib.Core.Option.{some}
use Rattle.packs.specs.Said.{Said}
use Rattle.report.specs.Report.{Figures}
use Rattle.count_promises.specs.Packs.{cycles_in, report_of}
use Rattle.count_promises.specs.Reports.{Bounds, Reports}
use Rattle.count_promises.proofs.Lines.{lines}
use Rattle.count_promises.proofs.Largest.{largest}
use Rattle.count_promises.proofs.Means.{lowest_among, highest_among, among}
use Rattle.count_promises.proofs.Balances.{balanced}
use Rattle.count_promises.proofs.Orders.{reordered, reordered_files}
use Rattle.count_promises.proofs.Joins.{joined}

bounds : (ps : List Said) (f : Figures) → (report_of ps).figures ≡ some f → Bounds ps f
unfolding report_of
bounds ps f e = record { lowest = lowest_among (cycles_in ps) f e; highest = highest_among (cycles_in ps) f e; between = among (cycles_in ps) f e }

pub reports : Reports
reports = record { largest = largest; balanced = balanced lines; bounds = bounds; reordered = reordered; reordered_files = reordered_files; joined = joined }
