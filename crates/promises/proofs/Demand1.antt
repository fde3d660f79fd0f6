-- Demand 1 is what `answers` proves, `ceilings` of the ends of calls, and `waits` of how long they wait.
-- Assumes nothing.
use Rattle.answers.proofs.Numbers.{numbers}
use Rattle.answers.proofs.Start.{starts}
use Rattle.answers.proofs.Writing.{writes}
use Rattle.answers.proofs.Reading.{reads}
use Rattle.answers.proofs.Sorts.{sort_w, sort_r, shows_w, shows_r}
use Rattle.answers.proofs.Calls.{starts_as, limits}
use Rattle.answers.proofs.Costs.{cost_w, cost_r, delivers}
use Rattle.answers.proofs.Again.{again}
use Rattle.answers.proofs.Hands.{hands_out}
use Rattle.answers.proofs.Unique.{unique}
use Rattle.answers.proofs.Unlooked.{unlooked_w, unlooked_r}
use Rattle.answers.proofs.Within.{stays, within}
use Rattle.ceilings.proofs.Ceilings.{ceilings}
use Rattle.waits.proofs.Waits.{waits}
use Rattle.promises.proofs.Reported.{as_reported}
use Rattle.original.proofs.Fronts.{fronts}
use Rattle.promises.specs.Demand1.{Demand1}
use Rattle.promises.proofs.CourseRows.{course_rows}
use Rattle.promises.proofs.RunLaws.{run_laws}
use Rattle.promises.proofs.FedTraffic.{fed_ends}
use Rattle.promises.proofs.CourseTraffic.{course_traffic}

pub demand1 : Demand1
demand1 = record {
  numbers = numbers;
  starts = starts;
  starts_so = starts_as;
  limits = limits;
  writes = writes;
  reads = reads;
  unlooked_w = unlooked_w;
  unlooked_r = unlooked_r;
  refused_w = sort_w;
  refused_r = sort_r;
  costs_w = cost_w;
  costs_r = cost_r;
  delivers = delivers;
  fronts = fronts;
  shown_w = shows_w;
  shown_r = shows_r;
  shown_again = again;
  stays = stays;
  hands_out = hands_out;
  within = within;
  ceilings = ceilings;
  waits = waits;
  hosts = as_reported;
  ends = fed_ends;
  courses = course_rows;
  runs = run_laws;
  traffic = course_traffic;
  unique = unique;
}
