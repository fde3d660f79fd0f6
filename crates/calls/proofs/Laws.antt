-- A call is what its engine makes of it: each definition has a case for each engine.
-- Assumes nothing.
use mathlib.Core.Path.{refl}
use Rattle.calls.specs.Call.{start_with, start_of, next_of, work_after, part_of, wrote_of, got_of, report_of, buffer_after, phase_of, tally_of, fits_of}
use Rattle.calls.specs.Laws.{Laws}

pub laws : Laws
unfolding start_with start_of next_of work_after part_of wrote_of got_of report_of buffer_after phase_of tally_of fits_of
laws = record {
  starts_w = λ kind config p n w its e. rw e;
  starts_r = λ kind config p n w its e. rw e;
  writing = λ c. record {
    shows = λ payload work n. (refl, refl);
    sends = λ payload work n. refl;
    takes = λ o reply p n w next e. rw e;
    refuses = λ o reply p n w a same e. rw e;
    keeps = λ o reply buffer w. refl;
    stands = (refl, refl);
    fits = λ p n w. refl;
  };
  reading = λ c. record {
    shows = λ payload work n. (refl, refl);
    sends = λ payload work n. refl;
    takes = λ o reply p n w next e. rw e;
    refuses = λ o reply p n w a same e. rw e;
    fills = λ o reply buffer w. refl;
    stands = (refl, refl);
    fits = λ p n w. refl;
  };
}
