-- `calls::call::Call::report` meets its contract: what came of the engine's report, as a call.
-- Assumes nothing.
use mathlib.Core.Path.{refl}
use Rattle.calls.specs.Call.{wrote_of, got_of, report_of, buffer_after}
use Rattle.calls.proofs.call.Call.report.Goals as goal

pub returns-in-Ok : goal.returns-in-Ok
unfolding report_of wrote_of buffer_after
returns-in-Ok c = rw (c.in-Write.is, ← c.report.ensures, c.in-Ok.is, c.in-Ok.next-is) (refl, refl)

pub returns-in-Err : goal.returns-in-Err
unfolding report_of wrote_of buffer_after
returns-in-Err c = rw (c.in-Write.is, ← c.report.ensures, c.in-Err.is, c.in-Err.why-is, c.in-Err.same-is) (refl, refl)

pub returns-in-Ok-report : goal.returns-in-Ok-report
unfolding report_of got_of buffer_after
returns-in-Ok-report c = rw c.in-Read.is (rw (← c.report-in-Read.ensures.0, c.in-Ok-report.is, c.in-Ok-report.next-is), c.report-in-Read.ensures.1)

pub returns-in-Err-report : goal.returns-in-Err-report
unfolding report_of got_of buffer_after
returns-in-Err-report c =
    rw c.in-Read.is (rw (← c.report-in-Read.ensures.0, c.in-Err-report.is, c.in-Err-report.why-is, c.in-Err-report.same-is), c.report-in-Read.ensures.1)
