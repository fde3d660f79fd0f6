-- A call that is fed is one that is reported to: each outcome is reported as the host lends it, until the call shows its answer or refuses the report.
-- Assumes nothing.
use Rattle.engine.specs.Bus.{Reported}
use Rattle.std.specs.Prelude.{Err, Ok}
use Prim.Native.Nat.{ℕ, suc, ◌+◌}
use mathlib.Core.Path.{◌≡◌, refl, ap, ◌∙◌}
use mathlib.Core.List.{List, [], ◌∷◌, map}
use native.Mathlib.Omega.{arith}
use lib.ListN.{length, take}
use Rattle.engine.specs.Made.{Made, write, read}
use Rattle.engine.specs.declared.bus.Outcome.{Outcome}
use Rattle.engine.specs.declared.bus.Transfer.{Transfer}
use Rattle.engine.specs.declared.bus.Transfer.TheVariants as transfer
use Rattle.calls.specs.Call.{next_of, work_after, part_of, report_of, buffer_after}
use Rattle.calls.specs.declared.call.Call.{Call}
use Rattle.ceilings.specs.Reports.{Report, feed, accepted}
use Rattle.waits.specs.Waits.{outcomes_of}
use Rattle.original.specs.Bus.{BusOutcome, told}
use Rattle.original.specs.Fed.{Lending, reply, shows◌sending◌transfer◌answer◌, came◌taken◌refused◌, fed_call}
use Rattle.promises.specs.Traffic.{AsReported}

-- from step i on
record From (payload : List ℕ) (lent : ℕ → Lending) (os : List BusOutcome) (call : Call) (buffer : List ℕ) (i : ℕ) : Type 0 where
  reports : List Report
  same : fed_call call payload buffer lent i os ≡ feed call reports
  first : outcomes_of call reports ≡ map told (take (accepted call reports) os)

module _ (payload : List ℕ) (lent : ℕ → Lending) where
  -- nothing is reported
  stops : (os : List BusOutcome) (call : Call) (buffer : List ℕ) (i : ℕ) → fed_call call payload buffer lent i os ≡ call → From payload lent os call buffer i
  unfolding feed accepted outcomes_of
  stops os call buffer i e = record { reports = []; same = e; first = refl }

  turn : (o : BusOutcome) (os : List BusOutcome) → ((call : Call) (buffer : List ℕ) (i : ℕ) → From payload lent os call buffer i)
      → (call : Call) (buffer : List ℕ) (i : ℕ) → From payload lent (o ∷ os) call buffer i
  unfolding fed_call feed accepted outcomes_of shows◌sending◌transfer◌answer◌ came◌taken◌refused◌
  turn o os rest call buffer i = by (next_of call payload (length buffer) (length work)) refl
    where
      work : List ℕ
      work = (lent i).work

      shown : List ℕ
      shown = work_after call payload (length buffer) work

      bytes : Made → List ℕ
      bytes t = reply t (lent i).beside o

      on : (t : Made) → fed_call call payload buffer lent i (o ∷ os)
          ≡ (came report_of call (told o) (bytes t) (length payload) (length buffer) (length shown)
          taken (λ next. fed_call next payload (buffer_after call (told o) (bytes t) buffer (length shown)) lent (suc i) os)
          refused (λ a. call))
          → (u : Reported Call) → report_of call (told o) (bytes t) (length payload) (length buffer) (length shown) ≡ u → From payload lent (o ∷ os) call buffer i
      on t made (Err (a, same)) e = stops (o ∷ os) call buffer i (made ∙ rw e)
      on t made (Ok next) e =
          let on = rest next (buffer_after call (told o) (bytes t) buffer (length shown)) (suc i) in
          record {
            reports = record { outcome = told o; reply = bytes t; payload = length payload; buffer = length buffer; work = length shown } ∷ on.reports;
            same = made ∙ rw e on.same;
            first = let one : 1 + accepted next on.reports ≡ suc (accepted next on.reports) = omega arith in rw (e, one) (ap (λ (l : List Outcome). told o ∷ l) on.first);
          }

      by : (t : Transfer) → next_of call payload (length buffer) (length work) ≡ t → From payload lent (o ∷ os) call buffer i
      by (transfer.Write n) e = on (write (part_of call payload shown n)) (rw e) _ refl
      by (transfer.Read command n) e = on (read command n) (rw e) _ refl
      by (transfer.Refused a) e = stops (o ∷ os) call buffer i (rw e)
      by (transfer.Ended a) e = stops (o ∷ os) call buffer i (rw e)

  from : (os : List BusOutcome) (call : Call) (buffer : List ℕ) (i : ℕ) → From payload lent os call buffer i
  unfolding fed_call
  from [] = λ call buffer i. stops [] call buffer i refl
  from (o ∷ os) = turn o os (from os)

-- A HOST'S CALL IS ONE THAT IS REPORTED TO
pub as_reported : (call : Call) (payload buffer : List ℕ) (lent : ℕ → Lending) (os : List BusOutcome) → AsReported call payload buffer lent os
as_reported call payload buffer lent os =
    let f = from payload lent os call buffer 0 in
    record { reports = f.reports; same = f.same; first = f.first }
