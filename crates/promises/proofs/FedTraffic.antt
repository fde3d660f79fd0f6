-- A call that is fed: each outcome is taken and counted, so that it makes at most as many transfers as it can accept outcomes, and ends.
-- Assumes nothing.
use Rattle.engine.specs.Bus.{Reported}
use Rattle.std.specs.Prelude.{Err, Ok}
use Prim.Native.Nat.{ℕ, suc, ◌+◌, ◌*◌, ◌≤◌}
use mathlib.Core.Path.{◌≡◌, refl, ap, subst, ◌∙◌}
use mathlib.Core.Bool.{Bool, true, false}
use mathlib.Core.List.{List, [], ◌∷◌, ◌++◌}
use native.Mathlib.Omega.{arith}
use lib.Dec.{eqb}
use lib.ListN.{length, length-append, replicate}
use Rattle.protocol.specs.Common.{TwoByteBudgets}
use Rattle.protocol.specs.Pick.{when◌then◌else◌}
use Rattle.protocol.specs.Answer.{number_of}
use Rattle.protocol.specs.declared.common.Config.{Config}
use Rattle.protocol.specs.declared.error.Answer.{Answer}
use Rattle.engine.specs.Made.{Made, write, read}
use Rattle.engine.specs.declared.budget.Tally.{Tally}
use Rattle.engine.specs.declared.bus.Outcome.TheVariants as outcome
use Rattle.engine.specs.declared.bus.Phase.TheVariants as phase
use Rattle.engine.specs.declared.bus.Transfer.{Transfer}
use Rattle.engine.specs.declared.bus.Transfer.TheVariants as transfer
use Rattle.calls.specs.Kind.{plan_of}
use Rattle.calls.specs.Sides.{budget_of}
use Rattle.calls.specs.Call.{start_of, next_of, work_after, part_of, report_of, buffer_after, phase_of, tally_of}
use Rattle.calls.specs.declared.call.Call.{Call}
use Rattle.calls.specs.declared.kind.Kind.{Kind}
use Rattle.ceilings.specs.Reports.{call_after, feed, accepted}
use Rattle.ceilings.specs.Ceilings.{CeilingOf}
use Rattle.ceilings.proofs.Ceilings.{ceilings}
use Rattle.waits.specs.Waits.{budgets_in}
use Rattle.waits.proofs.Failed.{Short}
use Rattle.waits.proofs.Waits.{Bounds, bounded}
use Rattle.ceilings.proofs.Good.{Good, Follows, waits_some, rests, follows, counts, good_named}
use Rattle.original.specs.Bus.{BusOutcome, Acknowledged, BusError, Timeout, brings, Log, Ok, Err, Waiting, Read, ◌leaving◌, transfers_of, answered_in, waits_in, NoMore, Over}
use Rattle.original.specs.Fed.{told, Lending, Lends, reply, answered, shows◌sending◌transfer◌answer◌, came◌taken◌refused◌, fed, fed_call}
use Rattle.original.specs.ByKind.{rust_of, Defined}
use Rattle.original.proofs.ByKind.{equal_by_kind}
use Rattle.original.proofs.ReadTurns.{length_delivered}
use Rattle.promises.specs.RunLaws.{Shows, shows_write, shows_read}
use Rattle.promises.specs.Traffic.{Ends}
use Rattle.promises.specs.CountByKind.{CountByKind}
use Rattle.promises.proofs.CourseRows.{buffer_size}
use Rattle.promises.proofs.Taken.{shows_waits, takes, Idle, not_idle}
use Rattle.promises.proofs.Live.{Live, live, lives, fits_live, shows_one}
use Rattle.promises.proofs.Reported.{as_reported}

-- an acknowledged transfer brings as many bytes as it asks for
brings_all : (t : Made) (beside : List ℕ) (o : BusOutcome) → told o ≡ outcome.Acknowledged → length (reply t beside o) ≡ brings t
unfolding told reply
brings_all t beside (Acknowledged bytes) e = length_delivered (brings t) bytes
brings_all t beside (BusError code) e = let z : ◌≡◌ {A = ℕ} 0 1 = cc in absurd (omega arith)
brings_all t beside Timeout e = let z : ◌≡◌ {A = ℕ} 0 1 = cc in absurd (omega arith)

-- what is promised of a call that is fed so many outcomes, where it can accept m more, and `after` is what it has counted at the end
record Runs (m v made outcomes before : ℕ) (after : Tally) (r : Read) : Type 0 where
  makes : length (transfers_of r) ≤ made + m
  over : m ≤ outcomes → Over r
  rests : waits_in r ≤ v
  counted : after.transfers + made ≡ before + answered_in r
  waited : after.waits ≡ waits_in r

-- a call with an answer makes no more
answers : (m v : ℕ) (call : Call) → Good m v call → (a : Answer) (done : List Made) (outcomes : List BusOutcome) (buffer : List ℕ) (n : ℕ)
    → Runs m v (length done) n (tally_of call).transfers (tally_of call) (answered a (record { transfers = done; waits = (tally_of call).waits }) outcomes leaving buffer)
unfolding answered transfers_of answered_in waits_in when◌then◌else◌
answers m v call good a done outcomes buffer n = by (eqb (number_of a) 0)
  where
    log : Log
    log = record { transfers = done; waits = (tally_of call).waits }

    by : (t : Bool) → Runs m v (length done) n (tally_of call).transfers (tally_of call) ((when t then Ok log outcomes else Err a log outcomes) leaving buffer)
    by true = record { makes = omega arith; over = λ h. tt; rests = rests m v call good; counted = refl; waited = refl }
    by false = record { makes = omega arith; over = λ h. tt; rests = rests m v call good; counted = refl; waited = refl }

-- one transfer more is out
one_out : (done : List Made) (t : Made) → length (done ++ (t ∷ [])) ≡ suc (length done)
one_out done t = rw length-append (omega arith)

module _ (payload : List ℕ) (lent : ℕ → Lending) where
  abbrev RunsFed : (m v : ℕ) → Call → List ℕ → List Made → List BusOutcome → Type 0
  RunsFed m v call buffer done os =
      Runs m v (length done) (length os) (tally_of call).transfers (tally_of (fed_call call payload buffer lent (length done) os)) (fed call payload buffer lent done os)

  -- the outcomes have run out
  cut : (m v : ℕ) (call : Call) → Good m v call → (buffer : List ℕ) (done : List Made) → RunsFed m v call buffer done []
  unfolding fed fed_call shows◌sending◌transfer◌answer◌ transfers_of answered_in waits_in
  cut m v call good buffer done = by (next_of call payload (length buffer) (length work)) refl
    where
      work : List ℕ
      work = (lent (length done)).work

      waiting : (t : Made) → Shows call payload buffer work t
          → Runs m v (length done) 0 (tally_of call).transfers (tally_of call) (Waiting (record { transfers = done ++ (t ∷ []); waits = (tally_of call).waits }) leaving buffer)
      waiting t shown =
          let some = waits_some m v call good (shows_waits call payload buffer work t shown) in
          let long = one_out done t in
          record { makes = omega (arith, long, some); over = λ h. absurd (omega (arith, some, h)); rests = rests m v call good; counted = omega (arith, long); waited = refl }

      by : (t : Transfer) → next_of call payload (length buffer) (length work) ≡ t → RunsFed m v call buffer done []
      by (transfer.Write n) e = rw e (waiting (write (part_of call payload (work_after call payload (length buffer) work) n)) (shows_write n e))
      by (transfer.Read command n) e = rw e (waiting (read command n) (shows_read command n e))
      by (transfer.Refused a) e = rw e (answers m v call good a done [] buffer 0)
      by (transfer.Ended a) e = rw e (answers m v call good a done [] buffer 0)

  -- the outcome of a transfer that is shown is taken
  going : (call : Call) (buffer work : List ℕ) (t : Made) → Shows call payload buffer work t → (o : BusOutcome) (beside : List ℕ)
      → (next : Call) × (report_of call (told o) (reply t beside o) (length payload) (length buffer) (length (work_after call payload (length buffer) work)) ≡ Ok next)
  going call buffer work t s o beside = takes call payload buffer work t s (told o) (reply t beside o) (brings_all t beside o)

  -- one of them is taken, and the rest is fed on
  turn : (o : BusOutcome) (os : List BusOutcome) → ((m v : ℕ) (call : Call) → Good m v call → (buffer : List ℕ) (done : List Made) → RunsFed m v call buffer done os)
      → (m v : ℕ) (call : Call) → Good m v call → (buffer : List ℕ) (done : List Made) → RunsFed m v call buffer done (o ∷ os)
  unfolding fed fed_call shows◌sending◌transfer◌answer◌ came◌taken◌refused◌
  turn o os rest m v call good buffer done = by (next_of call payload (length buffer) (length work)) refl
    where
      work : List ℕ
      work = (lent (length done)).work

      shown : List ℕ
      shown = work_after call payload (length buffer) work

      bytes : Made → List ℕ
      bytes t = reply t (lent (length done)).beside o

      after : Made → List ℕ
      after t = buffer_after call (told o) (bytes t) buffer (length shown)

      -- with a transfer more done
      taken_on : (t : Made) (next : Call) → report_of call (told o) (bytes t) (length payload) (length buffer) (length shown) ≡ Ok next
          → Runs m v (length done) (suc (length os)) (tally_of call).transfers (tally_of (fed_call next payload (after t) lent (suc (length done)) os)) (fed next payload (after t) lent (done ++ (t ∷ [])) os)
      taken_on t next e =
          let f : Follows m v (Ok next) = subst (Follows m v) e (follows m v call good (told o) (bytes t) (length payload) (length buffer) (length shown)) in
          let one = counts m v call next good (told o) (bytes t) (length payload) (length buffer) (length shown) e in
          let long = one_out done t in
          let ran = subst (λ (i : ℕ). Runs f.0 v i (length os) (tally_of next).transfers (tally_of (fed_call next payload (after t) lent i os)) (fed next payload (after t) lent (done ++ (t ∷ [])) os)) long (rest f.0 v next f.2 (after t) (done ++ (t ∷ []))) in
          record { makes = omega (arith, ran.makes, f.1); over = λ h. ran.over (omega (arith, h, f.1)); rests = ran.rests; counted = omega (arith, ran.counted, one); waited = ran.waited }

      by : (t : Transfer) → next_of call payload (length buffer) (length work) ≡ t → RunsFed m v call buffer done (o ∷ os)
      by (transfer.Write n) e =
          let t : Made = write (part_of call payload shown n) in
          let g = going call buffer work t (shows_write n e) o (lent (length done)).beside in
          rw (e, g.1) (taken_on t g.0 g.1)
      by (transfer.Read command n) e =
          let g = going call buffer work (read command n) (shows_read command n e) o (lent (length done)).beside in
          rw (e, g.1) (taken_on (read command n) g.0 g.1)
      by (transfer.Refused a) e = rw e (answers m v call good a done (o ∷ os) buffer (suc (length os)))
      by (transfer.Ended a) e = rw e (answers m v call good a done (o ∷ os) buffer (suc (length os)))

  runs_fed : (os : List BusOutcome) (m v : ℕ) (call : Call) → Good m v call → (buffer : List ℕ) (done : List Made) → RunsFed m v call buffer done os
  runs_fed [] = cut
  runs_fed (o ∷ os) = turn o os (runs_fed os)

  -- ---- where the lengths of the start are lent

  module _ (config : Config) (few : TwoByteBudgets config) (old : List ℕ) (w : ℕ) (steady : Lends w lent) where
    abbrev EndsFed : List BusOutcome → Type 0
    EndsFed os = (m v : ℕ) (call : Call) → Good m v call → (buffer : List ℕ) → Live config payload old w call buffer → length buffer ≡ length old → (i : ℕ)
        → m ≤ length os → phase_of (fed_call call payload buffer lent i os) ≡ phase.Waiting → ⊥

    ends_turn : (o : BusOutcome) (os : List BusOutcome) → EndsFed os → EndsFed (o ∷ os)
    unfolding fed_call shows◌sending◌transfer◌answer◌ came◌taken◌refused◌
    ends_turn o os rest m v call good buffer lively size i enough = by (next_of call payload (length buffer) (length work)) refl
      where
        work : List ℕ
        work = (lent i).work

        shown : List ℕ
        shown = work_after call payload (length buffer) work

        bytes : Made → List ℕ
        bytes t = reply t (lent i).beside o

        after : Made → List ℕ
        after t = buffer_after call (told o) (bytes t) buffer (length shown)

        taken_on : (t : Made) (next : Call) → report_of call (told o) (bytes t) (length payload) (length buffer) (length shown) ≡ Ok next
            → phase_of (fed_call next payload (after t) lent (suc i) os) ≡ phase.Waiting → ⊥
        taken_on t next e =
            let f : Follows m v (Ok next) = subst (Follows m v) e (follows m v call good (told o) (bytes t) (length payload) (length buffer) (length shown)) in
            let lives-on = subst (λ (r : Reported Call). Live config payload old w (call_after r) (after t)) e (lives config payload old w call buffer lively (told o) (bytes t) (length shown)) in
            rest f.0 v next f.2 (after t) lives-on (buffer_size (told o) (bytes t) (length payload) buffer (length shown) call ∙ size) (suc i) (omega (arith, enough, f.1))

        -- a call that waits shows a transfer
        idles : Idle (next_of call payload (length buffer) (length work)) → phase_of call ≡ phase.Waiting → ⊥
        idles idle waits =
            let s = shows_one config payload old w few call buffer work lively waits (fits_live config payload old w call buffer work lively size (steady i)) in
            not_idle call payload buffer work s.0 s.1 idle

        by : (t : Transfer) → next_of call payload (length buffer) (length work) ≡ t → phase_of (fed_call call payload buffer lent i (o ∷ os)) ≡ phase.Waiting → ⊥
        by (transfer.Write n) e =
            let t : Made = write (part_of call payload shown n) in
            let g = going call buffer work t (shows_write n e) o (lent i).beside in
            rw (e, g.1) (taken_on t g.0 g.1)
        by (transfer.Read command n) e =
            let g = going call buffer work (read command n) (shows_read command n e) o (lent i).beside in
            rw (e, g.1) (taken_on (read command n) g.0 g.1)
        by (transfer.Refused a) e = rw e (idles (rw e tt))
        by (transfer.Ended a) e = rw e (idles (rw e tt))

    ends_fed : (os : List BusOutcome) → EndsFed os
    unfolding fed_call
    ends_fed [] = λ m v call good buffer lively size i enough waits. let some = waits_some m v call good waits in absurd (omega (arith, some, enough))
    ends_fed (o ∷ os) = ends_turn o os (ends_fed os)

-- a call starts with nothing counted
pub none_counted : (config : Config) → TwoByteBudgets config → (kind : Kind) (p n w : ℕ) → (tally_of (start_of kind config p n w)).transfers ≡ 0
unfolding feed accepted
none_counted config few kind p n w =
    let name = ceilings.some (budget_of kind config n) p n kind in
    (ceilings.named config few kind p n w name.0 name.1 name.2 []).counts

-- a call by its name, from its start
module _ (config : Config) (few : TwoByteBudgets config) (kind : Kind) (payload buffer : List ℕ) (w : ℕ) (lent : ℕ → Lending) (os : List BusOutcome) where
  abbrev begun : Call
  begun = start_of kind config (length payload) (length buffer) w

  started : (most waits : ℕ) → CeilingOf (budget_of kind config (length buffer)) (length payload) (length buffer) kind most waits → RunsFed payload lent most waits begun buffer [] os
  started most waits name = runs_fed payload lent os most waits begun (good_named config few kind (length payload) (length buffer) w most waits name) buffer []

  no_more : (most waits : ℕ) → CeilingOf (budget_of kind config (length buffer)) (length payload) (length buffer) kind most waits → NoMore most waits (fed begun payload buffer lent [] os)
  no_more most waits name = let ran = started most waits name in (omega (arith, ran.makes), ran.rests)

  -- it counts what was answered for, and its waits
  counts_fed : (r : Read) → fed begun payload buffer lent [] os ≡ r
      → ((tally_of (fed_call begun payload buffer lent 0 os)).transfers ≡ answered_in r) × ((tally_of (fed_call begun payload buffer lent 0 os)).waits ≡ waits_in r)
  counts_fed r same =
      let name = ceilings.some (budget_of kind config (length buffer)) (length payload) (length buffer) kind in
      let ran = started name.0 name.1 name.2 in
      let none = none_counted config few kind (length payload) (length buffer) w in
      let all : (tally_of (fed_call begun payload buffer lent 0 os)).transfers ≡ answered_in (fed begun payload buffer lent [] os) = omega (arith, ran.counted, none) in
      (all ∙ ap answered_in same, ran.waited ∙ ap waits_in same)

  -- the milliseconds are those of a call that is reported to
  lasts_fed : Bounds config.growing_waits (budget_of kind config (length buffer)) (budgets_in (plan_of kind config (length payload) (length buffer)) (length payload)) (fed_call begun payload buffer lent 0 os)
  lasts_fed =
      let told = as_reported begun payload buffer lent os in
      rw told.same (bounded config few kind (length payload) (length buffer) w told.reports)

  tens_fed : config.growing_waits ≡ false → (tally_of (fed_call begun payload buffer lent 0 os)).waited_ms ≡ (tally_of (fed_call begun payload buffer lent 0 os)).waits * 10
  tens_fed = lasts_fed.tens

  short_fed : Short (tally_of (fed_call begun payload buffer lent 0 os))
  short_fed = lasts_fed.short

-- nothing is counted
no_count : (t : Tally) → t.waits ≡ 0 → t.waited_ms ≡ 0 → t.transfers ≡ 0 → t ≡ record { waits = 0; waited_ms = 0; transfers = 0 }
no_count t a b c = ap (λ (n : ℕ). record { waits = n; waited_ms = t.waited_ms; transfers = t.transfers }) a
    ∙ ap (λ (n : ℕ). record { waits = 0; waited_ms = n; transfers = t.transfers }) b
    ∙ ap (λ (n : ℕ). record { waits = 0; waited_ms = 0; transfers = n }) c

-- EVERY CALL THAT IS FED ENDS
pub fed_ends : Ends
fed_ends = record {
  answers = λ config few kind payload buffer w most waits name lent os enough. (started config few kind payload buffer w lent os most waits name).over enough;
  ends = λ config few kind payload buffer w most waits name lent steady os enough.
      ends_fed payload lent config few buffer w steady os most waits (start_of kind config (length payload) (length buffer) w)
      (good_named config few kind (length payload) (length buffer) w most waits name) buffer (live config payload buffer w kind) refl 0 enough;
  makes = λ config few kind payload buffer w most waits name lent os. no_more config few kind payload buffer w lent os most waits name;
}

-- THE COUNT IS THE ORIGINAL'S
pub count_by_kind : (config : Config) → TwoByteBudgets config → (w : ℕ) → 39 ≤ w → (lent : ℕ → Lending) → Lends w lent → (os : List BusOutcome)
    → CountByKind config w lent os
unfolding answered_in waits_in
count_by_kind config few w roomy lent steady os = record {
  same = λ kind payload buffer defined. counts_fed config few kind payload buffer w lent os _ ((equal_by_kind config few w roomy lent steady os).same kind payload buffer defined);
  steady = λ off kind payload buffer defined.
      tens_fed config few kind payload buffer w lent os off
      ∙ ap (λ (n : ℕ). n * 10) (counts_fed config few kind payload buffer w lent os _ ((equal_by_kind config few w roomy lent steady os).same kind payload buffer defined)).1;
  added = λ kind payload buffer a instead.
      let none = counts_fed config few kind payload buffer w lent os _ ((equal_by_kind config few w roomy lent steady os).added kind payload buffer a instead) in
      let short = short_fed config few kind payload buffer w lent os in
      no_count (tally_of (fed_call (start_of kind config (length payload) (length buffer) w) payload buffer lent 0 os)) none.1 (omega (arith, none.1, short)) none.0;
}

-- AND SO ARE THE CEILINGS
pub rust_ceilings : (config : Config) → TwoByteBudgets config → (kind : Kind) (payload buffer : List ℕ) → Defined kind config payload buffer → (most waits : ℕ)
    → CeilingOf (budget_of kind config (length buffer)) (length payload) (length buffer) kind most waits → (os : List BusOutcome)
    → NoMore most waits (rust_of kind config payload buffer os) × (most ≤ length os → Over (rust_of kind config payload buffer os))
rust_ceilings config few kind payload buffer defined most waits name os =
    let lent : ℕ → Lending = λ i. record { work = replicate 39 0; beside = [] } in
    let same = (equal_by_kind config few 39 (omega arith) lent (λ i. refl) os).same kind payload buffer defined in (
      subst (NoMore most waits) same (no_more config few kind payload buffer 39 lent os most waits name),
      λ enough. subst Over same ((started config few kind payload buffer 39 lent os most waits name).over enough),
    )
