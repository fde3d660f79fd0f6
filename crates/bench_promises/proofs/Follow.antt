-- A run of the bench from a call on, followed through the Rust's function: each outcome that is taken is one more that the Rust is given.
-- Assumes nothing.
use Rattle.engine.specs.Bus.{Reported}
use Rattle.std.specs.Prelude.{Err, Ok, None}
use Prim.Native.Nat.{ℕ, ◌≤◌, ◌<◌}
use mathlib.Core.Path.{◌≡◌, refl, sym, ap, ◌∙◌}
use mathlib.Core.Bool.{Bool, true, false}
use mathlib.Core.List.{List, [], ◌∷◌, ◌++◌, append-nil, append_assoc}
use native.Mathlib.Omega.{arith}
use lib.ListN.{length, get_or, replicate}
use lib.Seq.{take-append_seam}
use lib.Dec.{ltb, eqb}
use borrow.Author.Tests.{lt-ltb, le-ltb, ne_eqb, eqb-true, eqb-false, ltb-true, ltb-false}
use Rattle.protocol.specs.Pick.{when◌then◌else◌}
use Rattle.protocol.specs.Answer.{number_of}
use Rattle.protocol.specs.declared.error.Answer.{Answer}
use Rattle.protocol.specs.declared.error.Answer.TheVariants as answer
use Rattle.protocol.proofs.AnswerLaws.{done_only}
use Rattle.engine.specs.declared.bus.Transfer.{Transfer}
use Rattle.engine.specs.declared.bus.Transfer.TheVariants as transfer
use Rattle.writing.proofs.Shown.{write_work}
use Rattle.reading.proofs.Shown.{read_work}
use Rattle.calls.specs.Call.{next_of, work_after, part_of, report_of, buffer_after, tally_of}
use Rattle.calls.specs.declared.call.Call.{Call}
use Rattle.calls.specs.declared.call.Call.TheVariants as call
use Rattle.requests.specs.Outcome.{acknowledged_line, error_line, timeout_line, outcome_line}
use Rattle.printing.specs.Printing.{write_said, end_said}
use Rattle.dialogue.specs.Dialogue.{asked, last, tell_of, zeros, line_shown}
use Rattle.hexadecimal.specs.Line.{line_bytes}
use Rattle.dialogue.specs.Bench.{then_say, report_then, told_then, call_lines, call_run}
use Rattle.original.specs.Bus.{BusOutcome, Acknowledged, BusError, Timeout, delivered, Made, write, read, brings, Ok, Err, Waiting, Read, ◌leaving◌, waits_in}
use Rattle.original.specs.Fed as feeding
use Rattle.original.specs.Fed.{Lending, reply, answered, shows◌sending◌transfer◌answer◌, came◌taken◌refused◌, fed}
use Rattle.bench_promises.specs.Kinds.{waited_by}
use Rattle.bench_promises.specs.RustBench.{transfer_line, transfer_lines, end_line, cut_line, outcome, stopped, acknowledged_by, error_by, timeout_by, heard_in, last_asks, came_to◌lasting◌waiting◌, heard◌goes◌stops◌, run_of}
use Rattle.bench_promises.proofs.Steps.{IsTaken, Failure, Takes, takes}
use Rattle.bench_promises.proofs.Said.{end_said_lem, last_said, read_said_lem}
use Rattle.bench_promises.proofs.Lasts.{Lasts, lasts_on, lasts_so}

-- ---- lists of transfers

lines_append : (done : List Made) (t : Made) → transfer_lines (done ++ (t ∷ [])) ≡ transfer_lines done ++ (transfer_line t ∷ [])
unfolding transfer_lines
lines_append [] t = refl
lines_append (u ∷ done) t = ap (λ (l : List (List ℕ)). transfer_line u ∷ l) (lines_append done t)

last_asks_lem : (done : List Made) (t : Made) → last_asks (done ++ (t ∷ [])) ≡ brings t
unfolding last_asks
last_asks_lem [] t = refl
last_asks_lem (u ∷ []) t = refl
last_asks_lem (u ∷ v ∷ done) t = last_asks_lem (v ∷ done) t

-- ---- what is lent to the Rust's host: a fresh work buffer at each step, and nothing beside a failure

abbrev pub lent : ℕ → Lending
lent i = record { work = zeros; beside = [] }

length_work : (c : Call) (payload : List ℕ) (n : ℕ) → length (work_after c payload n zeros) ≡ 39
unfolding work_after zeros
length_work (call.Write c) payload n = write_work c payload (replicate 39 0)
length_work (call.Read c) payload n = read_work c n (replicate 39 0)

all_delivered : (n : ℕ) (s : List ℕ) → length s ≡ n → delivered n s ≡ s
all_delivered n s e = rw (← e) (take-append_seam s (replicate (length s) 0))

-- what a call has waited when the outcomes run out is what it counts
waits_now : (c : Call) (payload buffer : List ℕ) (done : List Made) → (tally_of c).waits ≡ waits_in (fed c payload buffer lent done [])
unfolding fed zeros answered waits_in shows◌sending◌transfer◌answer◌ when◌then◌else◌
waits_now c payload buffer done = by (next_of c payload (length buffer) 39) refl
  where
    answered_waits : (t : Bool) (a : Answer) → (tally_of c).waits ≡ waits_in ((when t then Ok (record { transfers = done; waits = (tally_of c).waits }) [] else Err a (record { transfers = done; waits = (tally_of c).waits }) []) leaving buffer)
    answered_waits true a = refl
    answered_waits false a = refl

    by : (t : Transfer) → next_of c payload (length buffer) 39 ≡ t → (tally_of c).waits ≡ waits_in (fed c payload buffer lent done [])
    by (transfer.Write n) e = rw e
    by (transfer.Read command n) e = rw e
    by (transfer.Refused a) e = rw e (answered_waits (eqb (number_of a) 0) a)
    by (transfer.Ended a) e = rw e (answered_waits (eqb (number_of a) 0) a)

-- ---- one call, where the Rust has been given the outcomes so far

module _ (per_frame growing : Bool) (retries : ℕ) (rust : List BusOutcome → Read) (rest payload : List ℕ) (c : Call) (buffer : List ℕ) (done : List Made) (os : List BusOutcome)
    (lasts : Lasts per_frame growing retries os c) (same : (more : List BusOutcome) → rust (os ++ more) ≡ fed c payload buffer lent done more) where
  abbrev shown : List ℕ
  shown = work_after c payload (length buffer) zeros

  abbrev waits : ℕ
  waits = (tally_of c).waits

  abbrev ms : List BusOutcome → ℕ
  ms = waited_by per_frame growing retries rust

  now : rust os ≡ fed c payload buffer lent done []
  now = ap rust (sym (append-nil os)) ∙ same []

  -- how long it has waited
  lasted : (tally_of c).waited_ms ≡ ms os
  lasted = lasts_so per_frame retries rust os growing c lasts (waits_now c payload buffer done ∙ ap waits_in (sym now))

  -- what a call that has ended prints
  ended : (a : Answer) (f : _) → (came_to (answered a (record { transfers = done; waits = waits }) [] leaving buffer) lasting ms os waiting f) ≡ transfer_lines done ++ (end_said a (tally_of c) buffer ∷ [])
  unfolding answered came_to◌lasting◌waiting◌ when◌then◌else◌
  ended a f = by (eqb (number_of a) 0) refl
    where
      by : (t : Bool) → eqb (number_of a) 0 ≡ t
          → (came_to ((when t then Ok (record { transfers = done; waits = waits }) [] else Err a (record { transfers = done; waits = waits }) []) leaving buffer) lasting ms os waiting f)
          ≡ transfer_lines done ++ (end_said a (tally_of c) buffer ∷ [])
      by true e = rw (end_said_lem, lasted, done_only a (eqb-true (number_of a) 0 e))
      by false e = rw (end_said_lem, lasted)

  -- a transfer is outstanding
  module _ (m : Made) (next : (f : Made → Read) (g : Answer → Read) → (shows next_of c payload (length buffer) 39 sending part_of c payload shown transfer f answer g) ≡ f m)
      (line : line_shown c payload buffer ≡ asked (transfer_line m)) (takes : Takes c (length payload) buffer (brings m)) where
    waiting_now : rust os ≡ (Waiting (record { transfers = done ++ (m ∷ []); waits = waits }) leaving buffer)
    unfolding fed zeros
    waiting_now = now ∙ next _ _

    cut : run_of rust ms os [] rest ≡ transfer_lines done ++ call_run c payload buffer [] rest
    unfolding run_of call_run call_lines then_say came_to◌lasting◌waiting◌
    cut = rw (waiting_now, line, lines_append, last_said, lasted) (append_assoc (transfer_lines done) (transfer_line m ∷ []) (cut_line rest waits (ms os) buffer ∷ []))

    module _ (lines : List (List ℕ))
        (on : (o : BusOutcome) (d : Call) (after : List ℕ) → Lasts per_frame growing retries (os ++ (o ∷ [])) d → ((more : List BusOutcome) → rust ((os ++ (o ∷ [])) ++ more) ≡ fed d payload after lent (done ++ (m ∷ [])) more)
        → run_of rust ms (os ++ (o ∷ [])) lines rest ≡ transfer_lines (done ++ (m ∷ [])) ++ call_run d payload after lines rest) where
      abbrev go : Call → List ℕ → List (List ℕ)
      go d after = call_run d payload after lines rest

      abbrev onward : BusOutcome → List (List ℕ)
      onward o = run_of rust ms (os ++ (o ∷ [])) lines rest

      abbrev stop : Answer → List (List ℕ)
      stop a = transfer_lines (done ++ (m ∷ [])) ++ (end_line a waits (ms os) buffer ∷ [])

      -- an outcome that the call takes
      step : (o : BusOutcome) (s : List ℕ) → IsTaken (report_of c (feeding.told o) s (length payload) (length buffer) 39)
          → report_of c (feeding.told o) (reply m [] o) (length payload) (length buffer) 39 ≡ report_of c (feeding.told o) s (length payload) (length buffer) 39
          → buffer_after c (feeding.told o) (reply m [] o) buffer 39 ≡ buffer_after c (feeding.told o) s buffer 39
          → onward o ≡ transfer_lines (done ++ (m ∷ [])) ++ report_then (report_of c (feeding.told o) s (length payload) (length buffer) 39) (buffer_after c (feeding.told o) s buffer 39) go
      unfolding report_then fed zeros came◌taken◌refused◌
      step o s ok r b = by (report_of c (feeding.told o) s (length payload) (length buffer) 39) refl
        where
          by : (u : Reported Call) → report_of c (feeding.told o) s (length payload) (length buffer) 39 ≡ u
              → onward o ≡ transfer_lines (done ++ (m ∷ [])) ++ report_then u (buffer_after c (feeding.told o) s buffer 39) go
          by (Err (a, same)) e = absurd (rw e at ok)
          by (Ok d) e =
              on o d (buffer_after c (feeding.told o) s buffer 39) (lasts_on per_frame growing retries os c lasts o s (length payload) (length buffer) 39 d e)
              (λ more. ap rust (append_assoc os (o ∷ []) more) ∙ same (o ∷ more) ∙ next _ _ ∙ rw (length_work c payload (length buffer), r, e, b))

      -- a failure, whose reply is not looked at
      missed : (o : BusOutcome) (s : List ℕ) → Failure (feeding.told o) → reply m [] o ≡ []
          → onward o ≡ transfer_lines (done ++ (m ∷ [])) ++ report_then (report_of c (feeding.told o) s (length payload) (length buffer) 39) (buffer_after c (feeding.told o) s buffer 39) go
      missed o s f e =
          let t = takes.failed (feeding.told o) s [] f in
          step o s t.0 (rw e (sym t.1)) (rw e (sym t.2))

      -- what follows a line that is bad, or a reply of the wrong length
      broken : (a : Answer) → stop a ≡ transfer_lines (done ++ (m ∷ [])) ++ (end_said a (tally_of c) buffer ∷ [])
      broken a = rw (end_said_lem, lasted)

      -- 00 and a reply
      acknowledged : (b : ℕ) (s : List ℕ)
          → (heard acknowledged_by (brings m) s goes onward stops stop)
          ≡ transfer_lines (done ++ (m ∷ [])) ++ told_then (acknowledged_line (length (b ∷ s))) c payload buffer (b ∷ s) go
      unfolding acknowledged_by acknowledged_line heard◌goes◌stops◌ told_then report_then when◌then◌else◌ feeding.told reply
      acknowledged b s = by (ltb 8192 (length s)) refl (eqb (length s) (brings m)) refl
        where
          by : (long : Bool) → ltb 8192 (length s) ≡ long → (right : Bool) → eqb (length s) (brings m) ≡ right
              → (heard (when long then stopped answer.BadLine else when right then outcome (Acknowledged s) else stopped answer.WrongReply) goes onward stops stop)
              ≡ transfer_lines (done ++ (m ∷ [])) ++ told_then (acknowledged_line (length (b ∷ s))) c payload buffer (b ∷ s) go
          by true l right r =
              let h : 8193 < length (b ∷ s) = omega (arith, ltb-true 8192 (length s) l) in
              rw (lt-ltb 8193 (length (b ∷ s)) h) (broken answer.BadLine)
          by false l true r =
              let h : length (b ∷ s) ≤ 8193 = omega (arith, ltb-false 8192 (length s) l) in
              let e = eqb-true (length s) (brings m) r in
              let d : delivered (brings m) s ≡ s = all_delivered (brings m) s e in
              rw (le-ltb 8193 (length (b ∷ s)) h) (step (Acknowledged s) s (takes.right s e) (rw d) (rw d))
          by false l false r =
              let h : length (b ∷ s) ≤ 8193 = omega (arith, ltb-false 8192 (length s) l) in
              let w = takes.wrong s (eqb-false (length s) (brings m) r) in
              rw (le-ltb 8193 (length (b ∷ s)) h, w.0, w.1) (broken answer.WrongReply)

      -- 01 and a code
      error : (b : ℕ) (s : List ℕ)
          → (heard error_by s goes onward stops stop)
          ≡ transfer_lines (done ++ (m ∷ [])) ++ told_then (error_line (get_or (b ∷ s) 1 0) (length (b ∷ s))) c payload buffer (b ∷ s) go
      unfolding error_by error_line heard◌goes◌stops◌ told_then when◌then◌else◌ feeding.told reply
      error b [] = broken answer.BadLine
      error b (code ∷ []) = missed (BusError code) (code ∷ []) tt refl
      error b (code ∷ x ∷ more) = rw (ne_eqb (length (b ∷ code ∷ x ∷ more)) 2 (λ e. omega arith)) (broken answer.BadLine)

      -- 02
      timeout : (b : ℕ) (s : List ℕ)
          → (heard timeout_by s goes onward stops stop)
          ≡ transfer_lines (done ++ (m ∷ [])) ++ told_then (timeout_line (length (b ∷ s))) c payload buffer (b ∷ s) go
      unfolding timeout_by timeout_line heard◌goes◌stops◌ told_then when◌then◌else◌ feeding.told reply
      timeout b [] = missed Timeout [] tt refl
      timeout b (x ∷ more) = rw (ne_eqb (length (b ∷ x ∷ more)) 1 (λ e. omega arith)) (broken answer.BadLine)

      -- any line
      outcome_line_lem : (bytes : List ℕ)
          → (heard heard_in (brings m) bytes goes onward stops stop) ≡ transfer_lines (done ++ (m ∷ [])) ++ told_then (outcome_line bytes) c payload buffer bytes go
      unfolding heard_in outcome_line heard◌goes◌stops◌ told_then when◌then◌else◌
      outcome_line_lem [] = broken answer.BadLine
      outcome_line_lem (b ∷ s) = rw (ne_eqb (length (b ∷ s)) 0 (λ e. omega arith)) (by (eqb b 0) (eqb b 1) (eqb b 2))
        where
          by : (zero one two : Bool)
              → (heard (when zero then acknowledged_by (brings m) s else when one then error_by s else when two then timeout_by s else stopped answer.BadLine) goes onward stops stop)
              ≡ transfer_lines (done ++ (m ∷ []))
              ++ told_then
              (when zero then acknowledged_line (length (b ∷ s)) else
              when one then error_line (get_or (b ∷ s) 1 0) (length (b ∷ s)) else
              when two then timeout_line (length (b ∷ s)) else None) c payload buffer (b ∷ s) go
          by true one two = acknowledged b s
          by false true two = error b s
          by false false true = timeout b s
          by false false false = broken answer.BadLine

      goes_on : (text : List ℕ) → run_of rust ms os (text ∷ lines) rest ≡ transfer_lines done ++ call_run c payload buffer (text ∷ lines) rest
      unfolding run_of call_run call_lines then_say came_to◌lasting◌waiting◌
      goes_on text =
          rw (waiting_now, line, last_asks_lem)
          (outcome_line_lem (line_bytes text) ∙ rw lines_append (append_assoc (transfer_lines done) (transfer_line m ∷ []) _))

  -- the call has shown its answer
  module _ (a : Answer) (over : rust os ≡ (answered a (record { transfers = done; waits = waits }) [] leaving buffer))
      (line : line_shown c payload buffer ≡ last (end_said a (tally_of c) buffer)) where
    answers : (lines : List (List ℕ)) → run_of rust ms os lines rest ≡ transfer_lines done ++ call_run c payload buffer lines rest
    unfolding run_of call_run then_say
    answers [] = rw (over, line) (ended a _)
    answers (text ∷ lines) = rw (over, line) (ended a _)

  -- what follows a transfer and its outcome, where a line is left for that
  abbrev On : List (List ℕ) → Type 0
  On [] = Unit {0}
  On (text ∷ lines) =
      (m : Made) (o : BusOutcome) (d : Call) (after : List ℕ) → Lasts per_frame growing retries (os ++ (o ∷ [])) d → ((more : List BusOutcome) → rust ((os ++ (o ∷ [])) ++ more) ≡ fed d payload after lent (done ++ (m ∷ [])) more)
      → run_of rust ms (os ++ (o ∷ [])) lines rest ≡ transfer_lines (done ++ (m ∷ [])) ++ call_run d payload after lines rest

  -- by what the call shows
  by_shown : (lines : List (List ℕ)) → On lines → (t : Transfer) → next_of c payload (length buffer) 39 ≡ t
      → run_of rust ms os lines rest ≡ transfer_lines done ++ call_run c payload buffer lines rest
  unfolding fed zeros line_shown tell_of write_said transfer_line shows◌sending◌transfer◌answer◌ brings
  by_shown [] on (transfer.Write n) e = cut (write (part_of c payload shown n)) (λ f g. rw e) (rw e) (rw e at (takes c payload buffer (rw e tt)))
  by_shown (text ∷ lines) on (transfer.Write n) e =
      goes_on (write (part_of c payload shown n)) (λ f g. rw e) (rw e) (rw e at (takes c payload buffer (rw e tt))) lines (on (write (part_of c payload shown n))) text
  by_shown [] on (transfer.Read command n) e = cut (read command n) (λ f g. rw e) (rw (e, read_said_lem)) (rw e at (takes c payload buffer (rw e tt)))
  by_shown (text ∷ lines) on (transfer.Read command n) e =
      goes_on (read command n) (λ f g. rw e) (rw (e, read_said_lem)) (rw e at (takes c payload buffer (rw e tt))) lines (on (read command n)) text
  by_shown lines on (transfer.Refused a) e = answers a (now ∙ rw e) (rw e) lines
  by_shown lines on (transfer.Ended a) e = answers a (now ∙ rw e) (rw e) lines

-- the run of a call, whatever has gone before it
pub follow : (lines : List (List ℕ)) (per_frame growing : Bool) (retries : ℕ) (rust : List BusOutcome → Read) (rest payload : List ℕ) (c : Call) (buffer : List ℕ) (done : List Made)
    (os : List BusOutcome) → Lasts per_frame growing retries os c → ((more : List BusOutcome) → rust (os ++ more) ≡ fed c payload buffer lent done more)
    → run_of rust (waited_by per_frame growing retries rust) os lines rest ≡ transfer_lines done ++ call_run c payload buffer lines rest
follow [] per_frame growing retries rust rest payload c buffer done os lasts same = by_shown per_frame growing retries rust rest payload c buffer done os lasts same [] tt _ refl
follow (text ∷ lines) per_frame growing retries rust rest payload c buffer done os lasts same =
    by_shown per_frame growing retries rust rest payload c buffer done os lasts same (text ∷ lines)
    (λ m o d after l h. follow lines per_frame growing retries rust rest payload d after (done ++ (m ∷ [])) (os ++ (o ∷ [])) l h) _ refl
