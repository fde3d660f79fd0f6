-- What holds of every line that a call can print holds of every line of a run: by induction over the lines that it is given.
-- Assumes nothing.
use Rattle.engine.specs.Bus.{Reported}
use Prim.Native.Nat.{ℕ}
use mathlib.Core.List.{List, [], ◌∷◌}
use lib.ListN.{length, drop}
use Rattle.protocol.specs.declared.error.Answer.TheVariants as answer
use Rattle.engine.specs.declared.bus.Outcome.{Outcome}
use Rattle.calls.specs.Call.{report_of, buffer_after, tally_of}
use Rattle.calls.specs.declared.call.Call.{Call}
use Rattle.requests.specs.Outcome.{outcome_line}
use Rattle.std.specs.Prelude.{Option, Some, None, Err, Ok}
use Rattle.printing.specs.Printing.{end_said}
use Rattle.dialogue.specs.Dialogue.{Saying, asked, last, bytes_said, line_shown, last_of}
use Rattle.hexadecimal.specs.Line.{line_bytes}
use Rattle.dialogue.specs.Bench.{then_say, report_then, told_then, call_lines, call_run}

-- each of these lines
abbrev pub All : (List ℕ → Type 0) → List (List ℕ) → Type 0
All P [] = Unit {0}
All P (s ∷ more) = P s × All P more

-- P of a line, and of a call and its buffer what P of all its lines follows from
module _ (P : List ℕ → Type 0) (Good : Call → List ℕ → Type 0) (payload : List ℕ) where
  -- what came of a report is as good: the call goes on, or the line that stops the run
  abbrev pub GoodAfter : Reported Call → List ℕ → Type 0
  GoodAfter (Err (a, c)) buffer = P (end_said a (tally_of c) buffer)
  GoodAfter (Ok c) buffer = Good c buffer

  each_then : (s : Saying) (more : List (List ℕ)) → P (bytes_said s) → All P more → All P (then_say s more)
  unfolding then_say bytes_said
  each_then (asked s) more h m = (h, m)
  each_then (last s) more h m = (h, tt)

  module _ (shown : (c : Call) (buffer : List ℕ) → Good c buffer → P (bytes_said (line_shown c payload buffer)))
      (stopped : (c : Call) (buffer : List ℕ) → Good c buffer → (left : ℕ) → P (last_of (tally_of c) left buffer))
      (bad_line : (c : Call) (buffer : List ℕ) → Good c buffer → P (end_said answer.BadLine (tally_of c) buffer))
      (reports : (c : Call) (buffer : List ℕ) → Good c buffer → (o : Outcome) (reply : List ℕ)
      → GoodAfter (report_of c o reply (length payload) (length buffer) 39) (buffer_after c o reply buffer 39)) where
    -- what follows a report or an outcome line, where it is so whatever call and buffer go on
    module _ (next : Call → List ℕ → List (List ℕ)) (all : (c : Call) (after : List ℕ) → Good c after → All P (next c after)) where
      each_report : (u : Reported Call) (buffer : List ℕ) → GoodAfter u buffer → All P (report_then u buffer next)
      unfolding report_then
      each_report (Err (a, c)) buffer h = (h, tt)
      each_report (Ok c) buffer h = all c buffer h

      each_told : (t : Option Outcome) (c : Call) (buffer bytes : List ℕ) → Good c buffer → All P (told_then t c payload buffer bytes next)
      unfolding told_then
      each_told (Some o) c buffer bytes h = each_report _ _ (reports c buffer h o (drop 1 bytes))
      each_told None c buffer bytes h = (bad_line c buffer h, tt)

    each_line : (lines : List (List ℕ)) (c : Call) (buffer rest : List ℕ) → Good c buffer → All P (call_lines c payload buffer lines rest)
    unfolding call_lines
    each_line [] c buffer rest h = (stopped c buffer h (length rest), tt)
    each_line (line ∷ lines) c buffer rest h =
        each_told _
        (λ next after g. each_then (line_shown next payload after) (call_lines next payload after lines rest) (shown next after g) (each_line lines next after rest g))
        (outcome_line (line_bytes line)) c buffer (line_bytes line) h

    pub each_run : (lines : List (List ℕ)) (c : Call) (buffer rest : List ℕ) → Good c buffer → All P (call_run c payload buffer lines rest)
    unfolding call_run
    each_run lines c buffer rest h = each_then _ _ (shown c buffer h) (each_line lines c buffer rest h)
