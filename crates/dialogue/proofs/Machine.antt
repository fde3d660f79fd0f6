-- The proved functions one after the other, over lists of lines: what `Whole` shows to be the bench.
-- Assumes nothing.
use Prim.Native.Nat.{ℕ}
use mathlib.Core.List.{List, [], ◌∷◌}
use Rattle.dialogue.specs.Dialogue.{answer_of, request_after, outcome_after, buffer_after, close_of}
use Rattle.dialogue.specs.declared.Run.{Run}
use Rattle.dialogue.specs.Bench.{then_say}

-- `answer` for each line, `close` at the end
unfoldable pub machine_of : Run → List ℕ → List ℕ → List ℕ → List (List ℕ) → List ℕ → List (List ℕ)
machine_of r request outcome buffer [] rest = close_of r rest buffer ∷ []
machine_of r request outcome buffer (line ∷ lines) rest =
    then_say (answer_of r line request outcome buffer).saying
    (machine_of (answer_of r line request outcome buffer).run (request_after r line request) (outcome_after r line outcome)
    (buffer_after r line request outcome buffer) lines rest)
