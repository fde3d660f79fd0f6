-- What an outcome line says. (01, The bench program: 00 and any reply, 01 and a code, 02)
-- Assumes nothing.
use Rattle.std.specs.Prelude.{ℕ, List, length, get_or, ltb, eqb, Option, Some, None}
use Rattle.protocol.specs.Pick.{when◌then◌else◌}
use Rattle.engine.specs.declared.bus.Outcome.{Outcome}
use Rattle.engine.specs.declared.bus.Outcome.TheVariants as outcome

-- a reply of at most 8,192 bytes; none of a bad line
unfoldable pub acknowledged_line : ℕ → Option Outcome
acknowledged_line n = when ltb 8193 n then None else Some outcome.Acknowledged

unfoldable pub error_line : ℕ → ℕ → Option Outcome
error_line code n = when eqb n 2 then Some (outcome.BusError code) else None

unfoldable pub timeout_line : ℕ → Option Outcome
timeout_line n = when eqb n 1 then Some outcome.Timeout else None

unfoldable pub outcome_line : List ℕ → Option Outcome
outcome_line line =
    when eqb (length line) 0 then None else
    when eqb (get_or line 0 0) 0 then acknowledged_line (length line) else
    when eqb (get_or line 0 0) 1 then error_line (get_or line 1 0) (length line) else
    when eqb (get_or line 0 0) 2 then timeout_line (length line) else None
