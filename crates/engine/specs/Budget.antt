-- What a failed attempt costs, and what a call counts. (01, Frames and retries: with r retries, r + 1 failures end a budget; each retried failure is one wait;
-- 02, W-203: waits that grow; W-208: a call counts its transfers)
-- Assumes nothing.
use Rattle.std.specs.Prelude.{ℕ, ◌+◌, ◌-◌, min, Bool, eqb, Option, Some, None}
use Rattle.protocol.specs.Pick.{when◌then◌else◌}
use Rattle.engine.specs.declared.budget.Budget.{Budget}
use Rattle.engine.specs.declared.budget.Tally.{Tally}

-- the wait after a failure, in milliseconds, where k of the same budget went before it: 10; where waits grow, 10, 20, 40, then 80 for good
unfoldable pub wait_of : (growing : Bool) (k : ℕ) → ℕ
wait_of growing k = when growing then (when eqb k 0 then 10 else when eqb k 1 then 20 else when eqb k 2 then 40 else 80) else 10

-- a failure of a budget that began with r retries takes one of them, and another attempt comes after a wait; or none is left. As many failures went before it as retries
-- are gone
unfoldable pub failed : (r : ℕ) (growing : Bool) → Budget → Option (Budget × ℕ)
failed r growing b = when eqb b.left 0 then None else Some (record { left = b.left - 1 }, wait_of growing (r - b.left))

-- so many more; a count stays at the largest number
abbrev pub plus_of : ℕ → ℕ → ℕ
plus_of n k = min (n + k) 4294967295

-- one more
abbrev pub more_of : ℕ → ℕ
more_of n = plus_of n 1

unfoldable pub nothing : Tally
nothing = record { waits = 0; waited_ms = 0; transfers = 0 }

-- one wait more, of so many milliseconds
unfoldable pub waited : Tally → ℕ → Tally
waited t ms = record { waits = more_of t.waits; waited_ms = plus_of t.waited_ms ms; transfers = t.transfers }

-- one transfer more
unfoldable pub tallied : Tally → Tally
tallied t = record { waits = t.waits; waited_ms = t.waited_ms; transfers = more_of t.transfers }
