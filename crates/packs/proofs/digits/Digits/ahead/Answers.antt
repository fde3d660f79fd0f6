-- `packs::digits::Digits::ahead` meets its contract: each arm is a case of `ahead_of`.
-- Assumes nothing.
use Prim.Native.Nat.{◌+◌}
use mathlib.Core.Path.{◌≡◌}
use native.Mathlib.Omega.{arith}
use lib.ListN.{get_or}
use Rattle.packs.proofs.Cases.{cases}
use Rattle.packs.specs.Ahead.{ahead_of}
use Rattle.packs.proofs.digits.Digits.ahead.Goals as goal
use Rattle.packs.proofs.digits.Digits.ahead.Goals.{then-chunk-at-lt-LONGEST_LINE-via-then-chunk-at-lt-LONGEST_LINE, then-chunk-at-lt-LONGEST_LINE-via-else-chunk-at-lt-LONGEST_LINE+then-chunk-at-ne48}

pub returns-then-chunk-at-lt-LONGEST_LINE : goal.returns-then-chunk-at-lt-LONGEST_LINE
unfolding ahead_of
returns-then-chunk-at-lt-LONGEST_LINE c =
    elim c.then-chunk-at-lt-LONGEST_LINE.branch [ then-chunk-at-lt-LONGEST_LINE-via-then-chunk-at-lt-LONGEST_LINE w ↦ search cases | then-chunk-at-lt-LONGEST_LINE-via-else-chunk-at-lt-LONGEST_LINE+then-chunk-at-ne48 w ↦ search cases ]

pub returns-in-48 : goal.returns-in-48
unfolding ahead_of
returns-in-48 c = search cases

pub returns-in-49 : goal.returns-in-49
unfolding ahead_of
returns-in-49 c = let n : get_or c.args.chunk.now (c.args.at + 1) 0 ≡ 48 → ⊥ = λ e. absurd (omega arith) in search cases

pub returns-in_default : goal.returns-in_default
unfolding ahead_of
returns-in_default c = search cases
