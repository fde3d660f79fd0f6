-- `packs::Sheet::line_at` meets its contract: each arm is a case of `line_at`.
-- Assumes nothing.
use Rattle.packs.proofs.Cases.{cases}
use Rattle.packs.specs.Ahead.{line_at}
use Rattle.packs.proofs.Sheet.line_at.Goals as goal

pub returns-then-self-ne-NO_DIGITS : goal.returns-then-self-ne-NO_DIGITS
unfolding line_at
returns-then-self-ne-NO_DIGITS c = search cases

pub returns : goal.returns
unfolding line_at
returns c = search cases
