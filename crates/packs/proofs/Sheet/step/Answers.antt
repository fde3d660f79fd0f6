-- `packs::Sheet::step` meets its contract: each arm is a case of `step_of`.
-- Assumes nothing.
use Rattle.packs.proofs.Cases.{cases}
use Rattle.packs.proofs.Laws.{sheets}
use Rattle.packs.specs.Count.{step_of}
use Rattle.packs.proofs.Sheet.step.Goals as goal
use Rattle.packs.proofs.Sheet.step.Goals.{then-value-gt15-via-then-value-gt15, then-value-gt15-via-else-value-gt15+then-self-ge-SIX_DIGITS}

pub returns-then-is_refused : goal.returns-then-is_refused
unfolding step_of
returns-then-is_refused c = search (cases, sheets)

pub returns-then-byte-eq10 : goal.returns-then-byte-eq10
unfolding step_of
returns-then-byte-eq10 c = search (cases, sheets)

pub returns : goal.returns
unfolding step_of
returns c = search (cases, sheets)

pub returns-then-value-gt15 : goal.returns-then-value-gt15
unfolding step_of
returns-then-value-gt15 c =
    elim c.then-value-gt15.branch [ then-value-gt15-via-then-value-gt15 w ↦ search (cases, sheets) | then-value-gt15-via-else-value-gt15+then-self-ge-SIX_DIGITS w ↦ search (cases, sheets) ]
