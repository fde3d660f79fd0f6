-- `lines::keep` meets its contract: what lies whole in its chunk is left there, and all else is stored.
-- Assumes nothing.
use mathlib.Core.Path.{sym, ◌∙◌}
use Rattle.lines.specs.Lines.{kept_of}
use Rattle.lines.proofs.Laws.{not_here}
use Rattle.lines.proofs.keep.Goals.{in-Here, in_default}
use Rattle.lines.proofs.keep.Goals as goal

pub returns-then-not-matches : goal.returns-then-not-matches
returns-then-not-matches c =
    elim c.match-matches.branch [
      | in-Here w ↦ let no = sym w.matches-is ∙ c.if-not-matches.true in cc
      | in_default w ↦ c.store_block.ensures ∙ not_here _ _ _ _ w.in_default.not-Here
    ]

pub returns-else-not-matches : goal.returns-else-not-matches
unfolding kept_of
returns-else-not-matches c =
    elim c.match-matches.branch [
      | in-Here w ↦ rw w.in-Here.is
      | in_default w ↦ let no = sym w.matches-is ∙ c.if-not-matches.false in cc
    ]
