-- `dialogue::decode` meets its contract: it is the count of bytes, or 0.
-- Assumes nothing.
use mathlib.Core.Path.{◌∙◌}
use Rattle.dialogue.specs.Dialogue.{byte_count}
use Rattle.dialogue.proofs.Laws.{count_or_none}
use Rattle.dialogue.proofs.decode.Goals as goal

pub returns : goal.returns
unfolding byte_count
returns c =
    let e = c.decode.ensures in
    (c.unwrap_or.ensures ∙ rw e.0 (count_or_none _), e.1)
