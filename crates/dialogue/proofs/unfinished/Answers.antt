-- `dialogue::unfinished` meets its contract: each arm is a case of `unfinished_of`.
-- Assumes nothing.
use Rattle.protocol.proofs.Cases.{cases}
use Rattle.dialogue.specs.Dialogue.{unfinished_of}
use Rattle.dialogue.proofs.unfinished.Goals as goal

pub returns-then-retired_kind : goal.returns-then-retired_kind
unfolding unfinished_of
returns-then-retired_kind c = search cases

pub returns-else-retired_kind : goal.returns-else-retired_kind
unfolding unfinished_of
returns-else-retired_kind c = search cases
