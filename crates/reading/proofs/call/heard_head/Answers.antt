-- `reading::call::heard_head` meets its contract: each return is a case of `heard_head`.
-- Assumes nothing.
use Rattle.engine.proofs.Cases.{cases}
use Rattle.reading.specs.Reading.{heard_head}
use Rattle.reading.proofs.call.heard_head.Goals as goal

pub returns-then-reply-eq0 : goal.returns-then-reply-eq0
unfolding heard_head
returns-then-reply-eq0 c = search cases

pub returns-else-reply-eq0 : goal.returns-else-reply-eq0
unfolding heard_head
returns-else-reply-eq0 c = search cases
