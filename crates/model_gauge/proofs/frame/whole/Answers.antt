-- `model_gauge::frame::whole` meets its contract: each return is a case of `whole_of`.
-- Assumes nothing.
use Rattle.engine.proofs.Cases.{cases}
use Rattle.protocol.proofs.Cases.{not_eq, yes_eq}
use Rattle.model_gauge.specs.Frame.{whole_of}
use Rattle.model_gauge.proofs.frame.whole.Goals as goal

pub returns-then-frame-size : goal.returns-then-frame-size
unfolding whole_of
returns-then-frame-size c = search cases

pub returns-then-frame-size-2 : goal.returns-then-frame-size-2
unfolding whole_of
returns-then-frame-size-2 c = not_eq _ _ _ _ _ c.if-frame-size.false (yes_eq _ _ _ _ _ c.if-frame-size-2.true (rw (c.check_byte.ensures, c.front.ensures)))

pub returns-else-frame-size-2 : goal.returns-else-frame-size-2
unfolding whole_of
returns-else-frame-size-2 c = search cases
