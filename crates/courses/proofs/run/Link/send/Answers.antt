-- `courses::run::Link::send` meets its contract: the call hears what the gauge made of the part that it handed out.
-- Assumes nothing.
use mathlib.Core.Path.{sym}
use Rattle.model_gauge.proofs.Laws.{write_brings}
use Rattle.courses.proofs.Steps.{hears}
use Rattle.courses.proofs.run.Link.send.Goals as goal

pub returns : goal.returns
returns c = rw (← c.to_send-frame.ensures) (hears _ _ _ _ _ _ _ _ _ _ _ c.write-effect.ensures.0 (sym (write_brings _ _ _ _)) c.write-effect.ensures.1 c.report.ensures.0 c.report.ensures.1)
