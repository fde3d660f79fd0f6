-- `courses::run::Link::ask` meets its contract: the call hears what the gauge made of the read, and the reply.
-- Assumes nothing.
use mathlib.Core.Path.{refl, sym}
use Rattle.model_gauge.proofs.Replies.{replied}
use Rattle.courses.proofs.Steps.{hears, brings}
use Rattle.courses.proofs.run.Link.ask.Goals as goal

pub returns : goal.returns
returns c = hears _ _ _ _ _ _ _ _ _ _ _ c.read-effect.ensures.0 (brings _ _ _ _ _ _ _ _ _ c.read-effect.ensures.0 refl c.read-effect.ensures.1 c.front-brought.ensures) (sym (replied.flash _ _ _ _ _)) c.report.ensures.0 c.report.ensures.1
