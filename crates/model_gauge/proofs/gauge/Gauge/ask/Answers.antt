-- `model_gauge::gauge::Gauge::ask` meets its contract: each return is a case of `heard_read`.
-- Assumes nothing.
use mathlib.Core.Path.{sym, ◌∙◌}
use Rattle.model_gauge.proofs.Laws.{read_told, read_untaken}
use Rattle.model_gauge.proofs.gauge.Gauge.ask.Goals as goal

pub returns-then-replies : goal.returns-then-replies
returns-then-replies c = λ flash. rw c.moved.ensures (read_told _ _ _ flash (sym c.replies.ensures ∙ c.if-replies.true))

pub returns-else-replies : goal.returns-else-replies
returns-else-replies c = λ flash. rw (read_untaken _ _ _ flash (sym c.replies.ensures ∙ c.if-replies.false)) c.tells.ensures
