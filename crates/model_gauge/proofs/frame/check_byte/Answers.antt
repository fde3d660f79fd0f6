-- `model_gauge::frame::check_byte` meets its contract: the PEC of the opening, carried on over what follows, is that of both.
-- Assumes nothing.
use mathlib.Core.Path.{◌∙◌}
use Rattle.smbus_pec.proofs.Laws.{pec_append}
use Rattle.model_gauge.proofs.frame.check_byte.Goals as goal

pub returns : goal.returns
returns c = c.pec-2.ensures ∙ rw (c.pec.ensures, pec_append)
