-- `reading::call::ReadCall::show_head` meets its contract: what was laid is shown.
-- Assumes nothing.
use mathlib.Core.Path.{ap, ◌∙◌}
use Rattle.reading.specs.Reading.{shown_head, work_head}
use Rattle.engine.specs.Bus.{write_of}
use Rattle.reading.proofs.call.ReadCall.show_head.Goals as goal

pub returns : goal.returns
unfolding shown_head work_head
returns c =
    let l = c.lay in
    (c.write.ensures ∙ ap write_of l.ensures.0, l.ensures.1)
