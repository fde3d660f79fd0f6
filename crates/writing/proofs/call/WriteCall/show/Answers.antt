-- `writing::call::WriteCall::show` meets its contract: what was laid is shown.
-- Assumes nothing.
use mathlib.Core.Path.{ap, ◌∙◌}
use Rattle.writing.specs.Writing.{due_bytes, shown_of, work_shown}
use Rattle.engine.specs.Bus.{write_of}
use Rattle.writing.proofs.call.WriteCall.show.Goals as goal

pub returns : goal.returns
unfolding shown_of work_shown due_bytes
returns c =
    let l = c.lay in
    (c.write.ensures ∙ ap write_of l.ensures.0, l.ensures.1)
