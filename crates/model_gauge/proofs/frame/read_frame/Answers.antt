-- `model_gauge::frame::read_frame` meets its contract: each return is a case of `read_frame`.
-- Assumes nothing.
use Rattle.engine.proofs.Cases.{cases}
use Rattle.model_gauge.specs.Frame.{read_frame}
use Rattle.model_gauge.proofs.frame.read_frame.Goals as goal
use Rattle.model_gauge.proofs.frame.read_frame.Goals.{else-frame-eq-MAC_CMD-via-then-frame-eq-MAC_CMD+else-whole, else-frame-eq-MAC_CMD-via-else-frame-eq-MAC_CMD}

pub returns-then-frame-lt4 : goal.returns-then-frame-lt4
unfolding read_frame
returns-then-frame-lt4 c = search cases

pub returns-then-whole : goal.returns-then-whole
unfolding read_frame
returns-then-whole c =
    let e = rw c.word.ensures at c.form_of.ensures in
    search cases

pub returns-else-frame-eq-MAC_CMD : goal.returns-else-frame-eq-MAC_CMD
unfolding read_frame
returns-else-frame-eq-MAC_CMD c =
    elim c.else-frame-eq-MAC_CMD.branch [
      | else-frame-eq-MAC_CMD-via-then-frame-eq-MAC_CMD+else-whole w ↦ search cases
      | else-frame-eq-MAC_CMD-via-else-frame-eq-MAC_CMD w ↦ search cases
    ]
