-- `model_gauge::gauge::Gauge::hear` meets its contract: each return is a case of `heard_frame`.
-- Assumes nothing.
use mathlib.Core.Path.{refl, sym, ◌∙◌}
use Rattle.protocol.specs.Pick.{when◌then◌else◌}
use Rattle.model_gauge.specs.Gauge.{heard_frame, acts}
use Rattle.model_gauge.proofs.Laws.{neither}
use Rattle.model_gauge.proofs.gauge.Gauge.hear.Goals as goal

pub returns-in_default-form : goal.returns-in_default-form
unfolding acts heard_frame
returns-in_default-form c = rw (← c.read_frame-form.ensures, neither c.read_frame-form.result c.in_default.not-BlockWrite c.in_default-form.not-Address) (c.tells.ensures, refl)

pub returns-then-check_df_range : goal.returns-then-check_df_range
unfolding acts heard_frame when◌then◌else◌
returns-then-check_df_range c = rw (← c.read_frame-form.ensures, c.in-Address.is, sym c.check_df_range.ensures ∙ c.if-check_df_range.true) (c.tells-then-check_df_range.ensures, refl)

pub returns-in_default : goal.returns-in_default
unfolding acts heard_frame when◌then◌else◌
returns-in_default c = rw (← c.read_frame-form.ensures, c.in-Address.is, sym c.check_df_range.ensures ∙ c.if-check_df_range.false) (c.tells-in_default.ensures, refl)

pub returns-then-check_df_range-2 : goal.returns-then-check_df_range-2
unfolding acts heard_frame when◌then◌else◌
returns-then-check_df_range-2 c = rw (← c.read_frame-form.ensures, c.in-BlockWrite.is, sym c.check_df_range-2.ensures ∙ c.if-check_df_range-2.true) (c.tells-then-check_df_range-2.ensures, rw (c.block.ensures, c.offset.ensures) at c.store_block.ensures)

pub returns-else-check_df_range-2 : goal.returns-else-check_df_range-2
unfolding acts heard_frame when◌then◌else◌
returns-else-check_df_range-2 c = rw (← c.read_frame-form.ensures, c.in-BlockWrite.is, sym c.check_df_range-2.ensures ∙ c.if-check_df_range-2.false) (c.tells-else-check_df_range-2.ensures, refl)
