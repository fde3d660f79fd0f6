-- `hexadecimal::pair` meets its contract: a byte comes of two digits, and else none.
-- Assumes nothing.
use mathlib.Core.Path.{sym, ◌∙◌}
use native.Mathlib.Omega.{arith}
use Rattle.hexadecimal.proofs.Laws.{high_bad, low_bad, both_good, below_limit}
use Rattle.hexadecimal.proofs.pair.Goals as goal

pub returns-in_err-value : goal.returns-in_err-value
returns-in_err-value c = c.from_residual.ensures ∙ high_bad c.args.high c.args.low (sym c.value.ensures ∙ c.in_err-value.was)

pub overflow_mul-result : goal.overflow_mul-result
overflow_mul-result c = omega (arith, below_limit 16 _ _ (sym c.value.ensures ∙ c.in_ok-value.was))

pub returns-in_err-value-2 : goal.returns-in_err-value-2
returns-in_err-value-2 c =
    c.from_residual-in_err-value-2.ensures ∙ low_bad c.args.high c.args.low _ (sym c.value.ensures ∙ c.in_ok-value.was) (sym c.value-2.ensures ∙ c.in_err-value-2.was)

pub overflow_add-result : goal.overflow_add-result
overflow_add-result c = omega (arith, below_limit 16 _ _ (sym c.value.ensures ∙ c.in_ok-value.was), below_limit 16 _ _ (sym c.value-2.ensures ∙ c.in_ok-value-2.was))

pub returns : goal.returns
returns c = both_good c.args.high c.args.low _ _ (sym c.value.ensures ∙ c.in_ok-value.was) (sym c.value-2.ensures ∙ c.in_ok-value-2.was)
