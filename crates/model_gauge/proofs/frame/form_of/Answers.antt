-- `model_gauge::frame::form_of` meets its contract.
-- Assumes nothing.
use mathlib.Core.Path.{refl}
use native.Mathlib.Omega.{arith}
use Rattle.protocol.proofs.Cases.{cases, not_eq, yes_lt, not_lt}
use Rattle.model_gauge.specs.Frame.{form_of}
use Rattle.model_gauge.proofs.frame.form_of.Goals as goal

pub returns-in-2 : goal.returns-in-2
unfolding form_of
returns-in-2 c = search cases

pub returns-in-3-to-34 : goal.returns-in-3-to-34
unfolding form_of
returns-in-3-to-34 c = let r = c.in-3-to-34 in not_eq _ _ _ _ _ (λ e. omega arith) (not_lt _ _ _ _ _ (omega arith) (not_lt _ _ _ _ _ (omega arith) refl))

pub returns-in_default : goal.returns-in_default
unfolding form_of
returns-in_default c = let r = c.in_default in not_eq _ _ _ _ _ (λ e. omega arith) (yes_lt _ _ _ _ _ (omega arith) refl)

pub returns-in_default-2 : goal.returns-in_default-2
unfolding form_of
returns-in_default-2 c = let r = c.in_default in not_eq _ _ _ _ _ (λ e. omega arith) (not_lt _ _ _ _ _ (omega arith) (yes_lt _ _ _ _ _ (omega arith) refl))
