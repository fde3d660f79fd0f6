-- The case of a contract from the arm of a `match` that the code took, for the enums of the engines.
-- Assumes nothing.
use Prim.Native.Nat.{ℕ}
use mathlib.Core.Path.{◌≡◌}
use Rattle.std.specs.Prelude.{Option, Some, None}
use Rattle.protocol.proofs.Cases.{yes_lt, not_lt, yes_le, not_le, yes_eq, not_eq, yes_eq_of, not_eq_of, is_true, is_false, flag_true, flag_false, negated}
use Rattle.protocol.specs.declared.error.Answer.{Answer}
use Rattle.engine.specs.Pick.{case◌waiting◌ended◌, case◌acknowledged◌error◌timeout◌, case◌retry◌spent◌}
use Rattle.engine.specs.declared.budget.Budget.{Budget}
use Rattle.engine.specs.declared.bus.Outcome.{Outcome}
use Rattle.engine.specs.declared.bus.Outcome.TheVariants as outcome
use Rattle.engine.specs.declared.bus.Phase.{Phase}
use Rattle.engine.specs.declared.bus.Phase.TheVariants as phase

module _ {A : Type 0} where
  pub at_waiting : (p : Phase) (x a : A) (f : Answer → A) → p ≡ phase.Waiting → x ≡ a → x ≡ case◌waiting◌ended◌ p a f
  unfolding case◌waiting◌ended◌
  at_waiting p x a f e q = rw e q

  pub at_ended : (p : Phase) (x a : A) (f : Answer → A) (z : Answer) → p ≡ phase.Ended z → x ≡ f z → x ≡ case◌waiting◌ended◌ p a f
  unfolding case◌waiting◌ended◌
  at_ended p x a f z e q = rw e q

  pub at_ack : (o : Outcome) (x a b : A) (f : ℕ → A) → o ≡ outcome.Acknowledged → x ≡ a → x ≡ case◌acknowledged◌error◌timeout◌ o a f b
  unfolding case◌acknowledged◌error◌timeout◌
  at_ack o x a b f e q = rw e q

  pub at_error : (o : Outcome) (x a b : A) (f : ℕ → A) (z : ℕ) → o ≡ outcome.BusError z → x ≡ f z → x ≡ case◌acknowledged◌error◌timeout◌ o a f b
  unfolding case◌acknowledged◌error◌timeout◌
  at_error o x a b f z e q = rw e q

  pub at_timeout : (o : Outcome) (x a b : A) (f : ℕ → A) → o ≡ outcome.Timeout → x ≡ b → x ≡ case◌acknowledged◌error◌timeout◌ o a f b
  unfolding case◌acknowledged◌error◌timeout◌
  at_timeout o x a b f e q = rw e q

  -- of what a failed attempt came to, as a call gave it
  pub at_retry : (u v : Option (Budget × ℕ)) (x y : A) (f : Budget → ℕ → A) (b : Budget) (ms : ℕ) → u ≡ v → u ≡ Some (b, ms) → x ≡ f b ms → x ≡ case◌retry◌spent◌ v f y
  unfolding case◌retry◌spent◌
  at_retry u v x y f b ms p e q = rw (← p, e) q

  pub at_spent : (u v : Option (Budget × ℕ)) (x y : A) (f : Budget → ℕ → A) → u ≡ v → u ≡ None → x ≡ y → x ≡ case◌retry◌spent◌ v f y
  unfolding case◌retry◌spent◌
  at_spent u v x y f p e q = rw (← p, e) q

pub ruleset cases = (yes_lt, not_lt, yes_le, not_le, yes_eq, not_eq, yes_eq_of, not_eq_of, is_true, is_false, flag_true, flag_false, negated, at_waiting, at_ended, at_ack, at_error, at_timeout, at_retry, at_spent)
