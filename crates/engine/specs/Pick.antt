-- The choice by an enum of the engines, in the words of the code. Each stays shut: proofs take it apart by the laws of `proofs/Cases.antt`.
-- Assumes nothing.
use Rattle.std.specs.Prelude.{ℕ, Option, Some, None}
use Rattle.protocol.specs.declared.error.Answer.{Answer}
use Rattle.engine.specs.declared.budget.Budget.{Budget}
use Rattle.engine.specs.declared.bus.Outcome.{Outcome}
use Rattle.engine.specs.declared.bus.Outcome.TheVariants as outcome
use Rattle.engine.specs.declared.bus.Phase.{Phase}
use Rattle.engine.specs.declared.bus.Phase.TheVariants as phase

infixr 10 case◌waiting◌ended◌
infixr 10 case◌acknowledged◌error◌timeout◌
infixr 10 case◌retry◌spent◌
unfoldable pub case◌waiting◌ended◌ : {A : Type 0} → Phase → A → (Answer → A) → A
case phase.Waiting waiting x ended f = x
case phase.Ended a waiting x ended f = f a

unfoldable pub case◌acknowledged◌error◌timeout◌ : {A : Type 0} → Outcome → A → (ℕ → A) → A → A
case outcome.Acknowledged acknowledged x error f timeout y = x
case outcome.BusError code acknowledged x error f timeout y = f code
case outcome.Timeout acknowledged x error f timeout y = y

unfoldable pub case◌retry◌spent◌ : {A : Type 0} → Option (Budget × ℕ) → (Budget → ℕ → A) → A → A
case Some (b, ms) retry f spent x = f b ms
case None retry f spent x = x
