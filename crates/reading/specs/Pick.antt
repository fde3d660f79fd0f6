-- The choice by a verdict, in the words of the code. It stays shut: proofs take it apart by the laws of `proofs/Cases.antt`.
-- Assumes nothing.
use Rattle.protocol.specs.declared.error.Answer.{Answer}
use Rattle.reading.specs.declared.call.Verdict.{Verdict}
use Rattle.reading.specs.declared.call.Verdict.TheVariants as verdict

infixr 10 case◌refused◌fault◌headed◌block◌
unfoldable pub case◌refused◌fault◌headed◌block◌ : {A : Type 0} → Verdict → (Answer → A) → (Answer → A) → A → A → A
case verdict.Refused a refused f fault g headed x block y = f a
case verdict.Failed a refused f fault g headed x block y = g a
case verdict.Head refused f fault g headed x block y = x
case verdict.Block refused f fault g headed x block y = y
