-- The choice by what a call shows and by whether a run may start, in the words of the code. Each stays shut: proofs take it apart by the laws of
-- `proofs/Cases.antt`. Assumes nothing.
use Rattle.std.specs.Prelude.{Err, Ok, Result, ℕ, List}
use Rattle.protocol.specs.declared.error.Answer.{Answer}
use Rattle.engine.specs.Made.{Made, write, read}
use Rattle.engine.specs.declared.bus.Transfer.{Transfer}
use Rattle.engine.specs.declared.bus.Transfer.TheVariants as transfer

infixr 10 case◌sending◌to◌none◌
infixr 10 case◌refused◌admitted◌
-- the transfer that is shown, of a write the part of so many bytes that is sent; or none
unfoldable pub case◌sending◌to◌none◌ : {A : Type 0} → Transfer → (ℕ → List ℕ) → (Made → A) → A → A
case transfer.Write n sending part to f none x = f (write (part n))
case transfer.Read command count sending part to f none x = f (read command count)
case transfer.Refused a sending part to f none x = x
case transfer.Ended a sending part to f none x = x

unfoldable pub case◌refused◌admitted◌ : {A : Type 0} → Result (Unit {0}) Answer → (Answer → A) → A → A
case Err a refused f admitted x = f a
case Ok tt refused f admitted x = x
