-- The case of a contract from the arm of a `match` on what a call shows, and on whether a run may start, as a call gave it.
-- Assumes nothing.
use Rattle.std.specs.Prelude.{Err, Ok, Result}
use Prim.Native.Nat.{ℕ}
use mathlib.Core.Path.{◌≡◌}
use mathlib.Core.List.{List}
use Rattle.protocol.specs.declared.error.Answer.{Answer}
use Rattle.engine.specs.Made.{Made, write, read}
use Rattle.engine.specs.declared.bus.Transfer.{Transfer}
use Rattle.engine.specs.declared.bus.Transfer.TheVariants as transfer
use Rattle.courses.specs.Pick.{case◌sending◌to◌none◌, case◌refused◌admitted◌}

module _ {A : Type 0} where
  pub at_write : (u v : Transfer) (x y : A) (part : ℕ → List ℕ) (f : Made → A) (n : ℕ) → u ≡ v → u ≡ transfer.Write n → x ≡ f (write (part n)) → x ≡ case◌sending◌to◌none◌ v part f y
  unfolding case◌sending◌to◌none◌
  at_write u v x y part f n p e q = rw (← p, e) q

  pub at_read : (u v : Transfer) (x y : A) (part : ℕ → List ℕ) (f : Made → A) (m n : ℕ) → u ≡ v → u ≡ transfer.Read m n → x ≡ f (read m n) → x ≡ case◌sending◌to◌none◌ v part f y
  unfolding case◌sending◌to◌none◌
  at_read u v x y part f m n p e q = rw (← p, e) q

  pub at_refused : (u v : Transfer) (x y : A) (part : ℕ → List ℕ) (f : Made → A) (a : Answer) → u ≡ v → u ≡ transfer.Refused a → x ≡ y → x ≡ case◌sending◌to◌none◌ v part f y
  unfolding case◌sending◌to◌none◌
  at_refused u v x y part f a p e q = rw (← p, e) q

  pub at_ended : (u v : Transfer) (x y : A) (part : ℕ → List ℕ) (f : Made → A) (a : Answer) → u ≡ v → u ≡ transfer.Ended a → x ≡ y → x ≡ case◌sending◌to◌none◌ v part f y
  unfolding case◌sending◌to◌none◌
  at_ended u v x y part f a p e q = rw (← p, e) q

  pub run_refused : (u v : Result (Unit {0}) Answer) (x y : A) (f : Answer → A) (a : Answer) → u ≡ v → u ≡ Err a → x ≡ f a → x ≡ case◌refused◌admitted◌ v f y
  unfolding case◌refused◌admitted◌
  run_refused u v x y f a p e q = rw (← p, e) q

  pub run_admitted : (u v : Result (Unit {0}) Answer) (x y : A) (f : Answer → A) → u ≡ v → u ≡ Ok tt → x ≡ y → x ≡ case◌refused◌admitted◌ v f y
  unfolding case◌refused◌admitted◌
  run_admitted u v x y f p e q = rw (← p, e) q
