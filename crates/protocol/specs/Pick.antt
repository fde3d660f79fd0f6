-- The choice by a test, in the words of the code. It stays shut, so that a proof takes it apart by the laws of `proofs/Cases.antt`.
-- Assumes nothing.
use Rattle.std.specs.Prelude.{Bool, true, false}

infixr 10 when◌then◌else◌
unfoldable pub when◌then◌else◌ : {A : Type 0} → Bool → A → A → A
when true then x else y = x
when false then x else y = y
