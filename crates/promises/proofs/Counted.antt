-- The count that an error gives is of the blocks acknowledged, since that is what each answer says of them.
-- Assumes nothing.
use Prim.Native.Nat.{ℕ, ◌*◌}
use mathlib.Core.Path.{◌≡◌, refl, subst}
use mathlib.Core.Logic.{inl, inr}
use mathlib.Core.List.{List}
use lib.ListN.{length}
use Rattle.protocol.specs.Pick.{when◌then◌else◌}
use Rattle.protocol.specs.Answer.{number_of}
use Rattle.protocol.specs.declared.common.Config.{Config}
use Rattle.protocol.specs.declared.error.Answer.{Answer}
use Rattle.protocol.specs.declared.error.Answer.TheVariants as answer
use Rattle.engine.specs.declared.bus.Transfer.TheVariants as transfer
use Rattle.promises.specs.Events.{Event}
use Rattle.promises.specs.Writes.{began, shows, run}
use Rattle.promises.specs.Demand3.{Answered, all_acked, some_acked, none_acked, Told, given_count, Accepted}
use Rattle.promises.proofs.Stopped.{stopped}

-- figures
pub counts : (given_count (answer.PartialDataFlashWrite 64) ≡ 64) × (given_count (answer.I2c 5) ≡ 0) × (given_count answer.Timeout ≡ 0)
unfolding when◌then◌else◌
counts = (refl, refl, refl)

-- each answer but 0 counts what was acknowledged
error_counts : (n i : ℕ) (a : Answer) → (number_of a ≡ 0 → ⊥) → Answered 32 n i a → given_count a ≡ i * 32
unfolding when◌then◌else◌
error_counts n i a error (all_acked z h) = absurd (error z)
error_counts n i a error (some_acked z e p h) = rw (z, e)
error_counts n i a error (none_acked (inl z) e) = rw (z, e)
error_counts n i a error (none_acked (inr z) e) = rw (z, e)

-- THE COUNT OF AN ERROR
pub counted : (config : Config) (address : ℕ) (payload work flash : List ℕ) → Accepted address payload work flash → (es : List Event) (a : Answer)
    → shows payload (run payload es (began config address payload work flash)) ≡ transfer.Ended a → (number_of a ≡ 0 → ⊥)
    → given_count a ≡ (run payload es (began config address payload work flash)).acked * 32
counted config address payload work flash c es a shown error =
    error_counts (length payload) _ a error (subst (Told 32 (length payload) _) shown (stopped config address payload work flash c es).told)
