-- `packs::digits::Digits::new` makes a table that keeps its rule: one test over all its entries, which antt computes.
-- Assumes nothing.
use Rattle.protocol.specs.Pick.{when◌then◌else◌}
use Rattle.hexadecimal.specs.Hex.{value_of}
use Rattle.smbus_pec.proofs.Every.{entry}
use Rattle.packs.proofs.digits.Digits.new.Goals as goal

pub invariant_of-result : goal.invariant_of-result
unfolding value_of when◌then◌else◌
invariant_of-result c = record { tabled = λ k h. rw (entry value_of) }
