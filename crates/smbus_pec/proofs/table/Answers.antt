-- `smbus_pec::table` meets its contract, the table's rule: one test over all its entries, which antt computes.
-- Assumes nothing.
use Rattle.smbus_pec.specs.Pec.{bit_step, bit_steps}
use Rattle.smbus_pec.proofs.Every.{entry}
use Rattle.smbus_pec.proofs.table.Goals as goal

pub returns : goal.returns
unfolding bit_step bit_steps
returns c = λ k h. rw (entry (bit_steps 8))
