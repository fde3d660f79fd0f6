-- `smbus_pec::look_up` meets its contract: the sum of two bytes is a state, and the table's rule is what the entry there is.
-- Assumes nothing.
use lib.Bits.{xor_lt}
use Rattle.smbus_pec.specs.Pec.{byte_step}
use Rattle.smbus_pec.proofs.look_up.Goals as goal

pub returns : goal.returns
unfolding byte_step
returns c = c.requires _ (xor_lt 8 _ _ c.ranges.crc.fits c.ranges.byte.fits)
