-- `smbus_pec::pec_bitwise` meets its contract: before each byte, what is left of the string has the code of the whole.
use Rattle.smbus_pec.proofs.Laws.{passed_byte, passed_all}
use Rattle.smbus_pec.proofs.pec_bitwise.Goals as goal

pub loop-byte-preserved : goal.loop-byte-preserved
loop-byte-preserved c = passed_byte c.loop-byte.invariant c.loop-byte-test.true c.update_bitwise-c.ensures

pub returns : goal.returns
returns c = passed_all c.loop-byte.invariant c.loop-byte-test.false
