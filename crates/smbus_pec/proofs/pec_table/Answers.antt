-- `smbus_pec::pec_table` meets its contract: before each byte, what is left of the string has the code of the whole, and the table is as it was.
use Rattle.smbus_pec.proofs.Laws.{passed_byte, passed_all}
use Rattle.smbus_pec.proofs.pec_table.Goals as goal

pub loop-byte-preserved : goal.loop-byte-preserved
loop-byte-preserved c = passed_byte c.loop-byte.invariant c.loop-byte-test.true c.look_up-c.ensures

pub returns : goal.returns
returns c = passed_all c.loop-byte.invariant c.loop-byte-test.false
