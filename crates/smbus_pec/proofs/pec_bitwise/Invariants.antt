-- `smbus_pec::pec_bitwise` meets its contract: before each byte, what is left of the string has the code of the whole.
-- Assumes nothing.
use Rattle.smbus_pec.proofs.Laws.{Passed}
use Rattle.smbus_pec.proofs.pec_bitwise.Given as goal

abbrev pub invariant-loop-byte : goal.invariant-loop-byte
invariant-loop-byte l = Passed l.crc l.s l.c l.byte-index
