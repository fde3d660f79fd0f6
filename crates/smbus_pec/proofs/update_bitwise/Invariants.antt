-- `smbus_pec::update_bitwise` meets its contract. The loop's invariant: the state is as many bit steps of the start as there were turns.
-- Assumes nothing.
use mathlib.Core.Path.{◌≡◌}
use Prim.Native.Nat.{◌≤◌, ◌-◌}
use lib.Bits.{bit_xor}
use Rattle.smbus_pec.specs.Pec.{bit_steps}
use Rattle.smbus_pec.proofs.update_bitwise.Given as goal

abbrev pub invariant-loop : goal.invariant-loop
invariant-loop l = (l.counter ≤ 8) × (l.c ≡ bit_steps l.counter (bit_xor l.crc l.byte))

abbrev pub decreases-loop : goal.decreases-loop
decreases-loop l = 8 - l.counter
