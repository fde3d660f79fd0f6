-- `smbus_pec::update_bitwise` meets its contract. The loop's invariant: the state is as many bit steps of the start as there were turns.
use mathlib.Core.Path.{◌≡◌, ◌∙◌, ap}
use native.Mathlib.Numerals.{add-one}
use native.Mathlib.Omega.{arith}
use borrow.Author.Rules.{rules}
use Rattle.smbus_pec.specs.Pec.{bit_step, bit_steps, byte_step}
use Rattle.smbus_pec.proofs.update_bitwise.Goals as goal

pub loop-init : goal.loop-init
unfolding bit_steps
loop-init c = search rules

pub loop-preserved : goal.loop-preserved
unfolding bit_steps
loop-preserved c = (omega arith, rw add-one (c.step_bit-c.ensures ∙ ap bit_step c.loop.invariant.1))

pub returns : goal.returns
unfolding byte_step
returns c = let e : c.loop.counter ≡ 8 = omega arith in rw e at c.loop.invariant.1
