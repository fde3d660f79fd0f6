-- `count::after` meets its contract: each arm is a case of `led_by`.
-- Assumes nothing.
use mathlib.Core.Path.{refl}
use Rattle.count.specs.Ending.{led_by, sheet_by}
use Rattle.count.proofs.after.Goals as goal

pub returns-in-Bytes : goal.returns-in-Bytes
unfolding led_by sheet_by
returns-in-Bytes c = rw (c.in-Bytes.is, ← c.front.ensures) (refl, c.take.ensures)

pub returns-in-End : goal.returns-in-End
unfolding led_by sheet_by
returns-in-End c = rw c.in-End.is (refl, refl)

pub returns-in-Failed : goal.returns-in-Failed
unfolding led_by sheet_by
returns-in-Failed c = rw c.in-Failed.is (refl, refl)
