-- `courses::course::fate` meets its contract: each return is a case of `fate_of`.
-- Assumes nothing.
use native.Mathlib.Omega.{arith}
use Rattle.protocol.proofs.Cases.{not_eq}
use Rattle.engine.proofs.Cases.{cases}
use Rattle.courses.specs.Course.{fate_of}
use Rattle.courses.proofs.course.fate.Goals as goal

pub returns-in-0 : goal.returns-in-0
unfolding fate_of
returns-in-0 c = search cases

pub returns-in-1 : goal.returns-in-1
unfolding fate_of
returns-in-1 c = let one = c.in-1.is in not_eq _ _ _ _ _ (λ e. omega arith) (search cases)

pub returns-in_default : goal.returns-in_default
unfolding fate_of
returns-in_default c = let other = c.in_default in search cases
