-- `hexadecimal::digit` meets its contract: each arm is a case of `digit_of`.
-- Assumes nothing.
use Rattle.hexadecimal.proofs.Cases.{cases}
use Rattle.hexadecimal.specs.Hex.{digit_of}
use Rattle.hexadecimal.proofs.digit.Goals as goal

pub returns-then-value-lt10 : goal.returns-then-value-lt10
unfolding digit_of
returns-then-value-lt10 c = search cases

pub returns-else-value-lt10 : goal.returns-else-value-lt10
unfolding digit_of
returns-else-value-lt10 c = search cases
