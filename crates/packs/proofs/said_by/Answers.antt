-- `packs::said_by` meets its contract: the bytes are those of the line's number, and each arm is a case of `said_of`.
-- Assumes nothing.
use native.Mathlib.Omega.{arith}
use Rattle.std.proofs.lemmas.Grind.{common_steps}
use Rattle.packs.proofs.Laws.{says_cycles, says_answer, says_none}
use Rattle.packs.proofs.said_by.Goals as goal

pub returns-in-1 : goal.returns-in-1
returns-in-1 c = says_cycles c.args.line _ (grind (arith, common_steps)) (grind (arith, common_steps)) (grind (arith, common_steps))

pub returns-in-0 : goal.returns-in-0
returns-in-0 c = says_answer c.args.line _ (grind (arith, common_steps)) (grind (arith, common_steps)) (grind (arith, common_steps))

pub returns-in_default : goal.returns-in_default
returns-in_default c = says_none c.args.line (grind (arith, common_steps)) (grind (arith, common_steps))

pub returns-in_default-2 : goal.returns-in_default-2
returns-in_default-2 c = says_none c.args.line (grind (arith, common_steps)) (grind (arith, common_steps))

pub returns-in_default-3 : goal.returns-in_default-3
returns-in_default-3 c = says_none c.args.line (grind (arith, common_steps)) (grind (arith, common_steps))

pub returns-in_default-4 : goal.returns-in_default-4
returns-in_default-4 c = says_none c.args.line (grind (arith, common_steps)) (grind (arith, common_steps))

pub returns-in_default-5 : goal.returns-in_default-5
returns-in_default-5 c = says_none c.args.line (grind (arith, common_steps)) (grind (arith, common_steps))
