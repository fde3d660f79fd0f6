-- `requests::outcome::read` meets its contract: each arm is a case of `outcome_line`.
-- Assumes nothing.
use native.Mathlib.Omega.{arith}
use borrow.Author.Tests.{ltb-false}
use Rattle.requests.proofs.Said.{says_acknowledged, says_error, says_timeout, says_nothing}
use Rattle.requests.proofs.outcome.read.Goals as goal

pub returns-in-2 : goal.returns-in-2
returns-in-2 c = says_timeout c.args.line.now (omega arith) (omega arith)

pub returns-in-1 : goal.returns-in-1
returns-in-1 c = says_error c.args.line.now (omega arith) (omega arith)

pub returns-in-0 : goal.returns-in-0
returns-in-0 c = says_acknowledged c.args.line.now (grind (arith, ltb-false)) (omega arith) (grind (arith, ltb-false))

pub returns-in_default : goal.returns-in_default
returns-in_default c = says_nothing c.args.line.now (λ n m e. omega arith) (λ n e. omega arith) (λ n e. omega arith)

pub returns-in_default-2 : goal.returns-in_default-2
returns-in_default-2 c = says_nothing c.args.line.now (λ n m e. omega arith) (λ n e. omega arith) (λ n e. omega arith)

pub returns-in_default-3 : goal.returns-in_default-3
returns-in_default-3 c = says_nothing c.args.line.now (λ n m e. omega arith) (λ n e. omega arith) (λ n e. omega arith)

pub returns-in_default-4 : goal.returns-in_default-4
returns-in_default-4 c = says_nothing c.args.line.now (λ n m e. omega arith) (λ n e. omega arith) (λ n e. omega arith)

pub returns-in_default-5 : goal.returns-in_default-5
returns-in_default-5 c = says_nothing c.args.line.now (λ n m e. omega arith) (λ n e. omega arith) (λ n e. omega arith)
