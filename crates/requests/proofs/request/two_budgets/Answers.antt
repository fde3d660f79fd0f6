-- `requests::request::two_budgets` meets its contract: its test is that of `two_budgets`.
-- Assumes nothing.
use native.Mathlib.Omega.{arith}
use Rattle.requests.specs.Request.{two_budgets}
use Rattle.requests.proofs.Laws.{later_bit}
use Rattle.requests.proofs.request.two_budgets.Goals as goal

pub returns : goal.returns
unfolding two_budgets
returns c = later_bit c.args.flags 2 (omega arith)
