-- `requests::request::header_bytes` meets its contract: each arm is a case of `header_bytes`.
-- Assumes nothing.
use Rattle.protocol.proofs.Cases.{cases}
use Rattle.requests.specs.Request.{header_bytes}
use Rattle.requests.proofs.request.header_bytes.Goals as goal

pub returns-then-two_budgets : goal.returns-then-two_budgets
unfolding header_bytes
returns-then-two_budgets c = search cases

pub returns-else-two_budgets : goal.returns-else-two_budgets
unfolding header_bytes
returns-else-two_budgets c = search cases
