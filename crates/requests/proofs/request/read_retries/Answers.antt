-- `requests::request::read_retries` meets its contract: each arm is a case of `read_retries`.
-- Assumes nothing.
use Rattle.protocol.proofs.Cases.{cases}
use Rattle.requests.specs.Request.{read_retries}
use Rattle.requests.proofs.Laws.{same_budgets}
use Rattle.requests.proofs.request.read_retries.Goals as goal

pub returns-then-two_budgets : goal.returns-then-two_budgets
unfolding read_retries
returns-then-two_budgets c = search (cases, same_budgets)

pub returns-else-two_budgets : goal.returns-else-two_budgets
unfolding read_retries
returns-else-two_budgets c = search (cases, same_budgets)
