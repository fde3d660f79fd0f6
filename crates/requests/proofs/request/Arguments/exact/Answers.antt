-- `requests::request::Arguments::exact` meets its contract: each arm is a case of `exact_of`.
-- Assumes nothing.
use Rattle.protocol.proofs.Cases.{cases}
use Rattle.requests.specs.Request.{exact_of}
use Rattle.requests.proofs.request.Arguments.exact.Goals as goal

pub returns-then-self-at : goal.returns-then-self-at
unfolding exact_of
returns-then-self-at c = search cases

pub returns : goal.returns
unfolding exact_of
returns c = search cases
