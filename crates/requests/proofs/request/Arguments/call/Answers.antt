-- `requests::request::Arguments::call` meets its contract: each arm is a case of `called_of`.
-- Assumes nothing.
use Rattle.protocol.proofs.Cases.{cases}
use Rattle.requests.specs.Request.{called_of}
use Rattle.requests.proofs.request.Arguments.call.Goals.{then-len-gt-MOST_BYTES-via-then-len-gt-MOST_BYTES, then-len-gt-MOST_BYTES-via-else-len-gt-MOST_BYTES+then-self-at, then-len-gt-MOST_BYTES-via-else-len-gt-MOST_BYTES+else-self-at+then-self-at-gt-MOST_BYTES}
use Rattle.requests.proofs.request.Arguments.call.Goals as goal

pub returns-then-len-gt-MOST_BYTES : goal.returns-then-len-gt-MOST_BYTES
unfolding called_of
returns-then-len-gt-MOST_BYTES c =
    elim c.then-len-gt-MOST_BYTES.branch [
      | then-len-gt-MOST_BYTES-via-then-len-gt-MOST_BYTES w ↦ search cases
      | then-len-gt-MOST_BYTES-via-else-len-gt-MOST_BYTES+then-self-at w ↦ search cases
      | then-len-gt-MOST_BYTES-via-else-len-gt-MOST_BYTES+else-self-at+then-self-at-gt-MOST_BYTES w ↦ search cases
    ]

pub returns : goal.returns
unfolding called_of
returns c = search cases
