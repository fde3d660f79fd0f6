-- `requests::request::header_of` meets its contract: its fields are those of `header_of`.
-- Assumes nothing.
use Rattle.requests.specs.Request.{header_of}
use Rattle.requests.proofs.request.header_of.Goals as goal

pub returns : goal.returns
unfolding header_of
returns c = rw (c.header_bytes.ensures, c.byte.ensures, c.config.ensures)
