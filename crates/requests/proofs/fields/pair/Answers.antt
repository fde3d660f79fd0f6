-- `requests::fields::pair` meets its contract: it is what `byte` gives at two places.
-- Assumes nothing.
use Rattle.requests.specs.Fields.{pair_at}
use Rattle.requests.proofs.fields.pair.Goals as goal

pub returns : goal.returns
unfolding pair_at
returns c = rw (c.from_le_bytes.ensures, c.byte.ensures, c.byte-2.ensures)
