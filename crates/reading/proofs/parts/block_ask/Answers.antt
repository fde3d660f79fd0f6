-- `reading::parts::block_ask` meets its contract: each return is a case of `block_ask`.
-- Assumes nothing.
use Rattle.engine.proofs.Cases.{cases}
use Rattle.reading.specs.Parts.{block_ask}
use Rattle.reading.proofs.parts.block_ask.Goals as goal

pub returns-then-pec : goal.returns-then-pec
unfolding block_ask
returns-then-pec c = search cases

pub returns-else-pec : goal.returns-else-pec
unfolding block_ask
returns-else-pec c =
    let e = rw c.min.ensures at c.mac-else-pec.ensures in
    search cases
