-- `reading::parts::Head::first_address` meets its contract.
-- Assumes nothing.
use Rattle.reading.specs.Parts.{first_address}
use Rattle.reading.proofs.Rest.{elsewhere}
use Rattle.reading.proofs.parts.Head.first_address.Goals as goal

pub returns-in-DataFlash : goal.returns-in-DataFlash
unfolding first_address
returns-in-DataFlash c = rw c.in-DataFlash.is

pub returns-in_default : goal.returns-in_default
returns-in_default c = elsewhere _ c.in_default.not-DataFlash
