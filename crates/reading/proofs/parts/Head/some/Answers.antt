-- `reading::parts::Head::some` meets its contract.
-- Assumes nothing.
use Rattle.reading.specs.Parts.{has_head}
use Rattle.reading.proofs.Rest.{some}
use Rattle.reading.proofs.parts.Head.some.Goals as goal

pub returns-in-Bare : goal.returns-in-Bare
unfolding has_head
returns-in-Bare c = rw c.in-Bare.is

pub returns-in_default : goal.returns-in_default
returns-in_default c = some _ c.in_default.not-Bare
