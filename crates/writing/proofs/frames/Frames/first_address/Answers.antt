-- `writing::frames::Frames::first_address` meets its contract.
-- Assumes nothing.
use Rattle.writing.specs.Frames.{first_address}
use Rattle.writing.proofs.Rest.{elsewhere}
use Rattle.writing.proofs.frames.Frames.first_address.Goals as goal

pub returns-in-DataFlash : goal.returns-in-DataFlash
unfolding first_address
returns-in-DataFlash c = rw c.in-DataFlash.is

pub returns-in_default : goal.returns-in_default
returns-in_default c = (elsewhere _ c.in_default.not-DataFlash).1
