-- `writing::frames::Frames::flash` meets its contract.
-- Assumes nothing.
use Rattle.writing.specs.Frames.{is_flash}
use Rattle.writing.proofs.Rest.{elsewhere}
use Rattle.writing.proofs.frames.Frames.flash.Goals as goal

pub returns-in-DataFlash : goal.returns-in-DataFlash
unfolding is_flash
returns-in-DataFlash c = rw c.in-DataFlash.is

pub returns-in_default : goal.returns-in_default
returns-in_default c = (elsewhere _ c.in_default.not-DataFlash).0
