-- `writing::frames::Frames::count` meets its contract.
-- Assumes nothing.
use Rattle.writing.specs.Frames.{frame_count}
use Rattle.writing.proofs.Rest.{single}
use Rattle.writing.proofs.frames.Frames.count.Goals as goal

pub returns-in-AccessKey : goal.returns-in-AccessKey
unfolding frame_count
returns-in-AccessKey c = rw c.in-AccessKey.is

pub returns-in-MfgInfoC : goal.returns-in-MfgInfoC
unfolding frame_count
returns-in-MfgInfoC c = rw c.in-MfgInfoC.is

pub returns-in-DataFlash : goal.returns-in-DataFlash
unfolding frame_count
returns-in-DataFlash c = rw c.in-DataFlash.is c.blocks-in-DataFlash.ensures

pub returns-in_default : goal.returns-in_default
returns-in_default c = single _ _ c.in_default.not-AccessKey c.in_default.not-MfgInfoC c.in_default.not-DataFlash
