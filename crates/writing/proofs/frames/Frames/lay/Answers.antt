-- `writing::frames::Frames::lay` meets its contract: each variant lays its own frame.
-- Assumes nothing.
use Rattle.writing.specs.Frames.{bytes_at}
use Rattle.writing.proofs.frames.Frames.lay.Goals as goal

pub returns-in-Plain : goal.returns-in-Plain
unfolding bytes_at
returns-in-Plain c = rw c.in-Plain.is c.lay_plain.ensures

pub returns-in-Register : goal.returns-in-Register
unfolding bytes_at
returns-in-Register c = rw c.in-Register.is c.lay_register.ensures

pub returns-in-MfgInfo : goal.returns-in-MfgInfo
unfolding bytes_at
returns-in-MfgInfo c = rw c.in-MfgInfo.is c.lay_info.ensures

pub returns-in-Mac : goal.returns-in-Mac
unfolding bytes_at
returns-in-Mac c = rw c.in-Mac.is c.lay_fixed.ensures

pub returns-in-AccessKey : goal.returns-in-AccessKey
unfolding bytes_at
returns-in-AccessKey c = rw c.in-AccessKey.is c.lay_half.ensures

pub returns-in-MfgInfoC : goal.returns-in-MfgInfoC
unfolding bytes_at
returns-in-MfgInfoC c = rw c.in-MfgInfoC.is c.lay_info_c.ensures

pub returns-in-DataFlash : goal.returns-in-DataFlash
unfolding bytes_at
returns-in-DataFlash c = rw c.in-DataFlash.is c.lay_block.ensures
