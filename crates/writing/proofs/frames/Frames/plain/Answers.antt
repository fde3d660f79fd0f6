-- `writing::frames::Frames::plain` meets its contract.
-- Assumes nothing.
use Rattle.writing.specs.Frames.{is_plain}
use Rattle.writing.proofs.Rest.{built}
use Rattle.writing.proofs.frames.Frames.plain.Goals as goal

pub returns-in-Plain : goal.returns-in-Plain
unfolding is_plain
returns-in-Plain c = rw c.in-Plain.is

pub returns-in_default : goal.returns-in_default
returns-in_default c = built _ c.in_default.not-Plain
