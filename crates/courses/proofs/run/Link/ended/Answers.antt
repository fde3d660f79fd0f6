-- `courses::run::Link::ended` meets its contract: the fields are those of `ended_of`.
-- Assumes nothing.
use Rattle.courses.specs.Run.{ended_of}
use Rattle.courses.proofs.run.Link.ended.Goals as goal

pub returns : goal.returns
unfolding ended_of
returns c = rw (c.end_of.ensures, c.phase.ensures, c.fits-fits.ensures)
