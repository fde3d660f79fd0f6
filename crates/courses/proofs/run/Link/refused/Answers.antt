-- `courses::run::Link::refused` meets its contract: the fields are those of `refused_of`.
-- Assumes nothing.
use mathlib.Core.Path.{refl}
use Rattle.courses.specs.Run.{refused_of}
use Rattle.courses.proofs.run.Link.refused.Goals as goal

pub returns : goal.returns
unfolding refused_of
returns c = refl
