-- `packs::Reader::is_refused` meets its contract: the test is the definition's.
-- Assumes nothing.
use mathlib.Core.Path.{refl}
use Rattle.packs.specs.Count.{is_refused}
use Rattle.packs.proofs.Reader.is_refused.Goals as goal

pub returns : goal.returns
unfolding is_refused
returns c = refl
