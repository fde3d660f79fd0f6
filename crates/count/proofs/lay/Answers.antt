-- `count::lay` meets its contract: each way to the end has its text.
-- Assumes nothing.
use mathlib.Core.Path.{refl}
use mathlib.Core.Logic.{inl, inr}
use Rattle.protocol.specs.Bytes.{over}
use Rattle.count.specs.Ending.{text_by, text_at}
use Rattle.count.proofs.lay.Goals as goal

pub returns-in-Whole : goal.returns-in-Whole
unfolding text_at text_by
returns-in-Whole c = elim c.in-Whole.is [ inl e ↦ rw e (c.lay.ensures.0, c.lay.ensures.2) | inr e ↦ rw e (c.lay.ensures.0, c.lay.ensures.2) ]

pub returns-in-Failed : goal.returns-in-Failed
unfolding text_at text_by over
returns-in-Failed c = elim c.in-Failed.is [ inl e ↦ rw e (refl, refl) | inr e ↦ rw e (refl, refl) ]
