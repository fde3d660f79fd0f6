-- `courses::course::sound` meets its contract: the bytes passed are sound, so the rest decides.
use mathlib.Core.Path.{sym, ◌∙◌}
use borrow.Author.Rules.{rules}
use Rattle.courses.proofs.Courses.{sound_stop, sound_on, sound_all}
use Rattle.courses.proofs.course.sound.Goals as goal

pub returns-then-byte-gt2 : goal.returns-then-byte-gt2
returns-then-byte-gt2 c = sym (sound_stop _ _ c.loop-byte-test.true c.if-byte-gt2.true) ∙ c.loop-byte.invariant.1

pub loop-byte-preserved : goal.loop-byte-preserved
loop-byte-preserved c = (search rules, sound_on _ _ c.loop-byte-test.true c.if-byte-gt2.false ∙ c.loop-byte.invariant.1)

pub returns : goal.returns
returns c = sym (sound_all _ _ c.loop-byte-test.false) ∙ c.loop-byte.invariant.1
