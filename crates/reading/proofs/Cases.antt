-- The case of a contract from the arm of a `match` on a verdict, as a call gave it.
-- Assumes nothing.
use mathlib.Core.Path.{◌≡◌}
use Rattle.protocol.specs.declared.error.Answer.{Answer}
use Rattle.reading.specs.Pick.{case◌refused◌fault◌headed◌block◌}
use Rattle.reading.specs.declared.call.Verdict.{Verdict}
use Rattle.reading.specs.declared.call.Verdict.TheVariants as verdict

module _ {A : Type 0} where
  pub at_refused : (u v : Verdict) (x y z : A) (f g : Answer → A) (a : Answer) → u ≡ v → u ≡ verdict.Refused a → x ≡ f a → x ≡ case◌refused◌fault◌headed◌block◌ v f g y z
  unfolding case◌refused◌fault◌headed◌block◌
  at_refused u v x y z f g a p e q = rw (← p, e) q

  pub at_failed : (u v : Verdict) (x y z : A) (f g : Answer → A) (a : Answer) → u ≡ v → u ≡ verdict.Failed a → x ≡ g a → x ≡ case◌refused◌fault◌headed◌block◌ v f g y z
  unfolding case◌refused◌fault◌headed◌block◌
  at_failed u v x y z f g a p e q = rw (← p, e) q

  pub at_head : (u v : Verdict) (x y z : A) (f g : Answer → A) → u ≡ v → u ≡ verdict.Head → x ≡ y → x ≡ case◌refused◌fault◌headed◌block◌ v f g y z
  unfolding case◌refused◌fault◌headed◌block◌
  at_head u v x y z f g p e q = rw (← p, e) q

  pub at_block : (u v : Verdict) (x y z : A) (f g : Answer → A) → u ≡ v → u ≡ verdict.Block → x ≡ z → x ≡ case◌refused◌fault◌headed◌block◌ v f g y z
  unfolding case◌refused◌fault◌headed◌block◌
  at_block u v x y z f g p e q = rw (← p, e) q

pub ruleset verdicts = (at_refused, at_failed, at_head, at_block)
