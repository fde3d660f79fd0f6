-- `session::Desk::goes_on` meets its contract: each test is a case of `goes_on`.
-- Assumes nothing.
use mathlib.Core.Path.{◌≡◌, sym, ◌∙◌}
use mathlib.Core.Bool.{true, false, false≢true}
use native.Mathlib.Omega.{arith}
use lib.ListN.{length}
use lib.Dec.{ltb}
use Rattle.protocol.specs.Pick.{when◌then◌else◌}
use Rattle.session.specs.Desk.{longest_line, out_bytes}
use Rattle.session.specs.Session.{goes_on}
use Rattle.session.proofs.Laws.{room_left}
use Rattle.session.proofs.Desk.goes_on.Goals.{then-self, else-self}
use Rattle.session.proofs.Desk.goes_on.Goals as goal

pub returns-then-self-end : goal.returns-then-self-end
unfolding goes_on when◌then◌else◌
returns-then-self-end c =
    let s = c.args.self.now.session in
    let fits : length c.args.self.now.lent.out ≡ out_bytes = omega arith in
    elim c.if-self.branch [
      | then-self w ↦
          let inside : ltb s.at c.args.end ≡ true = sym w.value-is ∙ c.if-self-end.true in
          rw (w.if-self.true, inside, fits) (room_left s.laid longest_line out_bytes (omega arith))
      | else-self w ↦ absurd (false≢true (sym w.if-self.false ∙ sym w.value-is ∙ c.if-self-end.true))
    ]

pub returns-else-self-end : goal.returns-else-self-end
unfolding goes_on when◌then◌else◌
returns-else-self-end c =
    let s = c.args.self.now.session in
    elim c.if-self.branch [
      | then-self w ↦
          let outside : ltb s.at c.args.end ≡ false = sym w.value-is ∙ c.if-self-end.false in
          rw (w.if-self.true, outside) c.if-self-end.false
      | else-self w ↦ rw w.if-self.false c.if-self-end.false
    ]
