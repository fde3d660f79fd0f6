-- `session::Desk::end` meets its contract: it lays the line that the end of the input leads to, unless the run is over.
-- Assumes nothing.
use mathlib.Core.Path.{◌≡◌, sym, ap, ◌∙◌}
use mathlib.Core.Bool.{true, false}
use native.Mathlib.Omega.{arith}
use Rattle.protocol.specs.Pick.{when◌then◌else◌}
use Rattle.session.specs.declared.Desk.{Desk}
use Rattle.session.specs.Session.{at_byte, close_session, close_lent, end_of, end_session, end_out}
use Rattle.session.specs.Loop.{desk_at}
use Rattle.session.proofs.Desk.end.Goals as goal

pub close-requires : goal.close-requires
unfolding at_byte desk_at
close-requires c =
    let none : c.written.new.self.session.laid ≡ 0 = ap (λ (v : Desk). v.session.laid) c.written.ensures.0 in
    omega arith

pub returns-then-self : goal.returns-then-self
unfolding at_byte close_session close_lent end_of end_session end_out desk_at when◌then◌else◌
returns-then-self c =
    let d = c.args.self.now in
    let e = c.written.ensures.0 in
    let on : d.session.on ≡ true = sym (ap (λ (v : Desk). v.session.on) e) ∙ c.if-self.true in
    let s = c.close.ensures in
    rw (on, s.0, s.1, c.front-line.ensures, e)

pub returns-else-self : goal.returns-else-self
unfolding at_byte close_session close_lent end_of end_session end_out desk_at when◌then◌else◌
returns-else-self c =
    let d = c.args.self.now in
    let e = c.written.ensures.0 in
    let off : d.session.on ≡ false = sym (ap (λ (v : Desk). v.session.on) e) ∙ c.if-self.false in
    e ∙ rw off
