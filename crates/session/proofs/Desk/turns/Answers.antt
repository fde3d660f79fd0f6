-- `session::Desk::turns` meets its contract: the turns made and those to come are all of them.
-- Assumes nothing.
use mathlib.Core.Path.{◌≡◌, sym, ap, ◌∙◌}
use native.Mathlib.Omega.{arith}
use Rattle.session.specs.declared.Desk.{Desk}
use Rattle.session.specs.Session.{turn_of}
use Rattle.session.proofs.Laws.{turn_uses, goes_on_inside, leads_on, leads_end}
use Rattle.session.proofs.Desk.turns.Goals as goal

pub turn-requires : goal.turn-requires
turn-requires c =
    let g = goes_on_inside _ _ _ _ _ (sym c.goes_on.ensures ∙ c.loop-self-test.true) in
    omega (arith, g.2)

pub loop-self-smaller : goal.loop-self-smaller
loop-self-smaller c =
    let a = c.args in
    let l = c.loop-self in
    let g = goes_on_inside _ _ _ _ _ (sym c.goes_on.ensures ∙ c.loop-self-test.true) in
    let e : c.turn.new.self.session.at ≡ (turn_of a.chunk.now l.self).session.at = ap (λ (v : Desk). v.session.at) c.turn.ensures in
    omega (arith, g.1, turn_uses a.chunk.now l.self g.1, e)

pub loop-self-preserved : goal.loop-self-preserved
loop-self-preserved c = leads_on _ _ _ _ (sym c.goes_on.ensures ∙ c.loop-self-test.true) c.turn.ensures c.loop-self.invariant

pub returns : goal.returns
returns c = leads_end _ _ _ (sym c.goes_on.ensures ∙ c.loop-self-test.false) c.loop-self.invariant
