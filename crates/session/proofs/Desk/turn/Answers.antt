-- `session::Desk::turn` meets its contract: each arm is a case of `turn_by`.
-- Assumes nothing.
use mathlib.Core.Path.{refl}
use Rattle.session.specs.Session.{used_up}
use Rattle.session.proofs.Laws.{took_here, took_held, took_more, took_long}
use Rattle.session.proofs.Desk.turn.Goals as goal

pub returns-in-Here : goal.returns-in-Here
returns-in-Here c =
    let t = c.take.ensures in
    took_here _ _ _ _ t.0 t.1 _ _ _ _ _ c.in-Here.is c.block-line.ensures c.answer.ensures

pub returns-in-Held : goal.returns-in-Held
returns-in-Held c =
    let t = c.take.ensures in
    took_held _ _ _ _ t.0 t.1 _ _ _ _ _ c.in-Held.is c.front-line.ensures c.answer-in-Held.ensures

pub returns-in-More : goal.returns-in-More
unfolding used_up
returns-in-More c =
    let t = c.take.ensures in
    took_more _ _ _ _ t.0 t.1 _ _ c.in-More.is refl

pub returns-in-Long : goal.returns-in-Long
returns-in-Long c =
    let t = c.take.ensures in
    took_long _ _ _ _ t.0 t.1 _ _ c.in-Long.is c.close.ensures
