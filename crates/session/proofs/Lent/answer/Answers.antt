-- `session::Lent::answer` meets its contract: the run goes on after a transfer, and not after the last line.
-- Assumes nothing.
use Prim.Native.Nat.{◌-◌}
use mathlib.Core.Path.{◌≡◌, sym, ap, ◌∙◌}
use native.Mathlib.Omega.{arith}
use lib.ListN.{length}
use Rattle.printing.specs.Printing.{out_printed}
use Rattle.dialogue.specs.Dialogue.{bytes_said, answer_of}
use Rattle.dialogue.specs.declared.Turned.{Turned}
use Rattle.session.specs.Desk.{out_bytes}
use Rattle.session.specs.Session.{said_session, spoken_session, laid_out, answer_session, answer_lent}
use Rattle.session.proofs.Laws.{part_turned, part_back, asked_room, last_room}
use Rattle.session.proofs.Lent.answer.Goals as goal

pub overflow_add-session : goal.overflow_add-session
overflow_add-session c =
    let a = c.args in
    let d = a.self.now in
    let fits : length d.out ≡ out_bytes = omega arith in
    let s = answer_of a.session.now.run a.line.now d.request d.outcome d.buffer in
    let t = part_turned d.out a.session.now.laid out_bytes fits s c.answer-turned.result c.answer-turned.ensures.0 in
    let h = asked_room s.saying (length d.out - a.session.now.laid) c.in-Asked.n (sym c.in-Asked.is ∙ ap (λ (x : Turned). x.said) t) in
    omega (arith, c.requires)

pub overflow_add-session-in-Last : goal.overflow_add-session-in-Last
overflow_add-session-in-Last c =
    let a = c.args in
    let d = a.self.now in
    let fits : length d.out ≡ out_bytes = omega arith in
    let s = answer_of a.session.now.run a.line.now d.request d.outcome d.buffer in
    let t = part_turned d.out a.session.now.laid out_bytes fits s c.answer-turned.result c.answer-turned.ensures.0 in
    let h = last_room s.saying (length d.out - a.session.now.laid) c.in-Last.n (sym c.in-Last.is ∙ ap (λ (x : Turned). x.said) t) in
    omega (arith, c.requires)

pub returns-in-Asked : goal.returns-in-Asked
unfolding answer_session answer_lent spoken_session said_session laid_out
returns-in-Asked c =
    let a = c.args in
    let d = a.self.now in
    let fits : length d.out ≡ out_bytes = omega arith in
    let e = c.answer-turned.ensures in
    let s = answer_of a.session.now.run a.line.now d.request d.outcome d.buffer in
    let t = part_turned d.out a.session.now.laid out_bytes fits s c.answer-turned.result e.0 in
    let u = ap (λ (x : Turned). x.said) t in
    let v = ap (λ (x : Turned). x.run) t in
    (rw (← u, c.in-Asked.is, ← v), rw (e.1, e.2, e.3, part_back d.out a.session.now.laid out_bytes fits (out_printed (bytes_said s.saying)) _ e.4))

pub returns-in-Last : goal.returns-in-Last
unfolding answer_session answer_lent spoken_session said_session laid_out
returns-in-Last c =
    let a = c.args in
    let d = a.self.now in
    let fits : length d.out ≡ out_bytes = omega arith in
    let e = c.answer-turned.ensures in
    let s = answer_of a.session.now.run a.line.now d.request d.outcome d.buffer in
    let t = part_turned d.out a.session.now.laid out_bytes fits s c.answer-turned.result e.0 in
    let u = ap (λ (x : Turned). x.said) t in
    let v = ap (λ (x : Turned). x.run) t in
    (rw (← u, c.in-Last.is, ← v), rw (e.1, e.2, e.3, part_back d.out a.session.now.laid out_bytes fits (out_printed (bytes_said s.saying)) _ e.4))
