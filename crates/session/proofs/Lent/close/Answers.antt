-- `session::Lent::close` meets its contract: the last line is laid after what is laid.
-- Assumes nothing.
use Prim.Native.Nat.{◌-◌}
use mathlib.Core.Path.{◌≡◌}
use native.Mathlib.Omega.{arith}
use lib.ListN.{length}
use Rattle.printing.specs.Printing.{out_printed}
use Rattle.dialogue.specs.Dialogue.{bytes_said, said_of, close_of}
use Rattle.session.specs.Desk.{out_bytes}
use Rattle.session.specs.Session.{said_session, spoken_session, laid_out, closing, close_session, close_lent}
use Rattle.session.proofs.Laws.{part_printed, part_back, printed_room}
use Rattle.session.proofs.Lent.close.Goals as goal

pub overflow_add-session : goal.overflow_add-session
overflow_add-session c =
    let a = c.args in
    let d = a.self.now in
    let fits : length d.out ≡ out_bytes = omega arith in
    let s = close_of a.session.now.run a.line.now d.buffer in
    let n = part_printed d.out a.session.now.laid out_bytes fits s c.close-n.result c.close-n.ensures.0 in
    omega (arith, n, printed_room s (length d.out - a.session.now.laid), c.requires)

pub returns : goal.returns
unfolding close_session close_lent spoken_session said_session laid_out closing said_of bytes_said
returns c =
    let a = c.args in
    let d = a.self.now in
    let fits : length d.out ≡ out_bytes = omega arith in
    let e = c.close-n.ensures in
    let s = close_of a.session.now.run a.line.now d.buffer in
    (rw (part_printed d.out a.session.now.laid out_bytes fits s _ e.0), rw (part_back d.out a.session.now.laid out_bytes fits (out_printed s) _ e.1))
