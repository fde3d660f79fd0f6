-- `protocol::reply::checked` meets its contract: the PEC of the opening, carried on over the reply, is that of both.
-- Assumes nothing.
use mathlib.Core.Path.{◌≡◌, refl}
use Prim.Native.Nat.{◌-◌}
use native.Mathlib.Omega.{arith}
use lib.ListN.{length}
use lib.Seq.{get_or-append_seam, take-append_seam}
use Rattle.protocol.proofs.Cases.{yes_eq, not_eq}
use Rattle.protocol.specs.Reply.{checked_of}
use Rattle.smbus_pec.specs.Pec.{pec_of}
use Rattle.protocol.proofs.reply.checked.Goals as goal

pub returns-in_default : goal.returns-in_default
unfolding checked_of
returns-in_default c = yes_eq _ _ _ _ _ c.in_default.ensures.cases refl

pub returns : goal.returns
unfolding checked_of pec_of
returns c =
    let s = c.in-Some.ensures.cases in
    let k : length c.args.reply.now - 1 ≡ length c.in-Some.data.now = omega (arith, s.1) in
    not_eq _ _ _ _ _ (λ z. omega (arith, s.1)) (rw (c.pec-2.ensures, c.pec.ensures, k, s.0, take-append_seam, get_or-append_seam))
