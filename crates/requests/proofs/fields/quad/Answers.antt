-- `requests::fields::quad` meets its contract: the bytes at four places.
-- Assumes nothing.
use Prim.Native.Nat.{◌+◌}
use mathlib.Core.Path.{◌≡◌}
use native.Mathlib.Omega.{arith}
use Rattle.requests.specs.Fields.{pair_at, quad_at}
use Rattle.requests.proofs.fields.quad.Goals as goal

pub returns : goal.returns
unfolding pair_at quad_at
returns c =
    let third : c.args.at + 3 ≡ c.args.at + 2 + 1 = omega arith in
    rw (c.from_le_bytes.ensures, c.byte.ensures, c.byte-2.ensures, c.byte-3.ensures, c.byte-4.ensures, third) (omega arith)
