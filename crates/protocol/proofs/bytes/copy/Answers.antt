-- `protocol::bytes::copy` meets its contract.
-- Assumes nothing.
use native.Mathlib.Omega.{arith}
use lib.Seq.{take_all}
use Rattle.std.proofs.Common.{rules}
use Rattle.protocol.specs.Bytes.{over}
use Rattle.protocol.proofs.bytes.copy.Goals as goal

pub returns : goal.returns
unfolding over
returns c = search (rules, take_all, arith)
