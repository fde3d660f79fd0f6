-- `protocol::bytes::to_send` meets its contract.
-- Assumes nothing.
use Rattle.protocol.proofs.Cases.{cases}
use Rattle.protocol.specs.Bytes.{send_of}
use Rattle.protocol.proofs.bytes.to_send.Goals as goal
use Rattle.protocol.proofs.bytes.to_send.Goals.{then-built, else-built}

pub returns : goal.returns
unfolding send_of
returns c =
    elim c.if-built.branch [
      | then-built w ↦ rw (c.front.ensures, w.front-is) (search cases)
      | else-built w ↦ rw (c.front.ensures, w.front-is) (search cases)
    ]
