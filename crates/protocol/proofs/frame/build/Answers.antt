-- `protocol::frame::build` meets its contract: three pushes and a seal, one after the other, are the frame.
-- Assumes nothing.
use Rattle.protocol.proofs.Laws.{built}
use Rattle.protocol.proofs.frame.build.Goals as goal

pub returns : goal.returns
returns c =
    let a = c.args in
    built a.pec a.lead.now a.pair.now a.body.now a.work.now _ _ _ _ _ _ _ _ c.push-led.ensures c.push-paired.ensures c.push-whole.ensures c.seal.ensures
