-- `protocol::frame::lay` meets its contract: where there is room the frame is built, otherwise nothing is.
-- Assumes nothing.
use mathlib.Core.Path.{◌≡◌}
use mathlib.Core.List.{◌++◌}
use lib.ListN.{length, length-append}
use Rattle.protocol.proofs.Cases.{cases}
use Rattle.protocol.specs.Frame.{laid_of, work_laid}
use lib.Dec.{ltb}
use Rattle.protocol.proofs.frame.lay.Goals as goal

pub returns-then-room : goal.returns-then-room
unfolding laid_of work_laid
returns-then-room c =
    let a = c.args in
    let e : c.room.result ≡ ltb (length (a.lead.now ++ a.pair.now ++ a.body.now)) (length a.work.now) = simp length-append c.room.ensures in
    search cases

pub returns-else-room : goal.returns-else-room
unfolding laid_of work_laid
returns-else-room c =
    let a = c.args in
    let e : c.room.result ≡ ltb (length (a.lead.now ++ a.pair.now ++ a.body.now)) (length a.work.now) = simp length-append c.room.ensures in
    search cases
