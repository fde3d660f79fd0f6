-- Demand 3: stop anywhere, with the transfers of the Rust and any host; go on from the count; and the overlay and the bytes agree.
-- Assumes nothing.
use Rattle.promises.specs.Demand3.{Demand3}
use Rattle.promises.proofs.Bytes.{agree}
use Rattle.promises.proofs.Stopped.{stopped}
use Rattle.promises.proofs.Handed.{frames}
use Rattle.promises.proofs.OverOriginal.{over_original}
use Rattle.promises.proofs.Host.{any_host}
use Rattle.promises.proofs.Counted.{counted, counts}
use Rattle.promises.proofs.Resumed.{resumed, unbroken}

-- DEMAND 3, whole
pub demand3 : Demand3
demand3 =
    record {
      stopped = stopped;
      frames = frames;
      over_original = over_original;
      any_host = any_host;
      counted = counted;
      counts = counts;
      resumed = resumed;
      unbroken = unbroken;
      agree = agree;
    }
