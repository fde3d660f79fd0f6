-- `writing::call::WriteCall::to_send` meets its contract.
-- Assumes nothing.
use Prim.Native.Nat.{ℕ}
use mathlib.Core.Path.{◌≡◌, refl}
use mathlib.Core.Bool.{Bool, true, false, not}
use mathlib.Core.List.{List}
use Rattle.protocol.specs.Pick.{when◌then◌else◌}
use Rattle.protocol.specs.Bytes.{send_of}
use Rattle.writing.specs.Writing.{part_of}
use Rattle.writing.proofs.call.WriteCall.to_send.Goals as goal

either : (own : Bool) (payload work : List ℕ) (n : ℕ) → send_of payload work (not own) n ≡ when own then send_of payload work false n else send_of payload work true n
unfolding when◌then◌else◌
either true payload work n = refl
either false payload work n = refl

pub returns : goal.returns
unfolding part_of
returns c = rw (c.to_send.ensures, c.own_bytes.ensures) (either _ _ _ _)
