-- `writing::call::WriteCall::own_bytes` meets its contract.
-- Assumes nothing.
use Rattle.engine.proofs.Cases.{cases}
use Rattle.writing.specs.Writing.{own_bytes}
use Rattle.writing.proofs.call.WriteCall.own_bytes.Goals as goal

pub returns-then-plain : goal.returns-then-plain
unfolding own_bytes
returns-then-plain c = search cases

pub returns-else-plain : goal.returns-else-plain
unfolding own_bytes
returns-else-plain c = search cases
