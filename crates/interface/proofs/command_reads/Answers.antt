-- `interface::command_reads` meets its contract: each return is a case of `command_reads`.
-- Assumes nothing.
use Rattle.engine.proofs.Cases.{cases}
use Rattle.interface.specs.Plans.{command_reads}
use Rattle.interface.proofs.command_reads.Goals as goal

pub returns-then-output-eq0 : goal.returns-then-output-eq0
unfolding command_reads
returns-then-output-eq0 c = search cases

pub returns-else-output-eq0 : goal.returns-else-output-eq0
unfolding command_reads
returns-else-output-eq0 c = rw (c.mac.ensures, c.to_le_bytes.ensures) (search cases)
