-- `interface::dispatch_command` meets its contract: the plan is its own.
-- Assumes nothing.
use Rattle.interface.specs.Plans.{dispatch_command}
use Rattle.interface.proofs.dispatch_command.Goals as goal

pub returns : goal.returns
unfolding dispatch_command
returns c = rw c.command_reads.ensures at c.new.ensures
