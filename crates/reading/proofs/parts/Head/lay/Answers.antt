-- `reading::parts::Head::lay` meets its contract: each variant lays its own frame.
-- Assumes nothing.
use Rattle.reading.specs.Parts.{head_bytes}
use Rattle.reading.proofs.parts.Head.lay.Goals as goal

pub returns-in-Bare : goal.returns-in-Bare
unfolding head_bytes
returns-in-Bare c = rw c.in-Bare.is c.lay_plain.ensures

pub returns-in-Command : goal.returns-in-Command
unfolding head_bytes
returns-in-Command c = rw c.in-Command.is c.lay_command.ensures

pub returns-in-Mac : goal.returns-in-Mac
unfolding head_bytes
returns-in-Mac c = rw c.in-Mac.is c.lay_fixed.ensures

pub returns-in-DataFlash : goal.returns-in-DataFlash
unfolding head_bytes
returns-in-DataFlash c = rw c.in-DataFlash.is (rw c.block_start.ensures at c.lay_number.ensures)
