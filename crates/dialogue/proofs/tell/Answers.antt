-- `dialogue::tell` meets its contract: each arm prints the line of its case of `tell_of`.
-- Assumes nothing.
use mathlib.Core.Path.{ap}
use mathlib.Core.Logic.{inl, inr}
use Rattle.dialogue.specs.Dialogue.{bytes_said, said_of, tell_of}
use Rattle.dialogue.specs.declared.Said.TheVariants as said
use Rattle.dialogue.proofs.tell.Goals as goal

pub returns-in-Write : goal.returns-in-Write
unfolding tell_of said_of bytes_said
returns-in-Write c =
    let e = c.write.ensures in
    rw c.in-Write.is (ap said.Asked e.0, e.1)

pub returns-in-Read : goal.returns-in-Read
unfolding tell_of said_of bytes_said
returns-in-Read c =
    let e = c.read.ensures in
    rw c.in-Read.is (ap said.Asked e.0, e.1)

pub returns-in-Refused : goal.returns-in-Refused
unfolding tell_of said_of bytes_said
returns-in-Refused c =
    let e = c.end.ensures in
    elim c.in-Refused.is [
      | inl q ↦ rw q (ap said.Last e.0, e.1)
      | inr q ↦ rw q (ap said.Last e.0, e.1)
    ]
