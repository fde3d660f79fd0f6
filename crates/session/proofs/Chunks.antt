-- The program's loop as a function of the chunks that its reads bring, which the relation is followed through.
-- Assumes nothing.
use Prim.Native.Nat.{ℕ, zero, suc}
use mathlib.Core.Path.{◌≡◌}
use mathlib.Core.List.{List, [], ◌∷◌, ◌++◌}
use lib.ListN.{length}
use lib.Dec.{ltb}
use Rattle.protocol.specs.Pick.{when◌then◌else◌}
use Rattle.session.specs.declared.Desk.{Desk}
use Rattle.session.specs.Desk.{Sized}
use Rattle.session.specs.Session.{start_of, at_byte, take_of, end_of}
use Rattle.session.specs.Output.{printed, printed_so_far}
use Rattle.session.specs.Loop.{laid_bytes}

-- a chunk, `take` after `take` while the run goes on and the chunk lasts, and then what follows it. One for each byte is enough (`advances`).
unfoldable pub chunk_out : ℕ → List ℕ → Desk → (Desk → List ℕ) → List ℕ
chunk_out zero chunk d more = more d
chunk_out (suc takes) chunk d more =
    when d.session.on then
    (when ltb d.session.at (length chunk) then laid_bytes (take_of chunk d) ++ chunk_out takes chunk (take_of chunk d) more else more d)
    else []

-- chunk after chunk, and `final` once there is none
unfoldable pub chunks_out : (Desk → List ℕ) → List (List ℕ) → Desk → List ℕ
chunks_out final [] d = when d.session.on then final d else []
chunks_out final (chunk ∷ chunks) d =
    chunk_out (length chunk) chunk (record d { session = at_byte d.session 0 }) (chunks_out final chunks)

-- what the program writes for an input that comes in these chunks, each a read of its own. A read that brings nothing is the end; an empty chunk changes
-- nothing
unfoldable pub bytes_out : List (List ℕ) → Desk → List ℕ
bytes_out chunks d = chunks_out (λ v. laid_bytes (end_of v)) chunks d

-- what it has laid_bytes once these chunks are read, where more may follow
unfoldable pub bytes_so_far : List (List ℕ) → Desk → List ℕ
bytes_so_far chunks d = chunks_out (λ v. []) chunks d

-- the whole input
unfoldable pub concat : List (List ℕ) → List ℕ
concat [] = []
concat (chunk ∷ chunks) = chunk ++ concat chunks

-- however the input is cut into chunks, and whatever the lent arrays hold at first, that is what is printed for the whole input; and no line is held back
pub record WholeBench : Type 0 where
  pub whole : (chunks : List (List ℕ)) (d : Desk) → Sized d → d.session ≡ start_of → bytes_out chunks d ≡ printed (concat chunks)
  pub at_once : (chunks : List (List ℕ)) (d : Desk) → Sized d → d.session ≡ start_of → bytes_so_far chunks d ≡ printed_so_far (concat chunks)
