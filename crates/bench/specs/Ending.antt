-- How the program comes to its end: by the rounds that `session` speaks of, one after the other.
-- Assumes nothing.
use Rattle.std.specs.Prelude.{ℕ, ◌+◌, ◌≤◌, ◌≡◌, Bool, true, false, List, [], ◌++◌, length, take}
use Rattle.session.specs.declared.Desk.{Desk}
use Rattle.session.specs.Loop.{Fresh, Ready, OneRound, Standing}
use Rattle.session.specs.Laws.{Begins}
use Rattle.bench_promises.specs.RustBench.{rust_printed, rust_so_far}
use Rattle.bench.specs.declared.Bench.{Bench}
use Rattle.bench.specs.declared.Stop.{Stop}
use Rattle.bench.specs.declared.Ending.{Ending}
use Rattle.bench.specs.declared.Ending.TheVariants as ending

-- the chunk at hand
abbrev pub at_hand : Bench → List ℕ
at_hand b = take b.n b.chunk

-- a round, from a chunk and a desk to others; none is made where a read was due and failed
abbrev pub Makes : Bool → Bench → Bench → Type 0
Makes true b c = OneRound (at_hand b) b.desk (at_hand c) c.desk × (c.n ≤ length c.chunk)
Makes false b c = (c.desk ≡ b.desk) × (length (at_hand b) ≤ b.desk.session.at) × (c.n ≤ length c.chunk)

-- how the program stands at each of its ends
abbrev pub How : Ending → ℕ → List ℕ → Desk → Type 0
How ending.Over left chunk d = (d.session.on ≡ false) × (d.session.laid ≡ 0)
How ending.Unread left chunk d = Ready d × (length chunk ≤ d.session.at)
How ending.Unwritten left chunk d = Unit {0}
How ending.Spent left chunk d = left ≡ 0

-- it came there round by round, from a session with nothing read
pub record Stopped (r : Stop) (first d : Desk) : Type 0 where
  pub fresh : Fresh first
  pub rounds : ℕ
  pub chunk : List ℕ
  pub counted : rounds + r.left ≡ 18446744073709551615
  pub standing : Standing first rounds chunk d
  pub how : How r.ending r.left chunk d

-- what is written at an end; `more` is what the input may still bring
pub record Ends : Type 0 where
  -- a run that is over has written what the bench over the Rust does with the whole input
  pub over : (r : Stop) (first d : Desk) (c : Stopped r first d) → r.ending ≡ ending.Over → (more : List ℕ) → (c.standing.end ≡ true → more ≡ [])
      → c.standing.wrote ≡ rust_printed (c.standing.read ++ more)
  -- where a read failed, all that the lines so far give is written
  pub unread : (r : Stop) (first d : Desk) (c : Stopped r first d) → r.ending ≡ ending.Unread → c.standing.wrote ≡ rust_so_far c.standing.read
  -- at each, no other byte than that
  pub starts : (r : Stop) (first d : Desk) (c : Stopped r first d) (more : List ℕ) → (c.standing.end ≡ true → more ≡ [])
      → Begins c.standing.wrote (rust_printed (c.standing.read ++ more))
