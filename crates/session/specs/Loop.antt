-- The program's loop, round by round: where it may stand, and what it has read and written there. (01, The bench program)
-- Assumes nothing.
use Rattle.std.specs.Prelude.{ℕ, suc, ◌≤◌, ◌<◌, ◌≡◌, Bool, true, false, List, [], ◌++◌, length, take, replicate}
use Rattle.session.specs.declared.Desk.{Desk}
use Rattle.requests.specs.Request.{longest_request}
use Rattle.session.specs.Desk.{desk, held_bytes, out_bytes, Sized}
use Rattle.session.specs.Session.{start_of, at_byte, take_of, end_of}

-- the bytes that are laid, to be written
unfoldable pub laid_bytes : Desk → List ℕ
laid_bytes d = take d.session.laid d.lent.out

-- a session with nothing read yet, and arrays of the sizes that are lent
pub record Fresh (d : Desk) : Type 0 where
  pub sized : Sized d
  pub start : d.session ≡ start_of

-- the first desk of a run: every array holds zeros
unfoldable pub blank : Desk
blank = desk start_of (replicate held_bytes 0) (replicate longest_request 0) (replicate 8193 0) (replicate 8192 0) (replicate out_bytes 0)

-- at a byte of its chunk, with nothing laid
unfoldable pub desk_at : ℕ → Desk → Desk
desk_at at d = record d { session = at_byte d.session at }

-- ready for a round: the run goes on, and nothing is laid that is not written
pub record Ready (d : Desk) : Type 0 where
  pub on : d.session.on ≡ true
  pub clear : d.session.laid ≡ 0

-- one round, from the chunk at hand: the bytes that it reads, the chunk that is at hand then, whether the input has ended, and the desk
pub data Round (chunk : List ℕ) (d : Desk) : List ℕ → List ℕ → Bool → Desk → Type 0 where
  -- lines of the chunk, while it lasts
  answers : d.session.at < length chunk → Round chunk d [] chunk false (take_of chunk d)
  -- the next chunk, once this one is used up
  refills : (more : List ℕ) → length chunk ≤ d.session.at → 0 < length more → Round chunk d more more false (desk_at 0 d)
  -- or a read that brings nothing, which is the end of the input
  ends : length chunk ≤ d.session.at → Round chunk d [] [] true (end_of d)

-- where the program may stand: the rounds that it has made, all that it has read and written, the chunk at hand, whether the input has ended, and the desk
pub data Reached (first : Desk) : ℕ → List ℕ → List ℕ → List ℕ → Bool → Desk → Type 0 where
  begun : Reached first 0 [] [] [] false first
  round : {rounds : ℕ} {read wrote chunk more next : List ℕ} {end : Bool} {d v : Desk} → Reached first rounds read wrote chunk false d → Ready d
      → Round chunk d more next end v → Reached first (suc rounds) (read ++ more) wrote next end v
  -- what is laid is written
  put : {rounds : ℕ} {read wrote chunk : List ℕ} {end : Bool} {d : Desk} → Reached first rounds read wrote chunk end d
      → Reached first rounds read (wrote ++ laid_bytes d) chunk end (desk_at d.session.at d)

-- a round leads from a chunk and a desk to others
pub record OneRound (chunk : List ℕ) (d : Desk) (next : List ℕ) (v : Desk) : Type 0 where
  pub more : List ℕ
  pub end : Bool
  pub round : Round chunk d more next end v

-- the program stands at a chunk and a desk, so many rounds after its start
pub record Standing (first : Desk) (rounds : ℕ) (chunk : List ℕ) (d : Desk) : Type 0 where
  pub read : List ℕ
  pub wrote : List ℕ
  pub end : Bool
  pub reached : Reached first rounds read wrote chunk end d
