-- What the program has written, wherever its loop may stand. (01, The bench program)
-- Assumes nothing.
use Rattle.std.specs.Prelude.{ℕ, ◌≤◌, ◌<◌, ◌≡◌, Bool, true, false, List, [], ◌++◌, length}
use Rattle.session.specs.declared.Desk.{Desk}
use Rattle.session.specs.Session.{take_of}
use Rattle.session.specs.Loop.{Fresh, desk_at, Ready, Reached}

-- the first bytes of a list
pub record Begins (front whole : List ℕ) : Type 0 where
  pub rest : List ℕ
  pub same : front ++ rest ≡ whole

-- `all` is what is to be written for an input, and `so_far` what the first bytes of one give before more is read. `more` is what the input may still bring:
-- nothing, once it has ended
pub record Writes (all so_far : List ℕ → List ℕ) : Type 0 where
  -- a run that is over has written all
  pub over : (first : Desk) → Fresh first → {rounds : ℕ} {read wrote chunk : List ℕ} {end : Bool} {d : Desk} → Reached first rounds read wrote chunk end d
      → d.session.on ≡ false → d.session.laid ≡ 0 → (more : List ℕ) → (end ≡ true → more ≡ []) → wrote ≡ all (read ++ more)
  -- more is read only once all that the lines so far give is written
  pub reads : (first : Desk) → Fresh first → {rounds : ℕ} {read wrote chunk : List ℕ} {d : Desk} → Reached first rounds read wrote chunk false d
      → Ready d → length chunk ≤ d.session.at → wrote ≡ so_far read
  -- and only where something is left to write, if the input were to end there
  pub waits : (first : Desk) → Fresh first → {rounds : ℕ} {read wrote chunk : List ℕ} {d : Desk} → Reached first rounds read wrote chunk false d
      → Ready d → length chunk ≤ d.session.at → length wrote < length (all read)
  -- at the end of the input the run is over
  pub ends : {first : Desk} {rounds : ℕ} {read wrote chunk : List ℕ} {d : Desk} → Reached first rounds read wrote chunk true d → d.session.on ≡ false
  -- a round with lines of a chunk uses a byte at least, so that the chunk comes to its end
  pub advances : (first : Desk) → Fresh first → {rounds : ℕ} {read wrote chunk : List ℕ} {d : Desk} → Reached first rounds read wrote chunk false d
      → Ready d → d.session.at < length chunk → d.session.at < (take_of chunk d).session.at
  -- once what is laid is written, nothing is laid, and the run stands where it stood: it is over, or ready for a round
  pub clears : (d : Desk) → ((desk_at d.session.at d).session.laid ≡ 0)
      × ((desk_at d.session.at d).session.on ≡ d.session.on) × ((desk_at d.session.at d).session.at ≡ d.session.at)
  -- at any time, what is written is the first bytes of all
  pub starts : (first : Desk) → Fresh first → {rounds : ℕ} {read wrote chunk : List ℕ} {end : Bool} {d : Desk} → Reached first rounds read wrote chunk end d
      → (more : List ℕ) → (end ≡ true → more ≡ []) → Begins wrote (all (read ++ more))
  -- and what is written before more is read is never taken back
  pub so_far_lem : (input more : List ℕ) → Begins (so_far input) (all (input ++ more)) × Begins (so_far input) (so_far (input ++ more))
