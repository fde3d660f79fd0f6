-- What the bytes of a course say, and what a run leaves that does not start or shows no transfer. (01, The model gauge)
-- Assumes nothing.
use Rattle.std.specs.Prelude.{ℕ, ◌<◌, ◌≡◌, true, List, [], ◌∷◌, ◌++◌, ◌↔◌, length}
use Rattle.protocol.specs.declared.error.Answer.{Answer}
use Rattle.protocol.specs.declared.error.Answer.TheVariants as answer
use Rattle.engine.specs.declared.bus.Phase.TheVariants as phase
use Rattle.calls.specs.Call.{phase_of}
use Rattle.calls.specs.declared.call.Call.{Call}
use Rattle.calls.specs.declared.call.Call.TheVariants as call
use Rattle.model_gauge.specs.declared.gauge.Fate.TheVariants as fate
use Rattle.courses.specs.Course.{fates_of, sound_of}
use Rattle.courses.specs.Run.{Left, world, left, run_of}
use Rattle.courses.specs.declared.course.End.TheVariants as end
use Rattle.courses.specs.declared.run.Link.{Link}

-- a byte of the course is not 0, 1 or 2
abbrev pub BadByte : List ℕ → Type 0
BadByte course = (front : List ℕ) × (byte : ℕ) × (back : List ℕ) × (course ≡ front ++ byte ∷ back) × (2 < byte)

-- a payload of p bytes, a buffer of n and a work buffer of w have the lengths of the start again: a write goes by the payload, a read by the buffer
abbrev pub LentAgain : Call → (p n w : ℕ) → Type 0
LentAgain (call.Write c) p n w = (p ≡ c.task.lent.length) × (w ≡ c.task.lent.work)
LentAgain (call.Read c) p n w = (n ≡ c.task.lent.length) × (w ≡ c.task.lent.work)

-- a run that has an answer and leaves call, gauge, buffer, work buffer and flash as they were
abbrev pub unchanged : Answer → Link → (buffer work flash : List ℕ) → Left
unchanged a link buffer work flash = left (record { link = link; end = end.Answered a }) buffer work flash

pub record Figures : Type 0 where
  -- one byte for each transfer: 0 heard, 1 lost before the gauge acts, 2 lost after
  pub fates_none : fates_of [] ≡ []
  pub fates : (course : List ℕ)
      → (fates_of (0 ∷ course) ≡ fate.Heard ∷ fates_of course) × (fates_of (1 ∷ course) ≡ fate.LostBefore ∷ fates_of course) × (fates_of (2 ∷ course) ≡ fate.LostAfter ∷ fates_of course)
  -- a course is sound exactly where it has no bad byte
  pub sound : (course : List ℕ) → (sound_of course ≡ true) ↔ (BadByte course → ⊥)
  -- a flash of another length than 8,192 gives 8, whatever the call and the course
  pub other_flash : (payload course buffer work flash : List ℕ) (link : Link) → (length flash ≡ 8192 → ⊥)
      → run_of payload course (world link buffer work flash) ≡ unchanged answer.WrongBuffer link buffer work flash
  -- with 8,192 a course with a bad byte gives 11, whatever the call
  pub bad_course : (payload course buffer work flash : List ℕ) (link : Link) → length flash ≡ 8192 → BadByte course
      → run_of payload course (world link buffer work flash) ≡ unchanged answer.BadLine link buffer work flash
  -- then a call that was refused at its start, or has ended, gives its own answer
  pub over : (payload course buffer work flash : List ℕ) (link : Link) (a : Answer) → length flash ≡ 8192 → sound_of course ≡ true
      → phase_of link.call ≡ phase.Ended a → run_of payload course (world link buffer work flash) ≡ unchanged a link buffer work flash
  -- and one that still waits and is lent another payload, buffer or work-buffer length than at its start gives 8
  pub other_lent : (payload course buffer work flash : List ℕ) (link : Link) → length flash ≡ 8192 → sound_of course ≡ true
      → phase_of link.call ≡ phase.Waiting → (LentAgain link.call (length payload) (length buffer) (length work) → ⊥)
      → run_of payload course (world link buffer work flash) ≡ unchanged answer.WrongBuffer link buffer work flash
