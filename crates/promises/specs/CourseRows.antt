-- Rows 8 and 11 of a run over a course: given exactly when their rows say so, and with nothing changed. (01, The model gauge)
-- Assumes nothing.
use Rattle.std.specs.Prelude.{ℕ, ◌≡◌, List, [], ◌∷◌, ◌++◌, ◌⊎◌, ◌↔◌, length}
use Rattle.protocol.specs.Answer.{number_of}
use Rattle.engine.specs.declared.bus.Phase.TheVariants as phase
use Rattle.calls.specs.Call.{phase_of}
use Rattle.calls.specs.declared.call.Call.{Call}
use Rattle.calls.specs.declared.call.Call.TheVariants as call
use Rattle.courses.specs.Figures.{BadByte, LentAgain, Figures}
use Rattle.courses.specs.Run.{Left, world, left, run_of}
use Rattle.courses.specs.declared.course.End.{End}
use Rattle.courses.specs.declared.course.End.TheVariants as end
use Rattle.courses.specs.declared.run.Link.{Link}
use Rattle.answers.specs.Rows.{OneOf}

-- a run gives the answer of number k; one that is cut gives none
abbrev pub Gives : ℕ → End → Type 0
Gives k (end.Answered a) = number_of a ≡ k
Gives k end.Cut = ⊥

-- the answer that a run gives, if it gives one, has one of these numbers
abbrev pub GivesOneOf : List ℕ → End → Type 0
GivesOneOf ks (end.Answered a) = OneOf ks (number_of a)
GivesOneOf ks end.Cut = Unit {0}

-- the numbers that a call that waits can itself end with
abbrev pub own_of : Call → List ℕ
own_of (call.Write c) = 0 ∷ 1 ∷ 2 ∷ 6 ∷ []
own_of (call.Read c) = 0 ∷ 1 ∷ 2 ∷ 3 ∷ []

-- a call that waits is run with a payload of p bytes, a buffer of n and a work buffer of w lent, over f bytes of flash
pub record RunRows (f : ℕ) (course : List ℕ) (call : Call) (p n w : ℕ) (e : End) : Type 0 where
  -- 8: the flash has not 8,192 bytes, or, with no bad byte in the course, a lent length differs from the start's
  pub wrong_buffer : Gives 8 e ↔ ((f ≡ 8192 → ⊥) ⊎ ((BadByte course → ⊥) × (LentAgain call p n w → ⊥)))
  -- 11: the flash has 8,192 bytes, and the course has a bad byte
  pub bad_course : Gives 11 e ↔ ((f ≡ 8192) × BadByte course)
  -- besides, a run gives the call's own answer or none
  pub own_answer : GivesOneOf (own_of call ++ (8 ∷ 11 ∷ [])) e

-- 8 and 11 leave call, gauge, buffer, work buffer and flash as they were
pub record Rows (payload course buffer work flash : List ℕ) (link : Link) (ran : Left) : Type 0 where
  pub rows : RunRows (length flash) course link.call (length payload) (length buffer) (length work) ran.run.end
  pub kept : (Gives 8 ran.run.end ⊎ Gives 11 ran.run.end) → ran ≡ left (record { link = link; end = ran.run.end }) buffer work flash

pub record CourseRows : Type 0 where
  -- what the bytes of a course say, when a course is sound, and what is left of a run that does not start or of a call that has ended
  pub figures : Figures
  pub runs : (payload course buffer work flash : List ℕ) (link : Link) → phase_of link.call ≡ phase.Waiting
      → Rows payload course buffer work flash link (run_of payload course (world link buffer work flash))
