-- A course, and how a run over one starts and ends. (01, The model gauge)
-- Assumes nothing.
use Rattle.std.specs.Prelude.{ℕ, Bool, true, false, List, [], ◌∷◌, ltb, eqb, Result, Ok, Err}
use Rattle.protocol.specs.Pick.{when◌then◌else◌}
use Rattle.protocol.specs.declared.error.Answer.{Answer}
use Rattle.protocol.specs.declared.error.Answer.TheVariants as answer
use Rattle.engine.specs.Pick.{case◌waiting◌ended◌}
use Rattle.engine.specs.declared.bus.Phase.{Phase}
use Rattle.model_gauge.specs.declared.gauge.Fate.{Fate}
use Rattle.model_gauge.specs.declared.gauge.Fate.TheVariants as fate
use Rattle.courses.specs.declared.course.End.{End}
use Rattle.courses.specs.declared.course.End.TheVariants as end

-- 0 heard, 1 lost before the gauge acts, 2 lost after; a run refuses a course with any other byte before it starts
unfoldable pub fate_of : ℕ → Fate
fate_of byte = when eqb byte 0 then fate.Heard else when eqb byte 1 then fate.LostBefore else fate.LostAfter

-- one byte for each transfer
unfoldable pub fates_of : List ℕ → List Fate
fates_of [] = []
fates_of (byte ∷ course) = fate_of byte ∷ fates_of course

-- no other byte
unfoldable pub sound_of : List ℕ → Bool
sound_of [] = true
sound_of (byte ∷ course) = when ltb 2 byte then false else sound_of course

-- 8 for the flash, then 11 for the course
unfoldable pub admit_of : ℕ → List ℕ → Result (Unit {0}) Answer
admit_of flash course =
    when eqb flash 8192 then (when sound_of course then Ok tt else Err answer.BadLine)
    else Err answer.WrongBuffer

-- the call's answer, or a cut where it still waits; 8 where other lengths are lent than at its start
unfoldable pub end_of : Phase → Bool → End
end_of phase fits =
    case phase
    waiting (when fits then end.Cut else end.Answered answer.WrongBuffer)
    ended end.Answered
