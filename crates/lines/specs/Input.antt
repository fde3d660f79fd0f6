-- The lines of an input. (01, The bench program: one frame a line, line feed at the end)
-- Assumes nothing.
use Rattle.std.specs.Prelude.{ℕ, List, [], ◌∷◌, ◌++◌, eqb}
use Rattle.protocol.specs.Pick.{when◌then◌else◌}

-- the lines of an input, where `held` is what came of its first line before
unfoldable pub lines_from : List ℕ → List ℕ → List (List ℕ)
lines_from held [] = []
lines_from held (b ∷ s) = when eqb b 10 then held ∷ lines_from [] s else lines_from (held ++ (b ∷ [])) s

-- what follows its last line feed
unfoldable pub rest_from : List ℕ → List ℕ → List ℕ
rest_from held [] = held
rest_from held (b ∷ s) = when eqb b 10 then rest_from [] s else rest_from (held ++ (b ∷ [])) s
