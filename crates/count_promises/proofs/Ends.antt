-- A file whose every line is a pack ends with a line feed, since what follows the last one is no pack; what such a file says is what its lines say.
-- Assumes nothing.
use Prim.Native.Nat.{ℕ, zero, suc}
use mathlib.Core.Path.{◌≡◌, refl}
use mathlib.Core.Bool.{Bool, true, false}
use mathlib.Core.List.{List, [], ◌∷◌, ◌++◌, map, map-append, append_assoc, append-nil}
use native.Mathlib.Omega.{arith}
use lib.ListN.{length}
use lib.Dec.{eqb}
use borrow.Author.Tests.{eqb-true}
use Rattle.protocol.specs.Pick.{when◌then◌else◌}
use Rattle.lines.specs.Input.{lines_from, rest_from}
use Rattle.lines.proofs.Any.{lines_append, rest_append}
use Rattle.std.specs.Prelude.{None}
use Rattle.packs.specs.Said.{Said}
use Rattle.count_promises.specs.Packs.{line_says, said_in}
use Rattle.count_promises.specs.Lines.{AllPacks}
use Rattle.count_promises.proofs.Lists.{empty}

-- a last one that is no pack
not_last : (ps : List Said) → AllPacks (ps ++ (None ∷ [])) → ⊥
not_last [] h = h zero (omega arith)
not_last (p ∷ ps) h = not_last ps (λ k l. h (suc k) (omega arith))

pub ends_with_line : (input : List ℕ) → AllPacks (said_in input) → rest_from [] input ≡ []
unfolding said_in when◌then◌else◌
ends_with_line input = by (eqb (length (rest_from [] input)) 0) refl
  where
    by : (t : Bool) → eqb (length (rest_from [] input)) 0 ≡ t
        → AllPacks (map line_says (lines_from [] input) ++ (when t then [] else None ∷ [])) → rest_from [] input ≡ []
    by true e h = empty (rest_from [] input) (eqb-true (length (rest_from [] input)) 0 e)
    by false e h = absurd (not_last (map line_says (lines_from [] input)) h)

pub said_by_lines : (input : List ℕ) → rest_from [] input ≡ [] → said_in input ≡ map line_says (lines_from [] input)
unfolding said_in when◌then◌else◌
said_by_lines input e = rw e (append-nil (map line_says (lines_from [] input)))

-- another file after it
pub said_append : (s t : List ℕ) → rest_from [] s ≡ [] → said_in (s ++ t) ≡ said_in s ++ said_in t
unfolding said_in when◌then◌else◌
said_append s t e =
    let lines : lines_from [] (s ++ t) ≡ lines_from [] s ++ lines_from [] t = rw e at (lines_append s t []) in
    let rest : rest_from [] (s ++ t) ≡ rest_from [] t = rw e at (rest_append s t []) in
    rw (lines, rest, e, append-nil (map line_says (lines_from [] s)), map-append line_says (lines_from [] s) (lines_from [] t))
    (append_assoc (map line_says (lines_from [] s)) (map line_says (lines_from [] t)) _)
