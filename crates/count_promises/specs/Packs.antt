-- What stands on the lines of a file, and the report over it, in the words of the request. (02, W-212)
-- Assumes nothing.
use Rattle.std.specs.Prelude.{ℕ, suc, ◌+◌, ◌*◌, ◌/◌, ◌%◌, min, max, List, [], ◌∷◌, ◌++◌, map, length, ltb, eqb, Some, None}
use Rattle.std.proofs.Math.Option.{Option, none, some}
use Rattle.protocol.specs.Pick.{when◌then◌else◌}
use Rattle.hexadecimal.specs.Line.{line_bytes}
use Rattle.lines.specs.Input.{lines_from, rest_from}
use Rattle.packs.specs.Said.{Said}
use Rattle.packs.specs.declared.Pack.TheVariants as pack
use Rattle.report.specs.Report.{Figures, Report, Outcome, report, refused, text_of}

-- after 00, two bytes: the cycles, low byte first
unfoldable pub cycles_said : List ℕ → Said
cycles_said [] = None
cycles_said (low ∷ []) = None
cycles_said (low ∷ high ∷ []) = Some (pack.Read (low + 256 * high))
cycles_said (low ∷ high ∷ b ∷ s) = None

-- after 01, one byte: the answer that stopped the read, which is not 0
unfoldable pub answer_said : List ℕ → Said
answer_said [] = None
answer_said (answer ∷ []) = when eqb answer 0 then None else Some (pack.Unread answer)
answer_said (answer ∷ b ∷ s) = None

-- what the bytes of a line say
unfoldable pub bytes_say : List ℕ → Said
bytes_say [] = None
bytes_say (kind ∷ s) = when eqb kind 0 then cycles_said s else when eqb kind 1 then answer_said s else None

-- what a line says: upper-case hexadecimal, as on the bench
unfoldable pub line_says : List ℕ → Said
line_says line = bytes_say (line_bytes line)

-- what the lines of an input say; what follows its last line feed is no pack
unfoldable pub said_in : List ℕ → List Said
said_in input = map line_says (lines_from [] input) ++ (when eqb (length (rest_from [] input)) 0 then [] else None ∷ [])

-- the cycles of the packs that were read
unfoldable pub cycles_in : List Said → List ℕ
cycles_in [] = []
cycles_in (Some (pack.Read cycles) ∷ ps) = cycles ∷ cycles_in ps
cycles_in (Some (pack.Unread answer) ∷ ps) = cycles_in ps
cycles_in (None ∷ ps) = cycles_in ps

-- the answers that stopped the others
unfoldable pub answers_in : List Said → List ℕ
answers_in [] = []
answers_in (Some (pack.Read cycles) ∷ ps) = answers_in ps
answers_in (Some (pack.Unread answer) ∷ ps) = answer ∷ answers_in ps
answers_in (None ∷ ps) = answers_in ps

unfoldable pub total : List ℕ → ℕ
total [] = 0
total (n ∷ s) = n + total s

-- how often a number occurs
unfoldable pub occurs : ℕ → List ℕ → ℕ
occurs k [] = 0
occurs k (n ∷ s) = when eqb n k then suc (occurs k s) else occurs k s

-- the lowest and the highest of a number and others
unfoldable pub lowest_of : ℕ → List ℕ → ℕ
lowest_of c [] = c
lowest_of c (n ∷ s) = min c (lowest_of n s)

unfoldable pub highest_of : ℕ → List ℕ → ℕ
highest_of c [] = c
highest_of c (n ∷ s) = max c (highest_of n s)

-- over none there is no lowest, highest, mean or remainder
unfoldable pub figures_of : List ℕ → Option Figures
figures_of [] = none
figures_of (c ∷ s) =
    some record { lowest = lowest_of c s; highest = highest_of c s; mean = total (c ∷ s) / length (c ∷ s); remainder = total (c ∷ s) % length (c ∷ s) }

-- the report over what the lines say
unfoldable pub report_of : List Said → Report
report_of ps = record {
  seen = length ps;
  read = length (cycles_in ps);
  unread = length (answers_in ps);
  by = λ k. occurs k (answers_in ps);
  sum = total (cycles_in ps);
  figures = figures_of (cycles_in ps);
}

-- how many packs there are before the first line that is none
unfoldable pub packs_before : List Said → ℕ
packs_before [] = 0
packs_before (Some (pack.Read cycles) ∷ ps) = suc (packs_before ps)
packs_before (Some (pack.Unread answer) ∷ ps) = suc (packs_before ps)
packs_before (None ∷ ps) = 0

-- how many lines are counted: up to the first that is no pack, and 65,535 at most
unfoldable pub counted : List Said → ℕ
counted ps = min (packs_before ps) 65535

-- a line that is not counted is refused, the first by its number; else there is a report
unfoldable pub outcome_of : List Said → Outcome
outcome_of ps = when ltb (counted ps) (length ps) then refused (suc (counted ps)) else report (report_of ps)

-- what is printed for an input
unfoldable pub printed_of : List ℕ → List ℕ
printed_of input = text_of (outcome_of (said_in input))
