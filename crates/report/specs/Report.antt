-- The report over packs, and its lines: one figure a line, its name, a tab and its number. (02, W-212)
-- Assumes nothing.
use Rattle.std.specs.Prelude.{ℕ, zero, suc, List, [], ◌∷◌, ◌++◌, eqb}
use Rattle.std.proofs.Math.Option.{Option, none, some}
use Rattle.protocol.specs.Pick.{when◌then◌else◌}
use Rattle.hexadecimal.specs.Text.{ascii}
use Rattle.report.specs.Decimal.{decimal_of}

-- what there is over packs that were read, and not with none
pub record Figures : Type 0 where
  pub lowest : ℕ
  pub highest : ℕ
  pub mean : ℕ
  pub remainder : ℕ

pub record Report : Type 0 where
  pub seen : ℕ
  pub read : ℕ
  pub unread : ℕ
  -- the unread ones that each answer number stopped
  pub by : ℕ → ℕ
  pub sum : ℕ
  pub figures : Option Figures

-- what a file comes to: a report, or the number of the first line that is refused
pub data Outcome : Type 0 where
  report : Report → Outcome
  refused : ℕ → Outcome

-- a line: a name, a tab, a number and a line feed
unfoldable pub line : List ℕ → ℕ → List ℕ
line name n = name ++ (9 ∷ (decimal_of n ++ (10 ∷ [])))

-- the answer numbers from k on, n of them, ascending; one that did not occur has no line
unfoldable pub by_number : (ℕ → ℕ) → ℕ → ℕ → List ℕ
by_number by zero k = []
by_number by (suc n) k = (when eqb (by k) 0 then [] else line (ascii "unread " ++ decimal_of k) (by k)) ++ by_number by n (suc k)

unfoldable pub of_read : Option Figures → List ℕ
of_read none = []
of_read (some f) =
    line (ascii "lowest") f.lowest
    ++ (line (ascii "highest") f.highest ++ (line (ascii "mean") f.mean ++ line (ascii "remainder") f.remainder))

-- the lines of an outcome
unfoldable pub text_of : Outcome → List ℕ
text_of (report r) =
    line (ascii "seen") r.seen
    ++ (line (ascii "read") r.read
    ++ (line (ascii "unread") r.unread ++ (by_number r.by 255 1 ++ (line (ascii "sum") r.sum ++ of_read r.figures))))
text_of (refused n) = line (ascii "refused" ++ (9 ∷ ascii "11")) n
