-- What holds of every report: its figures belong together, the order of the lines does not matter, and two files can be joined. (02, W-212)
-- Assumes nothing.
use Rattle.std.specs.Prelude.{ℕ, zero, suc, ◌+◌, ◌*◌, ◌≤◌, ◌<◌, min, max, ◌≡◌, List, ◌∷◌, ◌++◌, map, replicate, Some}
use Rattle.std.proofs.Math.Option.{Option, none, some}
use Rattle.hexadecimal.specs.Text.{ascii}
use Rattle.packs.specs.Said.{Said}
use Rattle.packs.specs.declared.Pack.TheVariants as pack
use Rattle.report.specs.Report.{Figures, Report, report, refused, text_of}
use Rattle.count_promises.specs.Packs.{said_in, cycles_in, occurs, report_of, outcome_of, printed_of}
use Rattle.count_promises.specs.Lines.{file_of, Fits, AllFit, line_of, AllPacks}

-- f 1 + f 2 + .. + f n
unfoldable pub up_to : ℕ → (ℕ → ℕ) → ℕ
up_to zero f = 0
up_to (suc n) f = up_to n f + f (suc n)

-- the figures over the packs that were read
pub record OfRead (r : Report) (f : Figures) : Type 0 where
  pub some_read : 0 < r.read
  pub mean : r.sum ≡ f.mean * r.read + f.remainder
  pub remainder : f.remainder < r.read
  pub lowest_mean : f.lowest ≤ f.mean
  pub mean_highest : f.mean ≤ f.highest
  pub highest : f.highest ≤ 65535

-- the figures of a report belong together
pub record Balanced (r : Report) : Type 0 where
  pub seen : r.seen ≡ r.read + r.unread
  pub by_number : r.unread ≡ up_to 255 r.by
  -- with none read the sum is 0, and there is no lowest, highest, mean or remainder
  pub none_read_lem : r.read ≡ 0 → (r.sum ≡ 0) × (r.figures ≡ none)
  pub some_read : 0 < r.read → (r.figures ≡ none → ⊥)
  pub of_read_lem : (f : Figures) → r.figures ≡ some f → OfRead r f
  -- nothing overflows: the counts have 16 bits, and the sum has 32
  pub within : r.seen ≤ 65535
  pub by_most : (k : ℕ) → r.by k ≤ r.unread
  pub sum : r.sum ≤ 65535 * 65535

-- the lowest and the highest are cycles of packs, and none has fewer or more
pub record Bounds (ps : List Said) (f : Figures) : Type 0 where
  pub lowest : 0 < occurs f.lowest (cycles_in ps)
  pub highest : 0 < occurs f.highest (cycles_in ps)
  pub between : (c : ℕ) → 0 < occurs c (cycles_in ps) → (f.lowest ≤ c) × (c ≤ f.highest)

-- the same in another order
pub data Reordered {A : Type 0} : List A → List A → Type 0 where
  same : {a : List A} → Reordered a a
  keep : (p : A) {a b : List A} → Reordered a b → Reordered (p ∷ a) (p ∷ b)
  swap : (p q : A) {a : List A} → Reordered (p ∷ q ∷ a) (q ∷ p ∷ a)
  and_then : {a b c : List A} → Reordered a b → Reordered b c → Reordered a c

-- the lower lowest and the higher highest
pub record JoinedFigures (f g : Figures) (joined : Option Figures) : Type 0 where
  pub figures : Figures
  pub there : joined ≡ some figures
  pub lowest : figures.lowest ≡ min f.lowest g.lowest
  pub highest : figures.highest ≡ max f.highest g.highest

-- the report over two files, one after the other
pub record Joined (r q j : Report) : Type 0 where
  pub seen : j.seen ≡ r.seen + q.seen
  pub read : j.read ≡ r.read + q.read
  pub unread : j.unread ≡ r.unread + q.unread
  pub by : (k : ℕ) → j.by k ≡ r.by k + q.by k
  pub sum : j.sum ≡ r.sum + q.sum
  -- where one has none read, the other's figures stand
  pub left : q.read ≡ 0 → j.figures ≡ r.figures
  pub right : r.read ≡ 0 → j.figures ≡ q.figures
  pub both : (f g : Figures) → r.figures ≡ some f → q.figures ≡ some g → JoinedFigures f g j.figures

pub record JoinedFiles (s t : List ℕ) (r q : Report) : Type 0 where
  pub report_of_lem : Report
  pub there : outcome_of (said_in (s ++ t)) ≡ report report_of_lem
  pub adds : Joined r q report_of_lem

-- the largest figures, and one pack too many
pub record Largest : Type 0 where
  pub bits : 65535 * 65535 < 4294967296
  pub sum : (report_of (replicate 65535 (Some (pack.Read 65535)))).sum ≡ 4294836225
  pub full : (p : Said) → Fits p → outcome_of (replicate 65535 p) ≡ report (report_of (replicate 65535 p))
  pub over : (p : Said) → Fits p → outcome_of (replicate 65536 p) ≡ refused 65536
  pub printed : text_of (outcome_of (replicate 65535 (Some (pack.Read 65535))))
      ≡ ascii "seen\t65535\nread\t65535\nunread\t0\nsum\t4294836225\nlowest\t65535\nhighest\t65535\nmean\t65535\nremainder\t0\n"
  pub printed_over : text_of (outcome_of (replicate 65536 (Some (pack.Unread 1)))) ≡ ascii "refused\t11\t65536\n"

pub record Reports : Type 0 where
  pub largest : Largest
  pub balanced : (input : List ℕ) (r : Report) → outcome_of (said_in input) ≡ report r → Balanced r
  pub bounds : (ps : List Said) (f : Figures) → (report_of ps).figures ≡ some f → Bounds ps f
  -- good lines may come in any order, whatever follows them
  pub reordered : (a b more : List Said) → AllPacks a → Reordered a b → outcome_of (a ++ more) ≡ outcome_of (b ++ more)
  pub reordered_files : (a b : List Said) (more : List ℕ) → AllFit a → Reordered a b
      → printed_of (file_of (map line_of a) ++ more) ≡ printed_of (file_of (map line_of b) ++ more)
  -- two files that have reports, one after the other
  pub joined : (s t : List ℕ) (r q : Report) → outcome_of (said_in s) ≡ report r → outcome_of (said_in t) ≡ report q → r.seen + q.seen ≤ 65535
      → JoinedFiles s t r q
