-- The text that is printed tells every figure: two inputs for which the same is printed have the same outcome. (02, W-212)
-- Assumes nothing.
use Rattle.std.specs.Prelude.{ℕ, ◌≤◌, ◌<◌, ◌≡◌, List}
use Rattle.std.proofs.Math.Option.{some}
use Rattle.protocol.specs.Answer.{number_of}
use Rattle.protocol.specs.declared.error.Answer.TheVariants as answer
use Rattle.hexadecimal.specs.Text.{ascii}
use Rattle.report.specs.Decimal.{decimal_of}
use Rattle.report.specs.Report.{Figures, Report, report, refused, text_of}
use Rattle.count_promises.specs.Packs.{said_in, outcome_of, printed_of}

-- figures of at most ten digits
pub record TenDigits (r : Report) : Type 0 where
  pub seen : r.seen < 10000000000
  pub read : r.read < 10000000000
  pub unread : r.unread < 10000000000
  pub by : (k : ℕ) → r.by k < 10000000000
  pub sum : r.sum < 10000000000
  pub figures : (f : Figures) → r.figures ≡ some f
      → (f.lowest < 10000000000) × (f.highest < 10000000000) × (f.mean < 10000000000) × (f.remainder < 10000000000)

pub record SameReport (r q : Report) : Type 0 where
  pub seen : r.seen ≡ q.seen
  pub read : r.read ≡ q.read
  pub unread : r.unread ≡ q.unread
  pub by : (k : ℕ) → 0 < k → k ≤ 255 → r.by k ≡ q.by k
  pub sum : r.sum ≡ q.sum
  pub figures : r.figures ≡ q.figures

pub record Tells : Type 0 where
  pub inputs : (s t : List ℕ) → printed_of s ≡ printed_of t → outcome_of (said_in s) ≡ outcome_of (said_in t)
  -- of the text alone
  pub reports : (r q : Report) → TenDigits r → TenDigits q → text_of (report r) ≡ text_of (report q) → SameReport r q
  pub refusals : (m n : ℕ) → m < 10000000000 → n < 10000000000 → text_of (refused m) ≡ text_of (refused n) → m ≡ n
  pub apart : (r : Report) (n : ℕ) → text_of (report r) ≡ text_of (refused n) → ⊥
  -- the number in a refusal is that of a bad line
  pub bad_line : decimal_of (number_of answer.BadLine) ≡ ascii "11"
