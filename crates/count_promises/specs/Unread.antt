-- Unread is not zero: a pack that nobody has read never counts as a pack that nobody has used. (02, W-212)
-- Assumes nothing.
use Rattle.std.specs.Prelude.{ℕ, suc, ◌+◌, ◌<◌, ◌≡◌, List, [], ◌∷◌, ◌++◌, Some}
use Rattle.std.proofs.Math.Option.{none, some}
use Rattle.hexadecimal.specs.Text.{ascii}
use Rattle.lines.specs.Input.{rest_from}
use Rattle.packs.specs.Said.{Said}
use Rattle.packs.specs.declared.Pack.TheVariants as pack
use Rattle.report.specs.Report.{Figures, Report, report, line, by_number, text_of}
use Rattle.count_promises.specs.Packs.{said_in, report_of, outcome_of, printed_of}
use Rattle.count_promises.specs.Lines.{read_line, unread_line}
use Rattle.count_promises.specs.Reports.{JoinedFigures}

-- a report, and the one with one more pack that an answer kept from being read
pub record OneMoreUnread (answer : ℕ) (before after : Report) : Type 0 where
  pub seen : after.seen ≡ suc before.seen
  pub unread : after.unread ≡ suc before.unread
  pub own : after.by answer ≡ suc (before.by answer)
  -- and nothing else
  pub others : (k : ℕ) → (k ≡ answer → ⊥) → after.by k ≡ before.by k
  pub read : after.read ≡ before.read
  pub sum : after.sum ≡ before.sum
  pub figures : after.figures ≡ before.figures

-- a report, and the one with one more pack that was read
pub record OneMoreRead (cycles : ℕ) (before after : Report) : Type 0 where
  pub seen : after.seen ≡ suc before.seen
  pub read : after.read ≡ suc before.read
  pub sum : after.sum ≡ before.sum + cycles
  pub first : before.figures ≡ none → after.figures ≡ some record { lowest = cycles; highest = cycles; mean = cycles; remainder = 0 }
  pub further : (f : Figures) → before.figures ≡ some f
      → JoinedFigures record { lowest = cycles; highest = cycles; mean = cycles; remainder = 0 } f after.figures
  -- and nothing else
  pub unread : after.unread ≡ before.unread
  pub by : (k : ℕ) → after.by k ≡ before.by k

-- the text of a report with none read: there is no lowest, highest, mean or remainder in it
unfoldable pub none_read : Report → List ℕ
none_read r =
    line (ascii "seen") r.seen
    ++ (line (ascii "read") 0 ++ (line (ascii "unread") r.unread ++ (by_number r.by 255 1 ++ line (ascii "sum") 0)))

-- a file, and one with a line more, of an unread pack, between two of its lines
pub record OneMoreLine (s t : List ℕ) (answer : ℕ) (before : Report) : Type 0 where
  pub after : Report
  pub there : outcome_of (said_in (s ++ (unread_line answer ++ (10 ∷ t)))) ≡ report after
  pub adds : OneMoreUnread answer before after

pub record UnreadIsNotZero : Type 0 where
  pub adds : (a b : List Said) (answer : ℕ) → OneMoreUnread answer (report_of (a ++ b)) (report_of (a ++ Some (pack.Unread answer) ∷ b))
  pub adds_line : (s t : List ℕ) (answer : ℕ) (r : Report) → rest_from [] s ≡ [] → 0 < answer → answer < 256 → outcome_of (said_in (s ++ t)) ≡ report r → r.seen < 65535
      → OneMoreLine s t answer r
  pub none_read_lem : (input : List ℕ) (r : Report) → outcome_of (said_in input) ≡ report r → r.read ≡ 0 → text_of (report r) ≡ none_read r
  pub adds_read : (a b : List Said) (cycles : ℕ) → OneMoreRead cycles (report_of (a ++ b)) (report_of (a ++ Some (pack.Read cycles) ∷ b))
  -- two files that differ in one pack, which is unread in one and read in the other, have different reports, also where it has 0 cycles
  pub differs : (s t : List ℕ) (answer cycles : ℕ) (r : Report) → rest_from [] s ≡ [] → 0 < answer → answer < 256 → cycles < 65536
      → outcome_of (said_in (s ++ (unread_line answer ++ (10 ∷ t)))) ≡ report r
      → printed_of (s ++ (unread_line answer ++ (10 ∷ t))) ≡ printed_of (s ++ (read_line cycles ++ (10 ∷ t))) → ⊥
