-- What is promised of the bench program: whatever is on standard input, however it is cut, what is written is what the Rust does, in hexadecimal, but for
-- the kinds that were retired and, where waits grow, for their milliseconds, which are in closed words. (01, The bench program; 02, W-203, W-210, W-211)
-- Assumes nothing.
use Rattle.std.specs.Prelude.{ℕ, ◌+◌, ◌<◌, ◌≡◌, Bool, false, ◌&&◌, ◌||◌, List, [], ◌∷◌, length, eqb}
use Rattle.protocol.specs.Pick.{when◌then◌else◌}
use Rattle.protocol.specs.declared.error.Answer.TheVariants as answer
use Rattle.hexadecimal.specs.Line.{line_bytes}
use Rattle.hexadecimal.specs.Digits.{Hexadecimal}
use Rattle.dialogue.specs.Bench.{bench_of}
use Rattle.session.specs.Laws.{Writes}
use Rattle.bench_promises.specs.Numbers.{field, ReadBack}
use Rattle.original.specs.Bus.{BusOutcome, Read}
use Rattle.bench_promises.specs.Kinds.{bad, call, bit, asked_in, is_retired, asked_line}
use Rattle.bench_promises.specs.RustBench.{stopped, heard_in, rust_bench, rust_printed, longest_digits, rust_so_far}
use Rattle.bench_promises.specs.Retired.{RetiredKinds}

-- some line of this many digits is valid; every longer one is bad, as a request unless its kind is retired, and as an outcome
pub record Longest (digits : ℕ) : Type 0 where
  pub line : List ℕ
  pub long : length line ≡ digits
  pub valid : (rust : List BusOutcome → Read) × (ms : List BusOutcome → ℕ) × (asked_line line ≡ call rust ms)
  pub longer_request : (longer : List ℕ) → digits < length longer → is_retired longer ≡ false → asked_line longer ≡ bad
  pub longer_outcome : (asked : ℕ) (longer : List ℕ) → digits < length longer → heard_in asked (line_bytes longer) ≡ stopped answer.BadLine

-- the flags of a line with one number of retries
pub record OneNumber (flags : ℕ) : Type 0 where
  pub known : flags < 16
  pub clear : bit 2 flags ≡ false

-- one of these numbers
abbrev among : List ℕ → ℕ → Bool
among [] n = false
among (k ∷ ks) n = eqb n k || among ks n

-- a line that writes, by its kind and its arguments: a command does where the length of its output is 0
abbrev pub line_writes : ℕ → List ℕ → Bool
line_writes kind arguments =
    among (0x01 ∷ 0x03 ∷ 0x07 ∷ 0x09 ∷ 0x0B ∷ 0x0E ∷ 0x10 ∷ 0x12 ∷ 0x14 ∷ 0x15 ∷ []) kind || (eqb kind 0x05 && eqb (field 4 2 arguments) 0)

pub record LineByLine : Type 0 where
  -- from line to line the bench is the Rust, and refuses what was retired; where waits grow their milliseconds are in closed words
  pub lines : (lines : List (List ℕ)) (rest : List ℕ) → bench_of lines rest ≡ rust_bench lines rest
  -- so is what the program's loop writes, wherever it may stand
  pub writes : Writes rust_printed rust_so_far
  -- in upper-case hexadecimal
  pub digits : Hexadecimal
  -- each figure that its bytes can hold is read back as what it was
  pub figures : ReadBack
  -- the longest line
  pub longest : Longest longest_digits
  -- of two budgets a line goes by the one of its side: it asks for what the line asks for that has this number alone
  pub own_number : (kind flags a b c d : ℕ) (arguments : List ℕ) → OneNumber flags
      → asked_in (kind ∷ (flags + 4) ∷ a ∷ b ∷ c ∷ d ∷ arguments)
      ≡ (when line_writes kind arguments then asked_in (kind ∷ flags ∷ a ∷ b ∷ arguments) else asked_in (kind ∷ flags ∷ c ∷ d ∷ arguments))
  -- an old line means what it did: its one number fills both budgets, as if it stood there twice behind bit 2
  pub old_lines : (kind flags low high : ℕ) (arguments : List ℕ) → OneNumber flags
      → asked_in (kind ∷ flags ∷ low ∷ high ∷ arguments) ≡ asked_in (kind ∷ (flags + 4) ∷ low ∷ high ∷ low ∷ high ∷ arguments)
  -- the retired kinds
  pub retired : RetiredKinds
