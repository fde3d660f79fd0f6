-- The bench is the Rust, line by line: the longest line, and the statement.
-- Assumes nothing.
use Prim.Native.Nat.{ℕ, zero, suc, ◌+◌, ◌-◌, ◌*◌, ◌≤◌, ◌<◌}
use mathlib.Core.Path.{◌≡◌, refl, sym, ap, ◌∙◌}
use mathlib.Core.Bool.{Bool, true, false, false≢true}
use mathlib.Core.List.{List, [], ◌∷◌}
use native.Mathlib.Omega.{arith}
use lib.ListN.{length, drop, get_or, replicate, length-drop}
use lib.Dec.{ltb, eqb}
use borrow.Author.Rules.{rules}
use borrow.Author.Tests.{lt-ltb, le-ltb, eqb-true}
use Rattle.hexadecimal.specs.Hex.{bytes_of, digit_of, hex_of}
use Rattle.hexadecimal.specs.BothWays.{AllBytes}
use Rattle.hexadecimal.specs.Digits.{in_digits}
use Rattle.hexadecimal.specs.Line.{line_bytes}
use Rattle.hexadecimal.proofs.Laws.{length_hex}
use Rattle.hexadecimal.proofs.Digits.{encoded_line, hexadecimal}
use Rattle.protocol.specs.Pick.{when◌then◌else◌}
use Rattle.protocol.specs.declared.common.Side.{Side}
use Rattle.protocol.specs.declared.common.Side.TheVariants as side
use Rattle.protocol.specs.declared.common.Config.{Config}
use Rattle.protocol.specs.declared.error.Answer.TheVariants as answer
use Rattle.requests.specs.Request.{longest_request}
use Rattle.original.specs.OriginalCommon.{set_for}
use Rattle.original.specs.Bus.{BusOutcome, Read}
use Rattle.bench_promises.specs.Numbers.{number, field}
use Rattle.bench_promises.specs.Kinds.{Row, rows, Asked, bad, retired, call, asked_by, asked_among, bit, unknown_flag, settings, asked_in, begins, is_retired, asked_line}
use Rattle.bench_promises.specs.RustBench.{stopped, acknowledged_by, error_by, timeout_by, heard_in, longest_digits}
use Rattle.bench_promises.specs.LineByLine.{Longest, OneNumber, line_writes, LineByLine}
use Rattle.bench_promises.proofs.Flags.{known_one, known_two, set_two, other_bits}
use Rattle.bench_promises.proofs.Said.{read_back}
use Rattle.bench_promises.proofs.Lines.{each_line, writes}
use Rattle.bench_promises.proofs.Retired.{retired_kinds}

-- ---- the longest line

-- a line of more than 2 n digits has no bytes, or more than n
long_bytes : (line : List ℕ) (n : ℕ) → n * 2 < length line → (P : List ℕ → Type 0) → P [] → ((s : List ℕ) → n < length s → P s) → P (line_bytes line)
unfolding line_bytes when◌then◌else◌
long_bytes line n h P none some = by (eqb (length (bytes_of line) * 2) (length line)) refl
  where
    by : (t : Bool) → eqb (length (bytes_of line) * 2) (length line) ≡ t → P (when t then bytes_of line else [])
    by true e = some (bytes_of line) (omega (arith, eqb-true (length (bytes_of line) * 2) (length line) e))
    by false e = none

-- no row has more than six bytes before its payload, or a payload over 8,192
abbrev Few : List Row → Type 0
Few [] = Unit {0}
Few (row ∷ more) = (row.fixed ≤ 6) × (row.most ≤ 8192) × Few more

few_rows : Few rows
few_rows = search rules

long_row : (row : Row) (c : Config) (args : List ℕ) → row.fixed ≤ 6 → row.most ≤ 8192 → 8198 < length args → asked_by row c args ≡ bad
unfolding asked_by when◌then◌else◌
long_row row c args few most h =
    let l : row.most < length args - row.fixed = omega arith in
    rw (lt-ltb row.most (length args - row.fixed) l) (by (ltb (length args) row.fixed) (ltb (length args - row.fixed) row.least))
  where
    by : (a b : Bool) → (when a then bad else when b then bad else bad) ≡ bad
    by true b = refl
    by false true = refl
    by false false = refl

long_among : (table : List Row) → Few table → (k : ℕ) (c : Config) (args : List ℕ) → 8198 < length args → asked_among table k c args ≡ bad
unfolding asked_among when◌then◌else◌
long_among [] few k c args h = refl
long_among (row ∷ more) (fixed, most, few) k c args h = by (eqb k row.kind) (long_among more few k c args h)
  where
    by : (t : Bool) → asked_among more k c args ≡ bad → (when t then asked_by row c args else asked_among more k c args) ≡ bad
    by true e = long_row row c args fixed most h
    by false e = e

-- a header has at most six bytes
long_request : (s : List ℕ) → longest_request < length s → asked_in s ≡ bad
unfolding asked_in when◌then◌else◌
long_request s h =
    let two : 8198 < length (drop 6 s) = rw length-drop (omega arith) in
    let one : 8198 < length (drop 4 s) = rw length-drop (omega arith) in
    rw (long_among rows few_rows (get_or s 0 0) _ (drop 6 s) two, long_among rows few_rows (get_or s 0 0) _ (drop 4 s) one)
    (by (unknown_flag (get_or s 1 0)) (bit 2 (get_or s 1 0)) (ltb (length s) 6) (ltb (length s) 4))
  where
    by : (u t a b : Bool) → (when u then bad else when t then (when a then bad else bad) else (when b then bad else bad)) ≡ bad
    by true t a b = refl
    by false true true b = refl
    by false true false b = refl
    by false false a true = refl
    by false false a false = refl

long_outcome : (asked : ℕ) (s : List ℕ) → longest_request < length s → heard_in asked s ≡ stopped answer.BadLine
unfolding heard_in acknowledged_by error_by timeout_by when◌then◌else◌
long_outcome asked [] h = refl
long_outcome asked (b ∷ []) h = absurd (omega arith)
long_outcome asked (b ∷ x ∷ []) h = absurd (omega arith)
long_outcome asked (b ∷ x ∷ y ∷ s) h =
    let l : 8192 < length (x ∷ y ∷ s) = omega arith in
    rw (lt-ltb 8192 (length (x ∷ y ∷ s)) l) (by (eqb b 0) (eqb b 1) (eqb b 2))
  where
    by : (zero one two : Bool)
        → (when zero then stopped answer.BadLine else when one then stopped answer.BadLine else when two then stopped answer.BadLine else stopped answer.BadLine)
        ≡ stopped answer.BadLine
    by true one two = refl
    by false true two = refl
    by false false true = refl
    by false false false = refl

-- a command with two budgets and an input of 8,192 bytes, all of them 0 as its other arguments are
abbrev command : List ℕ
command = 0x05 ∷ 0x04 ∷ replicate (longest_request - 2) 0

all_zero : (n k : ℕ) → get_or (replicate n 0) k 0 < 256
all_zero zero k = omega arith
all_zero (suc n) zero = omega arith
all_zero (suc n) (suc k) = all_zero n k

command_bytes : AllBytes command
command_bytes zero = omega arith
command_bytes (suc zero) = omega arith
command_bytes (suc (suc k)) = all_zero (longest_request - 2) k

is_call : Asked → Bool
is_call bad = false
is_call retired = false
is_call (call rust ms) = true

its_call : (a : Asked) → is_call a ≡ true → (rust : List BusOutcome → Read) × (ms : List BusOutcome → ℕ) × (a ≡ call rust ms)
unfolding is_call
its_call bad e = absurd (false≢true e)
its_call retired e = absurd (false≢true e)
its_call (call rust ms) e = (rust, ms, refl)

command_asked : is_call (asked_in command) ≡ true
unfolding asked_in asked_among asked_by bit number when◌then◌else◌ is_call
command_asked = refl

-- it begins with 05
command_kept : is_retired (hex_of command) ≡ false
unfolding is_retired begins in_digits hex_of digit_of when◌then◌else◌
command_kept = refl

command_line : asked_line (hex_of command) ≡ asked_in command
unfolding asked_line when◌then◌else◌
command_line = rw command_kept (ap asked_in (encoded_line command command_bytes))

longer_line : (longer : List ℕ) → longest_digits < length longer → is_retired longer ≡ false → asked_line longer ≡ bad
unfolding asked_line asked_in bit when◌then◌else◌
longer_line longer h e = rw e (long_bytes longer longest_request (omega arith) (λ s. asked_in s ≡ bad) refl long_request)

longest_line : Longest longest_digits
unfolding heard_in
longest_line = record {
  line = hex_of command;
  long = length_hex command;
  valid = its_call (asked_line (hex_of command)) (ap is_call command_line ∙ command_asked);
  longer_request = longer_line;
  longer_outcome = λ asked longer h. long_bytes longer longest_request (omega arith) (λ s. heard_in asked s ≡ stopped answer.BadLine) refl (long_outcome asked);
}

-- ---- one number, and two

-- the side of a line that writes, and of any other
abbrev line_side : Bool → Side
line_side true = side.Write
line_side false = side.Read

-- each row is on the side of its line
abbrev Sided : List Row → Type 0
Sided [] = Unit {0}
Sided (row ∷ more) = ((args : List ℕ) → row.side (row.size args) ≡ line_side (line_writes row.kind args)) × Sided more

command_side : (n : ℕ) → (when eqb n 0 then side.Write else side.Read) ≡ line_side (eqb n 0)
unfolding when◌then◌else◌
command_side n = by (eqb n 0)
  where
    by : (t : Bool) → (when t then side.Write else side.Read) ≡ line_side t
    by true = refl
    by false = refl

sided : Sided rows
sided = (λ args. refl, (λ args. refl, (λ args. refl, (λ args. refl, (λ args. command_side (field 4 2 args), (λ args. refl, (λ args. refl, (λ args. refl, (λ args. refl, (λ args. refl, (λ args. refl, (λ args. refl, (λ args. refl, (λ args. refl, (λ args. refl, (λ args. refl, (λ args. refl, (λ args. refl, (λ args. refl, tt)))))))))))))))))))

-- a row goes by the settings of its side alone
by_side : (row : Row) (c d : Config) (args : List ℕ) → set_for (row.side (row.size args)) c ≡ set_for (row.side (row.size args)) d → c.growing_waits ≡ d.growing_waits
    → asked_by row c args ≡ asked_by row d args
unfolding asked_by
by_side row c d args e g = rw (e, g)

module _ (flags writes reads : ℕ) (args : List ℕ) where
  -- the budget of a line that writes, and of any other
  abbrev line_budget : Bool → ℕ
  line_budget true = writes
  line_budget false = reads

  abbrev both : Config
  both = settings flags writes reads

  abbrev one : Bool → Config
  one t = settings flags (line_budget t) (line_budget t)

  same_set : (t : Bool) → set_for (line_side t) both ≡ set_for (line_side t) (one t)
  same_set true = refl
  same_set false = refl

  own_among : (table : List Row) → Sided table → (k : ℕ) → asked_among table k both args ≡ asked_among table k (one (line_writes k args)) args
  unfolding asked_among when◌then◌else◌
  own_among [] s k = refl
  own_among (row ∷ more) (own, s) k = by (own_among more s k) (eqb k row.kind) refl
    where
      by : asked_among more k both args ≡ asked_among more k (one (line_writes k args)) args → (t : Bool) → eqb k row.kind ≡ t
          → (when t then asked_by row both args else asked_among more k both args) ≡ (when t then asked_by row (one (line_writes k args)) args else asked_among more k (one (line_writes k args)) args)
      by rest true e =
          let its : row.side (row.size args) ≡ line_side (line_writes k args) = own args ∙ ap (λ (n : ℕ). line_side (line_writes n args)) (sym (eqb-true k row.kind e)) in
          by_side row both (one (line_writes k args)) args (rw its (same_set (line_writes k args))) refl
      by rest false e = rest

module _ (kind flags : ℕ) (flagged : OneNumber flags) (arguments : List ℕ) where
  one_line : (a b : ℕ) → asked_in (kind ∷ flags ∷ a ∷ b ∷ arguments) ≡ asked_among rows kind (settings flags (number (a ∷ b ∷ [])) (number (a ∷ b ∷ []))) arguments
  unfolding asked_in when◌then◌else◌
  one_line a b =
      rw (known_one flags flagged.known flagged.clear, flagged.clear, le-ltb (length (kind ∷ flags ∷ a ∷ b ∷ arguments)) 4 (omega arith))

  two_line : (a b c d : ℕ) → asked_in (kind ∷ (flags + 4) ∷ a ∷ b ∷ c ∷ d ∷ arguments) ≡ asked_among rows kind (settings flags (number (a ∷ b ∷ [])) (number (c ∷ d ∷ []))) arguments
  unfolding asked_in when◌then◌else◌
  two_line a b c d =
      let bits = other_bits flags flagged.known flagged.clear in
      rw (
        known_two flags flagged.known flagged.clear,
        set_two flags flagged.known flagged.clear,
        bits.0,
        bits.1,
        bits.2,
        le-ltb (length (kind ∷ (flags + 4) ∷ a ∷ b ∷ c ∷ d ∷ arguments)) 6 (omega arith),
      )

  own_number : (a b c d : ℕ) → asked_in (kind ∷ (flags + 4) ∷ a ∷ b ∷ c ∷ d ∷ arguments)
      ≡ (when line_writes kind arguments then asked_in (kind ∷ flags ∷ a ∷ b ∷ arguments) else asked_in (kind ∷ flags ∷ c ∷ d ∷ arguments))
  unfolding when◌then◌else◌
  own_number a b c d = two_line a b c d ∙ own_among flags (number (a ∷ b ∷ [])) (number (c ∷ d ∷ [])) arguments rows sided kind ∙ by (line_writes kind arguments)
    where
      by : (t : Bool) → asked_among rows kind (one flags (number (a ∷ b ∷ [])) (number (c ∷ d ∷ [])) arguments t) arguments
          ≡ (when t then asked_in (kind ∷ flags ∷ a ∷ b ∷ arguments) else asked_in (kind ∷ flags ∷ c ∷ d ∷ arguments))
      by true = sym (one_line a b)
      by false = sym (one_line c d)

  old_lines : (low high : ℕ) → asked_in (kind ∷ flags ∷ low ∷ high ∷ arguments) ≡ asked_in (kind ∷ (flags + 4) ∷ low ∷ high ∷ low ∷ high ∷ arguments)
  old_lines low high = one_line low high ∙ sym (two_line low high low high)

-- the statement
pub line_by_line : LineByLine
line_by_line = record { lines = each_line; writes = writes; digits = hexadecimal; figures = read_back; longest = longest_line; own_number = λ kind flags a b c d arguments h. own_number kind flags h arguments a b c d; old_lines = λ kind flags low high arguments h. old_lines kind flags h arguments low high; retired = retired_kinds }
