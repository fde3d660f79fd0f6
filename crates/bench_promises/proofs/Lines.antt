-- From line to line, and so byte by byte, the bench is the Rust.
-- Assumes nothing.
use Prim.Native.Nat.{ℕ, ◌+◌, ◌≤◌, ◌<◌}
use mathlib.Core.Path.{◌≡◌, refl, sym, ap, subst, ◌∙◌}
use mathlib.Core.Bool.{Bool, true, false}
use mathlib.Core.List.{List, [], ◌∷◌, ◌++◌}
use native.Mathlib.Omega.{arith}
use lib.ListN.{length, take, drop, get_or}
use lib.Dec.{ltb}
use borrow.Author.Tests.{ltb-false}
use Rattle.hexadecimal.specs.BothWays.{AllBytes}
use Rattle.hexadecimal.specs.Line.{line_bytes, feeds}
use Rattle.hexadecimal.proofs.Digits.{line_bytes_lem}
use Rattle.protocol.specs.Pick.{when◌then◌else◌}
use Rattle.protocol.specs.Common.{TwoByteBudgets}
use Rattle.protocol.specs.declared.common.Config.{Config}
use Rattle.protocol.specs.declared.error.Answer.TheVariants as answer
use Rattle.engine.specs.Budget.{nothing}
use Rattle.requests.specs.Fields.{pair_at}
use Rattle.requests.specs.Request as requests
use Rattle.requests.specs.Request.{header_of, asked_of, request_line}
use Rattle.requests.specs.Retired.{retired_kind}
use Rattle.lines.specs.Input.{lines_from, rest_from}
use Rattle.dialogue.specs.Dialogue.{unfinished_of}
use Rattle.dialogue.specs.Bench.{request_then, request_of, bench_of}
use Rattle.session.specs.Output.{printed, early, printed_so_far}
use Rattle.session.specs.Laws.{Begins, Writes}
use Rattle.session.proofs.Loop.{laws}
use Rattle.bench_promises.specs.Numbers.{field}
use Rattle.bench_promises.specs.Kinds.{rows, bad, asked_among, bit, unknown_flag, settings, asked_in, asked_line, asked_cut}
use Rattle.bench_promises.specs.RustBench.{run_asked, rust_bench, rust_printed, rust_so_far}
use Rattle.bench_promises.proofs.Said.{end_said_lem}
use Rattle.bench_promises.proofs.Flags.{unknown}
use Rattle.bench_promises.proofs.Asked.{pair_at_lem, two_budgets, one_budget, same_retired}
use Rattle.bench_promises.proofs.Rows.{same_bad, every_kind}

-- two bytes are a 16-bit number
few : (s : List ℕ) → AllBytes s → (at : ℕ) → pair_at at s ≤ 65535
unfolding pair_at
few s bytes at = omega (arith, bytes at, bytes (at + 1))

few_retries : (flags a b : ℕ) → a ≤ 65535 → b ≤ 65535 → TwoByteBudgets (settings flags a b)
few_retries flags a b x y = (x, y)

module _ (bytes : List ℕ) (small : AllBytes bytes) (lines : List (List ℕ)) (rest : List ℕ) where
  abbrev flags : ℕ
  flags = get_or bytes 1 0

  -- budgets that stand at these places of the header
  module _ (i j before : ℕ) (x : i + 2 ≤ before) (y : j + 2 ≤ before) where
    abbrev own : Config
    own = settings flags (pair_at i bytes) (pair_at j bytes)

    after_header : (t : Bool) → ltb (length bytes) before ≡ t
        → request_then (when t then requests.bad else asked_of (get_or bytes 0 0) (record { config = own; bytes = before }) (drop before bytes)) bytes lines rest
        ≡ run_asked (when t then bad else asked_among rows (get_or bytes 0 0) (settings flags (field i 2 bytes) (field j 2 bytes)) (drop before bytes)) lines rest
    unfolding when◌then◌else◌
    after_header true e = same_bad bytes lines rest own before requests.bad refl
    after_header false e =
        let h : before ≤ length bytes = ltb-false (length bytes) before e in
        rw (pair_at_lem i bytes (omega arith), pair_at_lem j bytes (omega arith)) (every_kind bytes lines rest own before (few_retries flags _ _ (few bytes small i) (few bytes small j)) small (get_or bytes 0 0))

  request_line_lem : request_then (request_line bytes) bytes lines rest ≡ run_asked (asked_in bytes) lines rest
  unfolding request_line asked_in when◌then◌else◌
  request_line_lem = rw (unknown flags (small 1)) (by (unknown_flag flags) (bit 2 flags) refl)
    where
      by : (u t : Bool) → bit 2 flags ≡ t
          → request_then (when u then requests.bad else when ltb (length bytes) (header_of bytes).bytes then requests.bad else asked_of (get_or bytes 0 0) (header_of bytes) (drop (header_of bytes).bytes bytes)) bytes lines rest
          ≡ run_asked
          (when u then bad else
          when t then (when ltb (length bytes) 6 then bad else asked_among rows (get_or bytes 0 0) (settings flags (field 2 2 bytes) (field 4 2 bytes)) (drop 6 bytes))
          else (when ltb (length bytes) 4 then bad else asked_among rows (get_or bytes 0 0) (settings flags (field 2 2 bytes) (field 2 2 bytes)) (drop 4 bytes))) lines rest
      by true t e = same_bad bytes lines rest (header_of bytes).config 0 requests.bad refl
      by false true e = rw (two_budgets bytes (small 1) e) (after_header 2 4 6 (omega arith) (omega arith) (ltb (length bytes) 6) refl)
      by false false e = rw (one_budget bytes (small 1) e) (after_header 2 2 4 (omega arith) (omega arith) (ltb (length bytes) 4) refl)

pub each_line : (lines : List (List ℕ)) (rest : List ℕ) → bench_of lines rest ≡ rust_bench lines rest
unfolding bench_of request_of request_then unfinished_of rust_bench asked_line asked_cut run_asked nothing when◌then◌else◌
each_line [] rest = by (retired_kind rest) refl
  where
    by : (t : Bool) → retired_kind rest ≡ t → bench_of [] rest ≡ rust_bench [] rest
    by true e = rw (e, sym (same_retired rest) ∙ e) (ap (λ (s : List ℕ). s ∷ []) (end_said_lem answer.RetiredKind nothing []))
    by false e = rw (e, sym (same_retired rest) ∙ e) (ap (λ (s : List ℕ). s ∷ []) (end_said_lem answer.BadLine nothing []))
each_line (line ∷ lines) rest = by (retired_kind line) refl
  where
    by : (t : Bool) → retired_kind line ≡ t → bench_of (line ∷ lines) rest ≡ rust_bench (line ∷ lines) rest
    by true e = rw (e, sym (same_retired line) ∙ e) (ap (λ (s : List ℕ). s ∷ []) (end_said_lem answer.RetiredKind nothing []))
    by false e = rw (e, sym (same_retired line) ∙ e) (request_line_lem (line_bytes line) (line_bytes_lem line) lines rest)

all_printed : (input : List ℕ) → printed input ≡ rust_printed input
unfolding printed rust_printed
all_printed input = ap feeds (each_line (lines_from [] input) (rest_from [] input))

soon_printed : (input : List ℕ) → printed_so_far input ≡ rust_so_far input
unfolding printed_so_far early rust_so_far
soon_printed input =
    ap (λ (said : List (List ℕ)). feeds (take (length (lines_from [] input) + early (rest_from [] input)) said)) (each_line (lines_from [] input) (rest_from [] input))

-- what is written is what the Rust does
pub writes : Writes rust_printed rust_so_far
writes = record {
  over = λ first fresh {rounds} {read} {wrote} {chunk} {end} {d} r off clear more none. laws.over first fresh r off clear more none ∙ all_printed (read ++ more);
  reads = λ first fresh {rounds} {read} {wrote} {chunk} {d} r ready used. laws.reads first fresh r ready used ∙ soon_printed read;
  waits = λ first fresh {rounds} {read} {wrote} {chunk} {d} r ready used. subst (λ (s : List ℕ). length wrote < length s) (all_printed read) (laws.waits first fresh r ready used);
  ends = λ {first} {rounds} {read} {wrote} {chunk} {d} r. laws.ends r;
  advances = laws.advances;
  clears = laws.clears;
  starts = λ first fresh {rounds} {read} {wrote} {chunk} {end} {d} r more none. subst (Begins wrote) (all_printed (read ++ more)) (laws.starts first fresh r more none);
  so_far_lem = λ input more.
      let s = laws.so_far_lem input more in (
        rw (← soon_printed input, ← all_printed (input ++ more)) s.0,
        rw (← soon_printed input, ← soon_printed (input ++ more)) s.1,
      );
}
