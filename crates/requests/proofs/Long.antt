-- A line that is longer than any valid one is bad, whatever it says; and so is a request line with nothing on it.
-- Assumes nothing.
use Prim.Native.Nat.{ℕ, ◌+◌, ◌-◌, ◌≤◌, ◌<◌}
use mathlib.Core.Path.{◌≡◌, refl, sym}
use mathlib.Core.Bool.{Bool, true, false}
use mathlib.Core.List.{List, []}
use native.Mathlib.Omega.{arith}
use lib.ListN.{length, drop, get_or, length-drop}
use lib.Dec.{ltb}
use Rattle.std.specs.Prelude.{None}
use Rattle.protocol.specs.Pick.{when◌then◌else◌}
use Rattle.protocol.proofs.Cases.{cases}
use Rattle.calls.specs.declared.kind.Kind.{Kind}
use Rattle.requests.specs.Outcome.{acknowledged_line, error_line, timeout_line, outcome_line}
use Rattle.requests.specs.Request.{two_budgets, header_bytes, header_of, unknown_flags, longest_header, call_for, bad, called_of, longest_request, request_line}
use Rattle.requests.proofs.Every.{every_request}

-- whatever the test says
either : {A : Type 0} (t : Bool) (x y z : A) → x ≡ z → y ≡ z → (when t then x else y) ≡ z
unfolding when◌then◌else◌
either true x y z p q = p
either false x y z p q = q

pub empty_request : request_line [] ≡ bad
unfolding request_line unknown_flags header_of header_bytes two_budgets when◌then◌else◌
empty_request = refl

-- a header has at most six bytes
four_or_six : (t : Bool) → (when t then longest_header else 4) ≤ longest_header
unfolding when◌then◌else◌
four_or_six true = omega arith
four_or_six false = omega arith

header_most : (line : List ℕ) → (header_of line).bytes ≤ longest_header
unfolding header_of header_bytes
header_most line = four_or_six (two_budgets (get_or line 1 0))

pub long_request : (line : List ℕ) → longest_request < length line → request_line line ≡ bad
unfolding called_of
long_request line h = every_request (λ r. r ≡ bad) refl line (λ k at size few. long k at size few)
  where
    arguments : List ℕ
    arguments = drop (header_of line).bytes line

    n : length arguments ≡ length line - (header_of line).bytes
    n = length-drop (header_of line).bytes line

    long : (k : Kind) (at size : ℕ) → at ≤ 6 → called_of k (header_of line) at size (length arguments) ≡ bad
    long k at size few =
        let short : (header_of line).bytes ≤ longest_header = header_most line in
        let p : 8192 < length arguments - at = omega (arith, n) in
        let q : (when ltb 8192 (length arguments - at) then bad else call_for k (header_of line).config ((header_of line).bytes + at) size) ≡ bad = sym (search cases) in
        either (ltb 8192 size) _ _ _ refl (either (ltb (length arguments) at) _ _ _ refl q)

long_acknowledged : (n : ℕ) → 8193 < n → acknowledged_line n ≡ None
unfolding acknowledged_line
long_acknowledged n h = sym (search cases)

long_error : (code n : ℕ) → 8193 < n → error_line code n ≡ None
unfolding error_line
long_error code n h =
    let p : n ≡ 2 → ⊥ = λ e. omega arith in
    sym (search cases)

long_timeout : (n : ℕ) → 8193 < n → timeout_line n ≡ None
unfolding timeout_line
long_timeout n h =
    let p : n ≡ 1 → ⊥ = λ e. omega arith in
    sym (search cases)

-- the longest outcome line has a reply of 8,192 bytes
pub long_outcome : (line : List ℕ) → 8193 < length line → outcome_line line ≡ None
unfolding outcome_line
long_outcome line h =
    either _ _ _ _ refl
    (either _ _ _ _ (long_acknowledged (length line) h)
    (either _ _ _ _ (long_error (get_or line 1 0) (length line) h)
    (either _ _ _ _ (long_timeout (length line) h) refl)))
