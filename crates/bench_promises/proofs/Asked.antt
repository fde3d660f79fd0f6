-- A request line asks for what its row says: the machine's tests of it, kind by kind.
-- Assumes nothing.
use Prim.Native.Nat.{ℕ, suc, ◌+◌, ◌-◌, ◌≤◌, ◌<◌}
use mathlib.Core.Path.{◌≡◌, refl}
use mathlib.Core.Bool.{Bool, true, false, ◌&&◌, ◌||◌}
use mathlib.Core.List.{List, [], ◌∷◌}
use native.Mathlib.Omega.{arith}
use lib.ListN.{length, drop, get_or}
use lib.Seq.{drop-cons}
use lib.Dec.{ltb, eqb}
use borrow.Author.Tests.{lt-ltb, le-ltb, eq-eqb, ne_eqb}
use Rattle.protocol.specs.Pick.{when◌then◌else◌}
use Rattle.calls.specs.declared.kind.Kind.{Kind}
use Rattle.hexadecimal.specs.Digits.{in_digits}
use Rattle.requests.specs.Fields.{pair_at, quad_at}
use Rattle.requests.specs.Request as requests
use Rattle.requests.specs.Request.{header_bytes, read_retries, config_of, header_of, call_for, called_of, exact_of}
use Rattle.requests.specs.Retired.{retired_kind}
use Rattle.requests.specs.declared.request.Header.{Header}
use Rattle.bench_promises.specs.Numbers.{number, field}
use Rattle.bench_promises.specs.Kinds.{bit, settings, begins, is_retired}
use Rattle.bench_promises.proofs.Flags.{two, pec_write, pec_read, growing}

-- ---- numbers

byte_on : (s : List ℕ) (at : ℕ) → at < length s → drop at s ≡ get_or s at 0 ∷ drop (at + 1) s
byte_on s at h = let e : at + 1 ≡ suc at = omega arith in rw e (drop-cons s at 0 h)

pub byte_at : (at : ℕ) (s : List ℕ) → at + 1 ≤ length s → field at 1 s ≡ get_or s at 0
unfolding number
byte_at at s h = rw (byte_on s at (omega arith)) (omega arith)

pub pair_at_lem : (at : ℕ) (s : List ℕ) → at + 2 ≤ length s → field at 2 s ≡ pair_at at s
unfolding number pair_at
pair_at_lem at s h = rw (byte_on s at (omega arith), byte_on s (at + 1) (omega arith)) (omega arith)

pub quad_at_lem : (at : ℕ) (s : List ℕ) → at + 4 ≤ length s → field at 4 s ≡ quad_at at s
unfolding number quad_at pair_at
quad_at_lem at s h =
    let e : at + 1 + 1 ≡ at + 2 = omega arith in
    let f : at + 2 + 1 ≡ at + 3 = omega arith in
    rw (byte_on s at (omega arith), byte_on s (at + 1) (omega arith), e, byte_on s (at + 2) (omega arith), f, byte_on s (at + 3) (omega arith)) (omega arith)

-- ---- the header

module _ (line : List ℕ) (byte : get_or line 1 0 < 256) where
  abbrev flags : ℕ
  flags = get_or line 1 0

  -- with two budgets, and with one number that is both
  pub two_budgets : bit 2 flags ≡ true → header_of line ≡ record { config = settings flags (pair_at 2 line) (pair_at 4 line); bytes = 6 }
  unfolding header_of header_bytes config_of read_retries when◌then◌else◌
  two_budgets e = rw (two flags byte, e, pec_write flags byte, pec_read flags byte, growing flags byte)

  pub one_budget : bit 2 flags ≡ false → header_of line ≡ record { config = settings flags (pair_at 2 line) (pair_at 2 line); bytes = 4 }
  unfolding header_of header_bytes config_of read_retries when◌then◌else◌
  one_budget e = rw (two flags byte, e, pec_write flags byte, pec_read flags byte, growing flags byte)

-- ---- the tests of a length

module _ (k : Kind) (header : Header) (at size n : ℕ) where
  pub missing : n < at → called_of k header at size n ≡ requests.bad
  unfolding called_of when◌then◌else◌
  missing h = rw (lt-ltb n at h) (by (ltb 8192 size))
    where
      by : (t : Bool) → (when t then requests.bad else requests.bad) ≡ requests.bad
      by true = refl
      by false = refl

  pub long : 8192 < n - at → called_of k header at size n ≡ requests.bad
  unfolding called_of when◌then◌else◌
  long h = rw (lt-ltb 8192 (n - at) h) (by (ltb 8192 size) (ltb n at))
    where
      by : (t u : Bool) → (when t then requests.bad else when u then requests.bad else requests.bad) ≡ requests.bad
      by true u = refl
      by false true = refl
      by false false = refl

  pub wide : 8192 < size → called_of k header at size n ≡ requests.bad
  unfolding called_of when◌then◌else◌
  wide h = rw (lt-ltb 8192 size h)

  pub called : at ≤ n → n - at ≤ 8192 → size ≤ 8192 → called_of k header at size n ≡ call_for k header.config (header.bytes + at) size
  unfolding called_of when◌then◌else◌
  called h l w = rw (le-ltb 8192 size w, le-ltb n at h, le-ltb 8192 (n - at) l)

  pub other : (p : ℕ) → (n ≡ at + p → ⊥) → exact_of k header at p size n ≡ requests.bad
  unfolding exact_of when◌then◌else◌
  other p h = rw (ne_eqb n (at + p) h)

  pub exact : (p : ℕ) → n ≡ at + p → exact_of k header at p size n ≡ called_of k header at size n
  unfolding exact_of when◌then◌else◌
  exact p h = rw (eq-eqb n (at + p) h)

-- ---- a retired kind

-- the two characters that are looked at are the two digits
pub same_retired : (line : List ℕ) → retired_kind line ≡ is_retired line
unfolding retired_kind is_retired begins in_digits when◌then◌else◌
same_retired [] = refl
same_retired (a ∷ []) = by (eqb a 0x30)
  where
    by : (t : Bool) → (when t then false else false) ≡ ((t && false) || (t && false))
    by true = refl
    by false = refl
same_retired (a ∷ b ∷ line) = by (eqb a 0x30) (eqb b 0x43) (eqb b 0x44)
  where
    by : (t u v : Bool) → (when t then (when u then true else when v then true else false) else false) ≡ ((t && (u && true)) || (t && (v && true)))
    by true true v = refl
    by true false true = refl
    by true false false = refl
    by false u v = refl
