-- The lines that are printed are those of the definition over the Rust.
-- Assumes nothing.
use Prim.Native.Nat.{ℕ, zero, suc, ◌*◌, ◌/◌, ◌%◌, ◌^◌, ◌<◌}
use mathlib.Core.Path.{◌≡◌, refl, ap, subst}
use mathlib.Core.List.{List, [], ◌∷◌}
use native.Mathlib.Nat.{pow-suc}
use native.Mathlib.Omega.{arith}
use lib.ListN.{length}
use borrow.Author.Tests.{ne_eqb}
use Rattle.protocol.specs.Pick.{when◌then◌else◌}
use Rattle.protocol.specs.Answer.{detail_of}
use Rattle.protocol.specs.Frame.{pair_of}
use Rattle.protocol.specs.declared.error.Answer.{Answer}
use Rattle.protocol.specs.declared.error.Answer.TheVariants as answer
use Rattle.engine.specs.declared.budget.Tally.{Tally}
use Rattle.hexadecimal.specs.BothWays.{AllBytes}
use Rattle.printing.specs.Printing.{quad_of, read_said, end_said, cut_said}
use Rattle.dialogue.specs.Dialogue.{last_of}
use Rattle.bench_promises.specs.Numbers.{low_first, number, ReadBack}
use Rattle.bench_promises.specs.RustBench.{end_line, cut_line}

-- four bytes, low byte first
quad_low : (n : ℕ) → quad_of n ≡ low_first 4 n
unfolding quad_of low_first
quad_low n =
    let a : n / 65536 % 256 ≡ n / 256 / 256 % 256 = omega arith in
    let b : n / 16777216 % 256 ≡ n / 256 / 256 / 256 % 256 = omega arith in
    rw (a, b)

pair_low : (n : ℕ) → pair_of n ≡ low_first 2 n
unfolding pair_of low_first
pair_low n = refl

pub end_said_lem : (a : Answer) (tally : Tally) (buffer : List ℕ) → end_said a tally buffer ≡ end_line a tally.waits tally.waited_ms buffer
unfolding end_said end_line
end_said_lem a tally buffer = rw (← pair_low (detail_of a), ← quad_low tally.waits, ← quad_low tally.waited_ms)

pub last_said : (tally : Tally) (rest buffer : List ℕ) → last_of tally (length rest) buffer ≡ cut_line rest tally.waits tally.waited_ms buffer
unfolding last_of cut_said cut_line when◌then◌else◌
last_said tally [] buffer = rw (← quad_low tally.waits, ← quad_low tally.waited_ms)
last_said tally (b ∷ rest) buffer = rw (ne_eqb (suc (length rest)) 0 (λ e. omega arith)) (end_said_lem answer.BadLine tally buffer)

pub read_said_lem : (command count : ℕ) → read_said command count ≡ 0x01 ∷ command ∷ low_first 2 count
unfolding read_said
read_said_lem command count = rw (← pair_low count)

-- ---- read back

back : (width n : ℕ) → n < 256 ^ width → number (low_first width n) ≡ n
unfolding low_first number
back zero n h = omega arith
back (suc width) n h =
    let q : n < 256 ^ width * 256 = subst (λ (x : ℕ). n < x) (pow-suc 256 width) h in
    let m : n / 256 < 256 ^ width = omega arith in
    rw (back width (n / 256) m) (omega arith)

length_low : (width n : ℕ) → length (low_first width n) ≡ width
unfolding low_first
length_low zero n = refl
length_low (suc width) n = ap suc (length_low width (n / 256))

bytes_low : (width n : ℕ) → AllBytes (low_first width n)
unfolding low_first
bytes_low zero n k = omega arith
bytes_low (suc width) n zero = omega arith
bytes_low (suc width) n (suc k) = bytes_low width (n / 256) k

pub read_back : ReadBack
read_back = record { back = back; bytes = λ width n. (length_low width n, bytes_low width n) }
