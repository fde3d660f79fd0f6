-- What the proofs of `packs` share: sheets from their parts, and a pack that is counted, by what its line says.
-- Assumes nothing.
use Prim.Native.Nat.{ℕ, ◌+◌, ◌*◌, ◌/◌, ◌%◌, ◌≤◌, ◌<◌}
use mathlib.Core.Path.{◌≡◌, refl, sym, ap, ◌∙◌}
use mathlib.Core.Bool.{Bool, true, false, not}
use mathlib.Core.List.{List}
use mathlib.Core.Logic.{◌⊎◌, inl, inr}
use native.Mathlib.Omega.{arith}
use lib.Dec.{ltb, leb, eqb}
use borrow.Author.Tests.{lt-ltb, le-ltb, le-leb, lt-leb, ltb-true, ltb-false, leb-true}
use Rattle.std.specs.Bool.{then_some}
use Rattle.std.specs.Prelude.{Option, Some, None}
use Rattle.packs.specs.declared.Pack.{Pack}
use Rattle.packs.specs.Said.{Said}
use Rattle.packs.specs.declared.Pack.TheVariants as pack
use Rattle.packs.specs.declared.Count.{Count}
use Rattle.packs.specs.declared.Reader.{Reader}
use Rattle.protocol.specs.Pick.{when◌then◌else◌}
use Rattle.protocol.proofs.Cases.{yes_lt, not_lt}
use Rattle.hexadecimal.specs.Hex.{value_of, byte_of}
use Rattle.packs.specs.Digits.{up_to}
use Rattle.packs.specs.declared.Sheet.{Sheet}
use Rattle.packs.specs.Sheet.{sheet}
use Rattle.packs.specs.Count.{add_read, add_unread, one_more, between_of, refused_of, said_of, counted_by, counted_of, digit_of, step_of}
use Rattle.packs.specs.Ahead.{used_by, turn_of}

pub same_sheet : (r q : Reader) (m n : List ℕ) → r ≡ q → m ≡ n → sheet r m ≡ sheet q n
same_sheet r q m n e f = rw (e, f)

-- between two lines, after a count that a call gave
pub same_between : (r : Reader) (y z : Count) (m n : List ℕ) → r ≡ between_of y → y ≡ z → m ≡ n → sheet r m ≡ sheet (between_of z) n
same_between r y z m n e f g = rw (e, f, g)

pub says_read : (s : Said) (p : Pack) (k : ℕ) (x : Sheet) (count : Count) (n : List ℕ) → s ≡ Some p → p ≡ pack.Read k → x ≡ sheet (between_of (add_read count k)) n
    → x ≡ counted_by s count n
unfolding counted_by
says_read s p k x count n e f q = rw (e, f) q

pub says_unread : (s : Said) (p : Pack) (k : ℕ) (x : Sheet) (count : Count) (n : List ℕ) → s ≡ Some p → p ≡ pack.Unread k
    → x ≡ sheet (between_of (add_unread count)) (one_more k n) → x ≡ counted_by s count n
unfolding counted_by
says_unread s p k x count n e f q = rw (e, f) q

pub says_nothing : (s : Said) (x : Sheet) (count : Count) (n : List ℕ) → s ≡ None → x ≡ sheet (refused_of count) n → x ≡ counted_by s count n
unfolding counted_by
says_nothing s x count n e q = rw e q

-- with what a call gave: the line, a digit's value, the two bytes of a count
pub same_counted : (x : Sheet) (s t : Said) (count : Count) (n : List ℕ) → x ≡ counted_of s count n → s ≡ t → x ≡ counted_of t count n
same_counted x s t count n q e = rw (sym e) q

pub same_digit : (r q : Reader) (v w : ℕ) (m n : List ℕ) → r ≡ digit_of q v → v ≡ w → m ≡ n → sheet r m ≡ sheet (digit_of q w) n
same_digit r q v w m n e f g = rw (e, f, g)

-- a number that may be none: where it is, and where it is not
pub up_is_none : (o : Option ℕ) (m n : ℕ) → o ≡ up_to m n → o ≡ None → m < n
unfolding up_to when◌then◌else◌
up_is_none o m n e f = by (ltb m n) refl
  where
    by : (t : Bool) → ltb m n ≡ t → m < n
    by true h = ltb-true m n h
    by false h = let g : None ≡ Some n = sym f ∙ e ∙ rw h refl in absurd (cc)

pub up_is_some : (o : Option ℕ) (v m n : ℕ) → o ≡ up_to m n → o ≡ Some v → (n ≤ m) × (v ≡ n)
unfolding up_to when◌then◌else◌
up_is_some o v m n e f = by (ltb m n) refl
  where
    by : (t : Bool) → ltb m n ≡ t → (n ≤ m) × (v ≡ n)
    by true h = let g : Some v ≡ None = sym f ∙ e ∙ rw h refl in absurd (cc)
    by false h = let g : Some v ≡ Some n = sym f ∙ e ∙ rw h refl in (ltb-false m n h, cc)

pub up_none : {A : Type 0} (o : Option ℕ) (m n : ℕ) (x a b : A) → o ≡ up_to m n → o ≡ None → x ≡ a → x ≡ when◌then◌else◌ (ltb m n) a b
up_none o m n x a b e f q = yes_lt m n x a b (up_is_none o m n e f) q

pub up_some : {A : Type 0} (o : Option ℕ) (v m n : ℕ) (x a b : A) → o ≡ up_to m n → o ≡ Some v → x ≡ b → x ≡ when◌then◌else◌ (ltb m n) a b
up_some o v m n x a b e f q = not_lt m n x a b (up_is_some o v m n e f).0 q

-- two digits, of which one is none, and two that are
pub no_pair : (u v high low : ℕ) → u ≡ value_of high → v ≡ value_of low → (15 < u) ⊎ ((u ≤ 15) × (15 < v)) → None ≡ up_to 255 (byte_of high low)
unfolding up_to byte_of when◌then◌else◌
no_pair u v high low e f (inl h) = rw (← e, lt-ltb 15 u h)
no_pair u v high low e f (inr h) = rw (← e, ← f, le-ltb 15 u h.0, lt-ltb 15 v h.1)

pub a_pair : (u v high low : ℕ) → u ≡ value_of high → v ≡ value_of low → u ≤ 15 → v ≤ 15 → Some (u * 16 + v) ≡ up_to 255 (byte_of high low)
unfolding up_to byte_of when◌then◌else◌
a_pair u v high low e f h k = rw (← e, ← f, le-ltb 15 u h, le-ltb 15 v k, le-ltb 255 (u * 16 + v) (omega arith))

-- what two bytes say, and one
pub same_cycles : (o p : Option ℕ) (r v w m n : ℕ) → o ≡ up_to 255 m → o ≡ Some v → p ≡ up_to 255 n → p ≡ Some w → r ≡ v + w * 256
    → Some (pack.Read r) ≡ Some (pack.Read (n * 256 + m))
same_cycles o p r v w m n e f g h q =
    let a = up_is_some o v 255 m e f in
    let b = up_is_some p w 255 n g h in
    ap Some (ap pack.Read (omega arith))

pub same_answer : (o : Option ℕ) (v n : ℕ) (x : Said) → o ≡ up_to 255 n → o ≡ Some v → x ≡ then_some (not (eqb v 0)) (pack.Unread v)
    → x ≡ when eqb n 0 then None else when ltb 255 n then None else Some (pack.Unread n)
unfolding when◌then◌else◌
same_answer o v n x e f q =
    let a = up_is_some o v 255 n e f in
    rw (← a.1, le-ltb 255 v (omega arith)) (by (eqb v 0) refl)
  where
    by : (t : Bool) → eqb v 0 ≡ t → x ≡ when t then None else Some (pack.Unread v)
    by true h = rw h at q
    by false h = rw h at q

-- the number of a pack's line, and a number that no pack's line has
pub says_cycles : (line cycles : ℕ) → 0x1000000 ≤ line → line < 0x1010000 → cycles ≡ line % 256 * 256 + line / 256 % 256 → Some (pack.Read cycles) ≡ said_of line
unfolding said_of when◌then◌else◌
says_cycles line cycles h k e = rw (le-leb 0x1000000 line h, lt-ltb line 0x1010000 k, e)

pub says_answer : (line answer : ℕ) → 0x10100 < line → line < 0x10200 → answer ≡ line % 256 → Some (pack.Unread answer) ≡ said_of line
unfolding said_of when◌then◌else◌
says_answer line answer h k e = rw (lt-leb 0x1000000 line (omega arith), lt-ltb 0x10100 line h, lt-ltb line 0x10200 k, e)

pub says_none : (line : ℕ) → (0x1000000 ≤ line → 0x1010000 ≤ line) → (0x10100 < line → 0x10200 ≤ line) → None ≡ said_of line
unfolding said_of when◌then◌else◌
says_none line f g = by (leb 0x1000000 line) refl
  where
    by : (t : Bool) → leb 0x1000000 line ≡ t
        → None ≡ when t then (when ltb line 0x1010000 then Some (pack.Read (line % 256 * 256 + line / 256 % 256)) else None) else (when ltb 0x10100 line then (when ltb line 0x10200 then Some (pack.Unread (line % 256)) else None) else None)
    by true h = rw (le-ltb line 0x1010000 (f (leb-true _ _ h)))
    by false h = of (ltb 0x10100 line) refl
      where
        of : (u : Bool) → ltb 0x10100 line ≡ u → None ≡ when u then (when ltb line 0x10200 then Some (pack.Unread (line % 256)) else None) else None
        of true k = rw (le-ltb line 0x10200 (g (ltb-true _ _ k)))
        of false k = refl

-- a byte at least is used
pub used_some : (s : Said) → 0 < used_by s
unfolding used_by
used_some (Some (pack.Read k)) = omega arith
used_some (Some (pack.Unread k)) = omega arith
used_some None = omega arith

-- a turn, by the line that lies whole there
pub turn_line : (s : Said) (p : Pack) (b at k : ℕ) (x d : Sheet) → s ≡ Some p → k ≡ used_by (Some p) → x ≡ counted_of (Some p) d.reader.count d.numbers
    → (at + k ≡ at + used_by s) × (x ≡ turn_of s b d)
unfolding turn_of
turn_line s (pack.Read n) b at k x d e f q = (rw (e, f), rw e q)
turn_line s (pack.Unread n) b at k x d e f q = (rw (e, f), rw e q)

pub turn_byte : (s : Said) (b at next : ℕ) (x d : Sheet) → s ≡ None → next ≡ at + 1 → x ≡ step_of b d → (next ≡ at + used_by s) × (x ≡ turn_of s b d)
unfolding used_by turn_of
turn_byte s b at next x d e f q = (rw e f, rw e q)

pub ruleset sheets = (same_sheet, same_between, says_read, says_unread, says_nothing, same_counted, same_digit)

pub ruleset options = (up_none, up_some)
