-- What a line says, from its digits one after the other: the number after a 1 that they are says the same.
-- Assumes nothing.
use Prim.Native.Nat.{ℕ, zero, suc, ◌+◌, ◌*◌, ◌≤◌, ◌<◌}
use mathlib.Core.Path.{◌≡◌, refl, sym, ap, ◌∙◌}
use mathlib.Core.Bool.{Bool, true, false}
use mathlib.Core.List.{List, [], ◌∷◌, ◌++◌}
use native.Mathlib.Nat.{pos_of_ne-zero}
use native.Mathlib.Omega.{arith}
use lib.ListN.{length}
use lib.Dec.{leb, eqb}
use borrow.Author.Tests.{lt-ltb, le-ltb, le-leb, lt-leb, eqb-true, eqb-false}
use Rattle.protocol.specs.Pick.{when◌then◌else◌}
use Rattle.hexadecimal.specs.Hex.{value_of, byte_of, bytes_of}
use Rattle.hexadecimal.specs.Line.{line_bytes}
use Rattle.std.specs.Prelude.{Some, None}
use Rattle.packs.specs.declared.Pack.TheVariants as pack
use Rattle.packs.specs.Said.{Said}
use Rattle.packs.specs.Count.{said_of}
use Rattle.count_promises.specs.Packs.{cycles_said, answer_said, bytes_say, line_says}

-- each byte is a digit
abbrev pub AllDigits : List ℕ → Type 0
AllDigits [] = Unit {0}
AllDigits (b ∷ s) = (value_of b < 16) × AllDigits s

-- digits after a number
abbrev pub number_from : ℕ → List ℕ → ℕ
number_from n [] = n
number_from n (b ∷ s) = number_from (n * 16 + value_of b) s

pub number_more : (n : ℕ) (s : List ℕ) (b : ℕ) → number_from n (s ++ (b ∷ [])) ≡ number_from n s * 16 + value_of b
number_more n [] b = refl
number_more n (c ∷ s) b = number_more (n * 16 + value_of c) s b

pub digits_more : (s : List ℕ) (b : ℕ) → AllDigits s → value_of b < 16 → AllDigits (s ++ (b ∷ []))
digits_more [] b d v = (v, tt)
digits_more (c ∷ s) b d v = (d.0, digits_more s b d.1 v)

-- two digits are a byte
pair_byte : (a b : ℕ) → value_of a < 16 → value_of b < 16 → byte_of a b ≡ value_of a * 16 + value_of b
unfolding byte_of when◌then◌else◌
pair_byte a b ha hb = rw (le-ltb 15 (value_of a) (omega arith), le-ltb 15 (value_of b) (omega arith)) refl

two : (a b : ℕ) (s : List ℕ) → value_of a < 16 → value_of b < 16 → bytes_of (a ∷ b ∷ s) ≡ (value_of a * 16 + value_of b) ∷ bytes_of s
unfolding bytes_of when◌then◌else◌
two a b s ha hb = rw (pair_byte a b ha hb, le-ltb 255 (value_of a * 16 + value_of b) (omega arith)) refl

more : (n : ℕ) → (n ≡ 0 → ⊥) → (n ≡ 1 → ⊥) → 1 < n
more zero h k = absurd (h refl)
more (suc zero) h k = absurd (k refl)
more (suc (suc n)) h k = omega arith

bytes_none : bytes_of [] ≡ []
unfolding bytes_of
bytes_none = refl

bytes_single : (c : ℕ) → bytes_of (c ∷ []) ≡ []
unfolding bytes_of
bytes_single c = refl

-- a line of none, one or more than three bytes is no pack
pub nothing_says : bytes_say [] ≡ None
unfolding bytes_say
nothing_says = refl

none_say : bytes_say (line_bytes []) ≡ None
unfolding bytes_say line_bytes bytes_of when◌then◌else◌
none_say = refl

single_say : (c : ℕ) → bytes_say (line_bytes (c ∷ [])) ≡ None
unfolding bytes_say line_bytes bytes_of when◌then◌else◌
single_say c = refl

says_one : (x : ℕ) → bytes_say (x ∷ []) ≡ None
unfolding bytes_say cycles_said answer_said when◌then◌else◌
says_one x = by (eqb x 0) (eqb x 1)
  where
    by : (t u : Bool) → ◌≡◌ {A = Said} (when t then None else (when u then None else None)) None
    by true u = refl
    by false true = refl
    by false false = refl

pub says_long : (s : List ℕ) → 4 ≤ length s → bytes_say s ≡ None
unfolding bytes_say cycles_said answer_said when◌then◌else◌
says_long [] h = absurd (omega arith)
says_long (a ∷ []) h = absurd (omega arith)
says_long (a ∷ b ∷ []) h = absurd (omega arith)
says_long (a ∷ b ∷ c ∷ []) h = absurd (omega arith)
says_long (a ∷ b ∷ c ∷ d ∷ s) h = by (eqb a 0) (eqb a 1)
  where
    by : (t u : Bool) → ◌≡◌ {A = Said} (when t then None else (when u then None else None)) None
    by true u = refl
    by false true = refl
    by false false = refl

-- the number of two bytes after a 1: 01 and an answer
two_say : (x y : ℕ) → x < 256 → y < 256 → said_of (65536 + x * 256 + y) ≡ bytes_say (x ∷ y ∷ [])
unfolding said_of bytes_say cycles_said answer_said when◌then◌else◌
two_say x y hx hy = by (eqb x 0) refl (eqb x 1) refl (eqb y 0) refl
  where
    line : ℕ
    line = 65536 + x * 256 + y

    few : leb 0x1000000 line ≡ false
    few = lt-leb 0x1000000 line (omega arith)

    by : (t : Bool) → eqb x 0 ≡ t → (u : Bool) → eqb x 1 ≡ u → (w : Bool) → eqb y 0 ≡ w
        → said_of line ≡ (when t then None else (when u then (when w then None else Some (pack.Unread y)) else None))
    by true e u f w g = let z = eqb-true x 0 e in rw (few, le-ltb 0x10100 line (omega arith)) refl
    by false e true f true g = let z = eqb-true x 1 f in let n = eqb-true y 0 g in rw (few, le-ltb 0x10100 line (omega arith)) refl
    by false e true f false g =
        let z = eqb-true x 1 f in
        let n : 0 < y = pos_of_ne-zero (eqb-false y 0 g) in
        rw (few, lt-ltb 0x10100 line (omega arith), lt-ltb line 0x10200 (omega arith)) (ap Some (ap pack.Unread (omega arith)))
    by false e false f w g =
        let n : 1 < x = more x (eqb-false x 0 e) (eqb-false x 1 f) in
        rw (few, lt-ltb 0x10100 line (omega arith), le-ltb line 0x10200 (omega arith)) refl

-- of three: 00 and the cycles
three_say : (x y z : ℕ) → x < 256 → y < 256 → z < 256 → said_of (16777216 + x * 65536 + y * 256 + z) ≡ bytes_say (x ∷ y ∷ z ∷ [])
unfolding said_of bytes_say cycles_said answer_said when◌then◌else◌
three_say x y z hx hy hz = by (eqb x 0) refl (eqb x 1) refl
  where
    line : ℕ
    line = 16777216 + x * 65536 + y * 256 + z

    six : leb 0x1000000 line ≡ true
    six = le-leb 0x1000000 line (omega arith)

    by : (t : Bool) → eqb x 0 ≡ t → (u : Bool) → eqb x 1 ≡ u
        → said_of line ≡ (when t then Some (pack.Read (y + 256 * z)) else (when u then None else None))
    by true e u f = let n = eqb-true x 0 e in rw (six, lt-ltb line 0x1010000 (omega arith)) (ap Some (ap pack.Read (omega arith)))
    by false e true f = let n : 0 < x = pos_of_ne-zero (eqb-false x 0 e) in rw (six, le-ltb line 0x1010000 (omega arith)) refl
    by false e false f = let n : 0 < x = pos_of_ne-zero (eqb-false x 0 e) in rw (six, le-ltb line 0x1010000 (omega arith)) refl

-- the digits of a line so far, six at most: their number after a 1
pub record Held (held : List ℕ) (line : ℕ) : Type 0 where
  pub digits : AllDigits held
  pub number : line ≡ number_from 1 held
  pub most : length held ≤ 6

-- numbers that say nothing
small_says : (line : ℕ) → line ≤ 0x10100 → said_of line ≡ None
unfolding said_of when◌then◌else◌
small_says line h = rw (lt-leb 0x1000000 line (omega arith), le-ltb 0x10100 line h) refl

middle_says : (line : ℕ) → 0x10200 ≤ line → line < 0x1000000 → said_of line ≡ None
unfolding said_of when◌then◌else◌
middle_says line h k = rw (lt-leb 0x1000000 line k, lt-ltb 0x10100 line (omega arith), le-ltb line 0x10200 h) refl

module _ (a b : ℕ) (ha : value_of a < 16) (hb : value_of b < 16) where
  line_two : line_bytes (a ∷ b ∷ []) ≡ (value_of a * 16 + value_of b) ∷ []
  unfolding line_bytes when◌then◌else◌
  line_two = let e : bytes_of (a ∷ b ∷ []) ≡ (value_of a * 16 + value_of b) ∷ [] = two a b [] ha hb ∙ ap (λ (t : List ℕ). (value_of a * 16 + value_of b) ∷ t) bytes_none in rw e refl

  line_three : (c : ℕ) → line_bytes (a ∷ b ∷ c ∷ []) ≡ []
  unfolding line_bytes when◌then◌else◌
  line_three c = let e : bytes_of (a ∷ b ∷ c ∷ []) ≡ (value_of a * 16 + value_of b) ∷ [] = two a b (c ∷ []) ha hb ∙ ap (λ (t : List ℕ). (value_of a * 16 + value_of b) ∷ t) (bytes_single c) in rw e refl

  module _ (c d : ℕ) (hc : value_of c < 16) (hd : value_of d < 16) where
    four_bytes : (s t : List ℕ) → bytes_of s ≡ t → bytes_of (a ∷ b ∷ c ∷ d ∷ s) ≡ (value_of a * 16 + value_of b) ∷ (value_of c * 16 + value_of d) ∷ t
    four_bytes s t e =
        two a b (c ∷ d ∷ s) ha hb ∙ ap (λ (u : List ℕ). (value_of a * 16 + value_of b) ∷ u) (two c d s hc hd ∙ ap (λ (u : List ℕ). (value_of c * 16 + value_of d) ∷ u) e)

    line_four : line_bytes (a ∷ b ∷ c ∷ d ∷ []) ≡ (value_of a * 16 + value_of b) ∷ (value_of c * 16 + value_of d) ∷ []
    unfolding line_bytes when◌then◌else◌
    line_four = rw (four_bytes [] [] bytes_none) refl

    line_five : (e : ℕ) → line_bytes (a ∷ b ∷ c ∷ d ∷ e ∷ []) ≡ []
    unfolding line_bytes when◌then◌else◌
    line_five e = rw (four_bytes (e ∷ []) [] (bytes_single e)) refl

    line_six : (e f : ℕ) → value_of e < 16 → value_of f < 16
        → line_bytes (a ∷ b ∷ c ∷ d ∷ e ∷ f ∷ []) ≡ (value_of a * 16 + value_of b) ∷ (value_of c * 16 + value_of d) ∷ (value_of e * 16 + value_of f) ∷ []
    unfolding line_bytes when◌then◌else◌
    line_six e f he hf =
        rw (four_bytes (e ∷ f ∷ []) ((value_of e * 16 + value_of f) ∷ []) (two e f [] he hf ∙ ap (λ (t : List ℕ). (value_of e * 16 + value_of f) ∷ t) bytes_none)) refl

-- digits and their number say the same
pub says_same : (held : List ℕ) (line : ℕ) → Held held line → said_of line ≡ line_says held
unfolding line_says
says_same [] line h = small_says line (omega (arith, h.number)) ∙ sym none_say
says_same (a ∷ []) line h = let d = h.digits in small_says line (omega (arith, h.number, d.0)) ∙ sym (single_say a)
says_same (a ∷ b ∷ []) line h =
    let d = h.digits in
    small_says line (omega (arith, h.number, d.0, d.1.0)) ∙ sym (ap bytes_say (line_two a b d.0 d.1.0) ∙ says_one (value_of a * 16 + value_of b))
says_same (a ∷ b ∷ c ∷ []) line h =
    let d = h.digits in
    small_says line (omega (arith, h.number, d.0, d.1.0, d.1.1.0)) ∙ sym (ap bytes_say (line_three a b d.0 d.1.0 c) ∙ nothing_says)
says_same (a ∷ b ∷ c ∷ d ∷ []) line h =
    let v = h.digits in
    let x : ℕ = value_of a * 16 + value_of b in
    let y : ℕ = value_of c * 16 + value_of d in
    let e : line ≡ 65536 + x * 256 + y = h.number ∙ omega arith in
    ap said_of e ∙ two_say x y (omega (arith, v.0, v.1.0)) (omega (arith, v.1.1.0, v.1.1.1.0))
    ∙ sym (ap bytes_say (line_four a b v.0 v.1.0 c d v.1.1.0 v.1.1.1.0))
says_same (a ∷ b ∷ c ∷ d ∷ e ∷ []) line h =
    let v = h.digits in
    middle_says line (omega (arith, h.number)) (omega (arith, h.number, v.0, v.1.0, v.1.1.0, v.1.1.1.0, v.1.1.1.1.0))
    ∙ sym (ap bytes_say (line_five a b v.0 v.1.0 c d v.1.1.0 v.1.1.1.0 e) ∙ nothing_says)
says_same (a ∷ b ∷ c ∷ d ∷ e ∷ f ∷ []) line h =
    let v = h.digits in
    let x : ℕ = value_of a * 16 + value_of b in
    let y : ℕ = value_of c * 16 + value_of d in
    let z : ℕ = value_of e * 16 + value_of f in
    let n : line ≡ 16777216 + x * 65536 + y * 256 + z = h.number ∙ omega arith in
    let he : value_of e < 16 = v.1.1.1.1.0 in
    let hf : value_of f < 16 = v.1.1.1.1.1.0 in
    ap said_of n ∙ three_say x y z (omega (arith, v.0, v.1.0)) (omega (arith, v.1.1.0, v.1.1.1.0)) (omega arith)
    ∙ sym (ap bytes_say (line_six a b v.0 v.1.0 c d v.1.1.0 v.1.1.1.0 e f he hf))
says_same (a ∷ b ∷ c ∷ d ∷ e ∷ f ∷ g ∷ s) line h = absurd (omega (arith, h.most))
