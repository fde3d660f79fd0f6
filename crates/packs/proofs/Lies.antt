-- A line that is taken where it lies in a chunk leads to the same sheet as its bytes one after the other.
-- Assumes nothing.
use Prim.Native.Nat.{ℕ, suc, ◌+◌, ◌-◌, ◌*◌, ◌≤◌, ◌<◌}
use mathlib.Core.Path.{◌≡◌, refl, sym, ap, ◌∙◌}
use mathlib.Core.Bool.{Bool, true, false}
use mathlib.Core.List.{List, [], ◌∷◌}
use native.Mathlib.Nat.{add-suc, pos_of_ne-zero}
use native.Mathlib.Omega.{arith}
use lib.ListN.{length, drop, get_or, drop_of_length-le}
use lib.Seq.{drop-cons}
use lib.Dec.{ltb, eqb}
use borrow.Author.Tests.{eqb-true, eqb-false, ltb-false}
use Rattle.protocol.specs.Pick.{when◌then◌else◌}
use Rattle.hexadecimal.specs.Hex.{value_of, byte_of}
use Rattle.std.specs.Prelude.{Some, None}
use Rattle.packs.specs.Said.{Said}
use Rattle.packs.specs.declared.Pack.TheVariants as pack
use Rattle.packs.specs.declared.Count.{Count}
use Rattle.packs.specs.declared.Sheet.{Sheet}
use Rattle.packs.specs.Count.{counted_of, step_of, feed_of}
use Rattle.packs.specs.Ahead.{pair_at, read_ahead, unread_ahead, ahead_of, line_at, used_by, turn_of}
use Rattle.packs.proofs.Feed.{within, feed_read, feed_unread}

-- what holds of both arms holds of the choice
pub pick : (P : Said → Type 0) (t : Bool) (a b : Said) → (t ≡ true → P a) → (t ≡ false → P b) → P (when t then a else b)
unfolding when◌then◌else◌
pick P true a b f g = f refl
pick P false a b f g = g refl

-- a byte of two digits
pub pair_digits : (h l : ℕ) → byte_of h l ≤ 255 → (value_of h < 16) × (value_of l < 16) × (byte_of h l ≡ value_of h * 16 + value_of l)
unfolding byte_of when◌then◌else◌
pair_digits h l = by (ltb 15 (value_of h)) refl (ltb 15 (value_of l)) refl
  where
    by : (t : Bool) → ltb 15 (value_of h) ≡ t → (u : Bool) → ltb 15 (value_of l) ≡ u
        → (when t then 256 else (when u then 256 else (value_of h * 16 + value_of l))) ≤ 255
        → (value_of h < 16) × (value_of l < 16) × ((when t then 256 else (when u then 256 else (value_of h * 16 + value_of l))) ≡ value_of h * 16 + value_of l)
    by true e u f le = absurd (omega arith)
    by false e true f le = absurd (omega arith)
    by false e false f le = let p = ltb-false 15 (value_of h) e in let q = ltb-false 15 (value_of l) f in (omega arith, omega arith, refl)

-- the bytes of a chunk from a place on
drop_next : (l : List ℕ) (at i : ℕ) → at + i < length l → drop (at + i) l ≡ get_or l (at + i) 0 ∷ drop (at + suc i) l
drop_next l at i h = drop-cons l (at + i) 0 h ∙ ap (λ (k : ℕ). get_or l (at + i) 0 ∷ drop k l) (sym (add-suc at i))

drop_first : (l : List ℕ) (at : ℕ) → at < length l → drop at l ≡ get_or l at 0 ∷ drop (at + 1) l
drop_first l at h = let e : suc at ≡ at + 1 = omega arith in drop-cons l at 0 h ∙ ap (λ (k : ℕ). get_or l at 0 ∷ drop k l) e

five : (l : List ℕ) (at : ℕ) → at + 5 ≤ length l
    → drop at l ≡ get_or l at 0 ∷ get_or l (at + 1) 0 ∷ get_or l (at + 2) 0 ∷ get_or l (at + 3) 0 ∷ get_or l (at + 4) 0 ∷ drop (at + 5) l
five l at h =
    let e₁ = drop_next l at 1 (omega arith) in
    let e₂ = drop_next l at 2 (omega arith) in
    let e₃ = drop_next l at 3 (omega arith) in
    let e₄ = drop_next l at 4 (omega arith) in
    drop_first l at (omega arith)
    ∙ ap (λ (t : List ℕ). get_or l at 0 ∷ t)
    (e₁ ∙ ap (λ (t : List ℕ). get_or l (at + 1) 0 ∷ t)
    (e₂ ∙ ap (λ (t : List ℕ). get_or l (at + 2) 0 ∷ t) (e₃ ∙ ap (λ (t : List ℕ). get_or l (at + 3) 0 ∷ t) e₄)))

seven : (l : List ℕ) (at : ℕ) → at + 7 ≤ length l
    → drop at l
    ≡ get_or l at 0 ∷ get_or l (at + 1) 0 ∷ get_or l (at + 2) 0 ∷ get_or l (at + 3) 0 ∷ get_or l (at + 4) 0 ∷ get_or l (at + 5) 0 ∷ get_or l (at + 6) 0 ∷ drop (at + 7) l
seven l at h =
    let e = drop_next l at 5 (omega arith) ∙ ap (λ (t : List ℕ). get_or l (at + 5) 0 ∷ t) (drop_next l at 6 (omega arith)) in
    five l at (omega arith)
    ∙ ap (λ (t : List ℕ). get_or l at 0 ∷ get_or l (at + 1) 0 ∷ get_or l (at + 2) 0 ∷ get_or l (at + 3) 0 ∷ get_or l (at + 4) 0 ∷ t) e

pair_at_lem : (l : List ℕ) (at i : ℕ) → pair_at l (at + i) ≤ 255
    → (value_of (get_or l (at + i) 0) < 16) × (value_of (get_or l (at + suc i) 0) < 16)
    × (pair_at l (at + i) ≡ value_of (get_or l (at + i) 0) * 16 + value_of (get_or l (at + suc i) 0))
unfolding pair_at
pair_at_lem l at i = rw (let e : at + i + 1 ≡ at + suc i = omega arith in e) (pair_digits (get_or l (at + i) 0) (get_or l (at + suc i) 0))

-- what a line that lies whole at a place leads to: that place and the rest of the chunk
module _ (chunk : List ℕ) (at : ℕ) (count : Count) (numbers : List ℕ) where
  Leads : Said → Type 0
  Leads s = (at + used_by s ≤ length chunk) × (feed_of (drop at chunk) (within count 1 numbers) ≡ feed_of (drop (at + used_by s) chunk) (turn_of s (get_or chunk at 0) (within count 1 numbers)))

  read_leads : at + 7 ≤ length chunk → get_or chunk at 0 ≡ 48 → get_or chunk (at + 1) 0 ≡ 48 → get_or chunk (at + 6) 0 ≡ 10
      → pair_at chunk (at + 2) ≤ 255 → pair_at chunk (at + 4) ≤ 255 → Leads (Some (pack.Read (pair_at chunk (at + 4) * 256 + pair_at chunk (at + 2))))
  unfolding Leads used_by turn_of
  read_leads h e₀ e₁ e₆ low high =
      let p = pair_at_lem chunk at 2 low in
      let q = pair_at_lem chunk at 4 high in
      let g : ℕ → ℕ = λ i. get_or chunk (at + i) 0 in
      let rest : List ℕ = drop (at + 7) chunk in
      let bytes : get_or chunk at 0 ∷ g 1 ∷ g 2 ∷ g 3 ∷ g 4 ∷ g 5 ∷ g 6 ∷ rest ≡ 48 ∷ 48 ∷ g 2 ∷ g 3 ∷ g 4 ∷ g 5 ∷ 10 ∷ rest = rw (e₀, e₁, e₆) refl in
      let cycles : (value_of (g 4) * 16 + value_of (g 5)) * 256 + (value_of (g 2) * 16 + value_of (g 3)) ≡ pair_at chunk (at + 4) * 256 + pair_at chunk (at + 2) =
      rw (p.2, q.2) refl in (
        h,
        ap (λ (t : List ℕ). feed_of t (within count 1 numbers)) (seven chunk at h ∙ bytes)
            ∙ feed_read count numbers (g 2) (g 3) (g 4) (g 5) rest p.0 p.1 q.0 q.1
            ∙ ap (λ (k : ℕ). feed_of rest (counted_of (Some (pack.Read k)) count numbers)) cycles,
      )

  unread_leads : at + 5 ≤ length chunk → get_or chunk at 0 ≡ 48 → get_or chunk (at + 1) 0 ≡ 49 → get_or chunk (at + 4) 0 ≡ 10
      → 0 < pair_at chunk (at + 2) → pair_at chunk (at + 2) ≤ 255 → Leads (Some (pack.Unread (pair_at chunk (at + 2))))
  unfolding Leads used_by turn_of
  unread_leads h e₀ e₁ e₄ some fits =
      let p = pair_at_lem chunk at 2 fits in
      let g : ℕ → ℕ = λ i. get_or chunk (at + i) 0 in
      let rest : List ℕ = drop (at + 5) chunk in
      let bytes : get_or chunk at 0 ∷ g 1 ∷ g 2 ∷ g 3 ∷ g 4 ∷ rest ≡ 48 ∷ 49 ∷ g 2 ∷ g 3 ∷ 10 ∷ rest = rw (e₀, e₁, e₄) refl in
      let more : 0 < value_of (g 2) * 16 + value_of (g 3) = rw p.2 at some in (
        h,
        ap (λ (t : List ℕ). feed_of t (within count 1 numbers)) (five chunk at h ∙ bytes)
            ∙ feed_unread count numbers (g 2) (g 3) rest p.0 p.1 more
            ∙ ap (λ (k : ℕ). feed_of rest (counted_of (Some (pack.Unread k)) count numbers)) (sym p.2),
      )

  -- one byte, from any place in a line
  byte_leads : (d : Sheet) → at < length chunk → feed_of (drop at chunk) d ≡ feed_of (drop (at + 1) chunk) (step_of (get_or chunk at 0) d)
  unfolding feed_of
  byte_leads d h = ap (λ (t : List ℕ). feed_of t d) (drop_first chunk at h)

  none_leads : at < length chunk → Leads None
  unfolding Leads used_by turn_of
  none_leads h = (omega arith, byte_leads (within count 1 numbers) h)

  ahead_leads : at < length chunk → Leads (ahead_of chunk at)
  unfolding ahead_of read_ahead unread_ahead
  ahead_leads h =
      pick Leads (ltb (length chunk - at) 7) _ _ (λ e. none_leads h)
      (λ long.
      let room : at + 7 ≤ length chunk = omega (arith, ltb-false (length chunk - at) 7 long) in
      pick Leads (eqb (get_or chunk at 0) 48) _ _
      (λ zero.
      let e₀ = eqb-true _ _ zero in
      pick Leads (eqb (get_or chunk (at + 1) 0) 48) _ _
      (λ f.
      pick Leads (eqb (get_or chunk (at + 6) 0) 10) _ _
      (λ feed.
      pick Leads (ltb 255 (pair_at chunk (at + 2))) _ _ (λ e. none_leads h)
      (λ low.
      pick Leads (ltb 255 (pair_at chunk (at + 4))) _ _ (λ e. none_leads h)
      (λ high. read_leads room e₀ (eqb-true _ _ f) (eqb-true _ _ feed) (ltb-false _ _ low) (ltb-false _ _ high))))
      (λ e. none_leads h))
      (λ e.
      pick Leads (eqb (get_or chunk (at + 1) 0) 49) _ _
      (λ f.
      pick Leads (eqb (get_or chunk (at + 4) 0) 10) _ _
      (λ feed.
      pick Leads (eqb (pair_at chunk (at + 2)) 0) _ _ (λ e. none_leads h)
      (λ some.
      let n = eqb-false _ _ some in
      pick Leads (ltb 255 (pair_at chunk (at + 2))) _ _ (λ e. none_leads h)
      (λ fits. unread_leads (omega arith) e₀ (eqb-true _ _ f) (eqb-true _ _ feed) (pos_of_ne-zero n) (ltb-false _ _ fits))))
      (λ e. none_leads h))
      (λ e. none_leads h)))
      (λ e. none_leads h))

-- a turn of `take`: its line, counted where it lies, or one byte
pub turn_leads : (chunk : List ℕ) (at : ℕ) (d : Sheet) (line : Said) → at < length chunk → line ≡ line_at d.reader.line chunk at
    → (at + used_by line ≤ length chunk) × (feed_of (drop at chunk) d ≡ feed_of (drop (at + used_by line) chunk) (turn_of line (get_or chunk at 0) d))
unfolding line_at Leads used_by turn_of when◌then◌else◌
turn_leads chunk at d line h = by (eqb d.reader.line 1) refl
  where
    by : (t : Bool) → eqb d.reader.line 1 ≡ t → line ≡ (when t then ahead_of chunk at else None)
        → (at + used_by line ≤ length chunk) × (feed_of (drop at chunk) d ≡ feed_of (drop (at + used_by line) chunk) (turn_of line (get_or chunk at 0) d))
    by true e q = rw (q, eqb-true d.reader.line 1 e) (ahead_leads chunk at d.reader.count d.numbers h)
    by false e q = rw q (omega arith, byte_leads chunk at d.reader.count d.numbers d h)

-- so what is left of the chunk leads to the same
pub turn_on : (chunk : List ℕ) (at next : ℕ) (d after : Sheet) (line : Said) (v : Sheet) → at < length chunk → line ≡ line_at d.reader.line chunk at
    → (next ≡ at + used_by line) × (after ≡ turn_of line (get_or chunk at 0) d) → feed_of (drop at chunk) d ≡ v
    → (next ≤ length chunk) × (feed_of (drop next chunk) after ≡ v)
turn_on chunk at next d after line v h e t same =
    let l = turn_leads chunk at d line h e in
    (rw t.0 l.0, rw (t.0, t.1) (sym l.1 ∙ same))

-- with nothing left, it is where that leads
pub all_fed : (chunk : List ℕ) (at : ℕ) (d v : Sheet) → length chunk ≤ at → feed_of (drop at chunk) d ≡ v → d ≡ v
unfolding feed_of
all_fed chunk at d v h same = let none : drop at chunk ≡ [] = drop_of_length-le chunk {i = at} h in ap (λ (t : List ℕ). feed_of t d) (sym none) ∙ same
