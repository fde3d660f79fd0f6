-- What is laid over the front of a buffer, part after part.
-- Assumes nothing.
use Prim.Native.Nat.{ℕ, zero, suc, ◌+◌, ◌-◌, ◌≤◌, ◌<◌, min}
use mathlib.Core.Path.{◌≡◌, refl, sym, ap, subst, ◌∙◌}
use mathlib.Core.List.{List, [], ◌∷◌, ◌++◌, append_assoc, append-nil}
use mathlib.Core.Bool.{Bool, true, false}
use native.Mathlib.Nat.{add-sub_of_le, le_of_lt, not-suc-le-zero, le_of_suc-le-suc, zero-min, min-zero, suc-min-suc}
use native.Mathlib.Numerals.{add-one}
use native.Mathlib.Omega.{arith}
use lib.ListN.{length, take, drop, get_or, set, length-append, length-drop, take-append-drop}
use lib.Seq.{length-take-le, set_split, append_snoc, take-append_seam, drop-append-add, drop-drop, take_all, drop-length, take-nil, take-length}
use lib.Dec.{ltb}
use borrow.Author.Tests.{ltb-true}
use Rattle.smbus_pec.specs.Pec.{bit_step, bit_steps, byte_step, pec_of}
use Rattle.protocol.specs.Pick.{when◌then◌else◌}
use Rattle.protocol.specs.Bytes.{over}
use Rattle.protocol.specs.Frame.{sealed, work_laid}
use Rattle.protocol.specs.Reply.{lead_of}
use Rattle.protocol.specs.declared.reply.Ask.{Ask}

pub take_min : (j k : ℕ) (l : List ℕ) → take j (take k l) ≡ take (min j k) l
take_min zero k l = rw zero-min
take_min (suc j) zero l = rw min-zero
take_min (suc j) (suc k) [] = sym (take-nil (min (suc j) (suc k)))
take_min (suc j) (suc k) (x ∷ l) = rw suc-min-suc (ap (λ (r : List ℕ). x ∷ r) (take_min j k l))

-- no more is taken than there is
pub take_short : (k : ℕ) (l : List ℕ) → take (min k (length l)) l ≡ take k l
take_short k l = sym (take_min k (length l) l) ∙ ap (take k) (take-length l)

-- the front of a buffer, laid over it, changes nothing
pub over_same : (n : ℕ) (w : List ℕ) → n ≤ length w → over (take n w) w ≡ w
unfolding over
over_same n w h = rw (length-take-le n w h) (take-append-drop n w)

-- a store after the first n lays those and the new byte
pub over_set : (w : List ℕ) (n b : ℕ) → n < length w → set w n b ≡ over (take n w ++ (b ∷ [])) w
unfolding over
over_set w n b h =
    let le : n ≤ length w = le_of_lt h in
    rw (length-append, length-take-le n w, add-one, append_snoc) (set_split w n b h)

pub length_over : (f w : List ℕ) → length f ≤ length w → length (over f w) ≡ length w
unfolding over
length_over f w h = simp (length-append, length-drop) (omega arith)

pub take_over : (f w : List ℕ) → take (length f) (over f w) ≡ f
unfolding over
take_over f w = take-append_seam f (drop (length f) w)

-- past what was laid, the buffer is as it was
pub drop_over : (n : ℕ) (f w : List ℕ) → length f ≤ n → drop n (over f w) ≡ drop n w
unfolding over
drop_over n f w h =
    subst (λ (k : ℕ). drop k (over f w) ≡ drop k w) (add-sub_of_le h)
    (drop-append-add f (drop (length f) w) (n - length f) ∙ drop-drop (n - length f) (length f) w)

pub over_over : (f g w : List ℕ) → length f ≤ length g → over g (over f w) ≡ over g w
unfolding over
over_over f g w h = ap (λ (t : List ℕ). g ++ t) (drop_over (length g) f w h)

-- g after f
pub over_tail : (f g w : List ℕ) → f ++ over g (drop (length f) w) ≡ over (f ++ g) w
unfolding over
over_tail f g w = rw (length-append, drop-drop, append_assoc)

-- what was laid, and more laid into the tail after it
pub laid_more : (f g w : List ℕ) (a : ℕ) → a ≡ length f → take a (over f w) ++ over g (drop a (over f w)) ≡ over (f ++ g) w
laid_more f g w a e = rw (e, take_over, drop_over (length f) f w (omega arith)) (over_tail f g w)

-- a part from `a` on was lent to what does g to it, and is back
pub lent_back : (g : List ℕ → List ℕ) (a : ℕ) (xs ys : List ℕ) → ys ≡ g (take (length xs - a) (drop a xs)) → take a xs ++ (ys ++ drop (length xs - a) (drop a xs)) ≡ take a xs ++ g (drop a xs)
lent_back g a xs ys e = lent_tail ∙ ap (λ (t : List ℕ). take a xs ++ t) (e ∙ ap g (take_all (length xs - a) (drop a xs) (rw length-drop (omega arith))))
  where
    lent_tail : take a xs ++ (ys ++ drop (length xs - a) (drop a xs)) ≡ take a xs ++ ys
    lent_tail = rw (← length-drop a xs, drop-length, append-nil)

-- a turn of a copy: the byte at i, and one more is copied
pub copy_turn : (src dst : List ℕ) (i : ℕ) → i < length src → i < length dst → set (take i src ++ drop i dst) i (get_or src i 0) ≡ take (i + 1) src ++ drop (i + 1) dst
copy_turn src dst i h k = rw add-one (go src dst i h k)
  where
    go : (src dst : List ℕ) (i : ℕ) → i < length src → i < length dst → set (take i src ++ drop i dst) i (get_or src i 0) ≡ take (suc i) src ++ drop (suc i) dst
    go [] dst i h k = absurd (not-suc-le-zero h)
    go (x ∷ xs) [] i h k = absurd (not-suc-le-zero k)
    go (x ∷ xs) (y ∷ ys) zero h k = refl
    go (x ∷ xs) (y ∷ ys) (suc i) h k = ap (λ (l : List ℕ). x ∷ l) (go xs ys i (le_of_suc-le-suc h) (le_of_suc-le-suc k))

-- the PEC comes after what it seals
pub sealed_longer : (pec : Bool) (f : List ℕ) → length f ≤ length (sealed pec f)
unfolding sealed when◌then◌else◌
sealed_longer true f = simp length-append (omega arith)
sealed_longer false f = omega arith

-- sealing what was laid
pub sealed_laid : (pec : Bool) (f w : List ℕ) (n : ℕ) → n ≡ length f → over (sealed pec (take n (over f w))) (over f w) ≡ over (sealed pec f) w
sealed_laid pec f w n e = rw (e, take_over) (over_over f (sealed pec f) w (sealed_longer pec f))

-- the byte 16 hex opens what the PEC of a write covers
pub pec_of_write : (f : List ℕ) → pec_of 0x62 f ≡ pec_of 0 (0x16 ∷ f)
unfolding bit_step bit_steps byte_step pec_of
pec_of_write f = refl

pub sealed_on : (w : List ℕ) (n b : ℕ) (pec : Bool) → n < length w → pec ≡ true → b ≡ pec_of 0x62 (take n w)
    → (n + 1 ≡ length (sealed pec (take n w))) × (set w n b ≡ over (sealed pec (take n w)) w)
unfolding sealed when◌then◌else◌
sealed_on w n b pec h e q =
    let le : n ≤ length w = le_of_lt h in
    let q' : b ≡ pec_of 0 (0x16 ∷ take n w) = q ∙ pec_of_write (take n w) in
    rw (e, ← q') (simp (length-append, length-take-le n w le), over_set w n b h)

pub sealed_off : (w : List ℕ) (n : ℕ) (pec : Bool) → n < length w → pec ≡ false
    → (n ≡ length (sealed pec (take n w))) × (w ≡ over (sealed pec (take n w)) w)
unfolding sealed when◌then◌else◌
sealed_off w n pec h e =
    let le : n ≤ length w = le_of_lt h in
    rw e (sym (length-take-le n w le), sym (over_same n w le))

-- three parts pushed one after the other and sealed are the frame
pub built : (pec : Bool) (lead pair body w w1 w2 w3 w4 : List ℕ) (n1 n2 n3 r : ℕ)
    → (n1 ≡ 0 + length lead) × (w1 ≡ take 0 w ++ over lead (drop 0 w))
    → (n2 ≡ n1 + length pair) × (w2 ≡ take n1 w1 ++ over pair (drop n1 w1))
    → (n3 ≡ n2 + length body) × (w3 ≡ take n2 w2 ++ over body (drop n2 w2))
    → (r ≡ length (sealed pec (take n3 w3))) × (w4 ≡ over (sealed pec (take n3 w3)) w3)
    → (r ≡ length (sealed pec (lead ++ pair ++ body))) × (w4 ≡ over (sealed pec (lead ++ pair ++ body)) w)
built pec lead pair body w w1 w2 w3 w4 n1 n2 n3 r p1 p2 p3 p4 =
    let m1 : n1 ≡ length lead = omega (arith, p1.0) in
    let e1 : w1 ≡ over lead w = p1.1 in
    let m2 : n2 ≡ length (lead ++ pair) = rw length-append (omega (arith, p2.0)) in
    let e2 : w2 ≡ over (lead ++ pair) w = p2.1 ∙ rw e1 (laid_more lead pair w n1 m1) in
    let m3 : n3 ≡ length (lead ++ pair ++ body) = simp length-append (omega (arith, p3.0, simp length-append at m2)) in
    let e3 : w3 ≡ over (lead ++ pair ++ body) w = p3.1 ∙ rw e2 (laid_more (lead ++ pair) body w n2 m2) in
    (p4.0 ∙ rw (e3, m3, take_over), p4.1 ∙ rw e3 (sealed_laid pec (lead ++ pair ++ body) w n3 m3))

-- a PEC is one byte
pub length_sealed : (pec : Bool) (f : List ℕ) → length (sealed pec f) ≤ length f + 1
unfolding sealed when◌then◌else◌
length_sealed true f = rw length-append (omega arith)
length_sealed false f = omega arith

-- a frame that is laid keeps the work buffer's length
pub length_laid : (pec : Bool) (f work : List ℕ) → length (work_laid pec f work) ≡ length work
unfolding work_laid when◌then◌else◌
length_laid pec f work = by (ltb (length f) (length work)) refl
  where
    by : (t : Bool) → ltb (length f) (length work) ≡ t → length (when t then over (sealed pec f) work else work) ≡ length work
    by true e = length_over (sealed pec f) work (omega (arith, ltb-true (length f) (length work) e, length_sealed pec f))
    by false e = refl

-- at most three bytes stand before the data of a reply
pub lead_small : (ask : Ask) → lead_of ask ≤ 3
unfolding lead_of when◌then◌else◌
lead_small ask = by ask.prefixed
  where
    by : (t : Bool) → (when t then 3 else 0) ≤ 3
    by true = omega arith
    by false = omega arith
