-- Stores into a flash: what is over what, and what stands where.
-- Assumes nothing.
use Prim.Native.Nat.{ℕ, zero, suc, ◌+◌, ◌-◌, ◌≤◌, ◌<◌, max}
use mathlib.Core.Path.{◌≡◌, sym, ap, ◌∙◌}
use mathlib.Core.List.{List, [], ◌∷◌, ◌++◌, append_assoc, append-nil}
use native.Mathlib.Omega.{arith}
use native.Mathlib.Nat.{zero-sub, sub-zero, suc-sub-suc, max-zero, zero-max, suc-max-suc, max-eq_right}
use lib.ListN.{length, take, drop, get_or, length-append, length-take, length-drop, get_or-append}
use lib.Seq.{take_at, drop-append-add, drop-drop, length-take-le, take-add, get_or-append-add, get_or-take, get_or-drop, paste-zero, take_all, take-nil, drop-nil}
use Rattle.promises.specs.Flash.{store}

-- ---- parts of lists, with no side condition

pub drop_append : (n : ℕ) (xs ys : List ℕ) → drop n (xs ++ ys) ≡ drop n xs ++ drop (n - length xs) ys
drop_append zero xs ys = rw zero-sub
drop_append (suc n) [] ys = rw sub-zero
drop_append (suc n) (x ∷ xs) ys = rw suc-sub-suc (drop_append n xs ys)

-- the first j over the first u: the first of the larger number
pub take_max : (j u : ℕ) (l : List ℕ) → take j l ++ drop (length (take j l)) (take u l) ≡ take (max u j) l
take_max zero u l = rw max-zero
take_max (suc j) zero l = rw (zero-max, drop-nil, append-nil)
take_max (suc j) (suc u) [] = sym (take-nil (max (suc u) (suc j)))
take_max (suc j) (suc u) (x ∷ l) = rw suc-max-suc (ap (λ (r : List ℕ). x ∷ r) (take_max j u l))

-- ---- a store over a store

-- y stored where z stands, behind x: y, and what of z is past it
pub store_over : (f : List ℕ) (a : ℕ) (x y z : List ℕ) → a ≤ length f → store (store f a (x ++ z)) (a + length x) y ≡ store f a (x ++ (y ++ drop (length y) z))
unfolding store
store_over f a x y z h =
    ap (λ (l : List ℕ). take (a + length x) l ++ y ++ drop (a + length x + length y) l) cut
    ∙ rw (take_at (take a f ++ x) (z ++ tail) (a + length x) front, back) (simp append_assoc)
  where
    tail : List ℕ
    tail = drop (a + length (x ++ z)) f

    cut : take a f ++ (x ++ z) ++ tail ≡ take a f ++ x ++ (z ++ tail)
    cut = simp append_assoc

    front : length (take a f ++ x) ≡ a + length x
    front = simp (length-append, length-take-le)

    to_end : a + length (x ++ z) + (length y - length z) ≡ a + length (x ++ (y ++ drop (length y) z))
    to_end = simp (length-append, length-drop) (omega arith)

    back : drop (a + length x + length y) (take a f ++ x ++ (z ++ tail)) ≡ drop (length y) z ++ drop (a + length (x ++ (y ++ drop (length y) z))) f
    back = rw (← front, drop-append-add, drop_append, drop-drop, to_end)

-- at least the first b of p are stored, m of them: the next j, stored from b on, make it the first b + j, where those are more
pub store_part : (f : List ℕ) (a : ℕ) (p : List ℕ) (b m j : ℕ) → a ≤ length f → b ≤ length p → b ≤ m
    → store (store f a (take m p)) (a + b) (take j (drop b p)) ≡ store f a (take (max m (b + j)) p)
store_part f a p b m j ha hb hm =
    rw (m_is, max_is)
    (rw (take-add, take-add b (max (m - b) j) p, ← (take_max j (m - b) (drop b p)))
    (rw (length-take-le b p hb) at (store_over f a (take b p) (take j (drop b p)) (take (m - b) (drop b p)) ha)))
  where
    m_is : m ≡ b + (m - b)
    m_is = omega arith

    max_is : max (b + (m - b)) (b + j) ≡ b + max (m - b) j
    max_is = omega arith

pub store_next : (f : List ℕ) (a : ℕ) (p : List ℕ) (b m k : ℕ) → a ≤ length f → b ≤ length p → b ≤ m → m ≤ b + k
    → store (store f a (take m p)) (a + b) (take k (drop b p)) ≡ store f a (take (b + k) p)
store_next f a p b m k ha hb hm hk = rw max-eq_right at (store_part f a p b m k ha hb hm)

pub store_length : (f : List ℕ) (a : ℕ) (x : List ℕ) → a + length x ≤ length f → length (store f a x) ≡ length f
unfolding store
store_length f a x h = simp (length-append, length-take, length-drop) (omega arith)

-- nothing stored
pub store_nothing : (f : List ℕ) (a : ℕ) → store f a [] ≡ f
unfolding store
store_nothing f a = sym (paste-zero f a [])

pub store_empty : (f : List ℕ) (a : ℕ) (x : List ℕ) → length x ≡ 0 → store f a x ≡ f
store_empty f a [] e = store_nothing f a
store_empty f a (b ∷ x) e = absurd (omega arith)

-- at least the first b of p are stored: the rest of p, stored from b on, makes it all of p
pub store_rest : (f : List ℕ) (a : ℕ) (p : List ℕ) (b m : ℕ) → a ≤ length f → b ≤ length p → b ≤ m
    → store (store f a (take m p)) (a + b) (drop b p) ≡ store f a p
store_rest f a p b m ha hb hm =
    simp (take_all (m + length p) (drop b p) (simp length-drop (omega arith)), take_all (b + (m + length p)) p (omega arith)) at
    (store_next f a p b m (m + length p) ha hb hm (omega arith))

-- the flash after a store, at each place: before it, in it, after it
module _ (f : List ℕ) (a : ℕ) (x : List ℕ) (h : a ≤ length f) where
  front : length (take a f) ≡ a
  front = length-take-le a f h

  pub store_before : (j : ℕ) → j < a → get_or (store f a x) j 0 ≡ get_or f j 0
  unfolding store
  store_before j l =
      rw append_assoc (get_or-append (take a f) (x ++ drop (a + length x) f) 0 j (rw front l) ∙ get_or-take a f j 0 l)

  pub store_in : (j : ℕ) → j < length x → get_or (store f a x) (a + j) 0 ≡ get_or x j 0
  unfolding store
  store_in j l =
      rw append_assoc
      (rw front at (get_or-append-add (take a f) (x ++ drop (a + length x) f) j 0) ∙ get_or-append x (drop (a + length x) f) 0 j l)

  pub store_after : (j : ℕ) → a + length x ≤ j → get_or (store f a x) j 0 ≡ get_or f j 0
  unfolding store
  store_after j l =
      ap (λ (n : ℕ). get_or (store f a x) n 0) to_tail
      ∙ get_or-append-add (take a f ++ x) (drop (a + length x) f) d 0
      ∙ get_or-drop (a + length x) f d 0
      ∙ ap (λ (n : ℕ). get_or f n 0) back
    where
      d : ℕ
      d = j - (a + length x)

      to_tail : j ≡ length (take a f ++ x) + d
      to_tail = simp (length-append, front) (omega arith)

      back : a + length x + d ≡ j
      back = omega arith
