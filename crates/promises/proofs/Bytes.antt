-- The overlay in bytes, address by address, and back, for blocks of any length.
-- Assumes nothing.
use Prim.Native.Nat.{ℕ, suc, ◌+◌, ◌*◌, ◌-◌, ◌≤◌, ◌<◌, min}
use mathlib.Core.Path.{◌≡◌, refl, sym, ◌∙◌}
use mathlib.Core.Bool.{Bool, true, false}
use mathlib.Core.Logic.{◌⊎◌, inl, inr}
use mathlib.Core.List.{List}
use native.Mathlib.Omega.{arith}
use native.Mathlib.Nat.{suc-mul}
use lib.Dec.{eqb, ltb}
use lib.ListN.{length, take, get_or, length-take}
use lib.Seq.{get_or-take, ext_get_or}
use borrow.Author.Tests.{eqb-true, eqb-false, ltb-true, ltb-false}
use Rattle.protocol.specs.Window.{in_window}
use Rattle.protocol.proofs.WindowLaws.{within}
use Rattle.promises.specs.Flash.{place_of, byte_at, store, Overlaid, Stands}
use Rattle.promises.proofs.Store.{store_length, store_before, store_in, store_after, store_empty}

-- the address of each place of the flash
place_of_lem : (j : ℕ) → place_of (0x4000 + j) ≡ j
place_of_lem j = omega arith

module _ (k address : ℕ) (payload flash : List ℕ) (low : 0x4000 ≤ address) (high : address + length payload ≤ 0x6000) (whole : length flash ≡ 8192) where
  -- the first m bytes of the payload over the flash
  abbrev laid : ℕ → List ℕ
  laid m = store flash (place_of address) (take m payload)

  taken : (m : ℕ) → length (take m payload) ≡ min m (length payload)
  taken m = length-take m payload

  laid_long : (m : ℕ) → length (laid m) ≡ length flash
  laid_long m = store_length flash (place_of address) (take m payload) (omega (arith, taken m))

  -- before the payload, in its first m bytes, and past them
  at_before : (m x : ℕ) → 0x4000 ≤ x → x < address → byte_at (laid m) x ≡ byte_at flash x
  at_before m x lo hi = store_before flash (place_of address) (take m payload) (omega arith) (place_of x) (omega arith)

  at_new : (m x : ℕ) → address ≤ x → x < address + m → x < address + length payload → byte_at (laid m) x ≡ get_or payload (x - address) 0
  at_new m x lo hi l =
      let place : place_of x ≡ place_of address + (x - address) = omega arith in
      rw place (store_in flash (place_of address) (take m payload) (omega arith) (x - address) (omega (arith, taken m)) ∙ get_or-take m payload (x - address) 0 (omega arith))

  at_past : (m x : ℕ) → address + min m (length payload) ≤ x → byte_at (laid m) x ≡ byte_at flash x
  at_past m x l = store_after flash (place_of address) (take m payload) (omega arith) (place_of x) (omega (arith, taken m))

  at_other : (m end x : ℕ) → m ≤ end → 0x4000 ≤ x → (x < address) ⊎ (address + min end (length payload) ≤ x) → byte_at (laid m) x ≡ byte_at flash x
  at_other m end x h lo (inl l) = at_before m x lo l
  at_other m end x h lo (inr l) = at_past m x (omega arith)

  -- an overlay, byte by byte
  in_bytes : (i : ℕ) (now : List ℕ) → Overlaid k (place_of address) payload flash i now → Stands k address payload flash i now
  in_bytes i now (inl e) =
      record {
        size = rw e (laid_long (i * k));
        acked = λ x lo hi l. rw e (at_new (i * k) x lo hi l);
        next = inl (λ x lo hi l. rw e (at_past (i * k) x (omega arith)));
        other = λ x lo hi o. rw e (at_other (i * k) (suc i * k) x (omega (arith, suc-mul i k)) lo o);
      }
  in_bytes i now (inr e) =
      record {
        size = rw e (laid_long (suc i * k));
        acked = λ x lo hi l. rw e (at_new (suc i * k) x lo (omega (arith, suc-mul i k)) l);
        next = inr (λ x lo hi l. rw e (at_new (suc i * k) x (omega arith) hi l));
        other = λ x lo hi o. rw e (at_other (suc i * k) (suc i * k) x (omega arith) lo o);
      }

  -- bytes that are those of the first m over the flash, address by address, are that overlay
  same_bytes : (m : ℕ) (now : List ℕ) → length now ≡ length flash
      → ((x : ℕ) → 0x4000 ≤ x → x < address → byte_at now x ≡ byte_at flash x)
      → ((x : ℕ) → address ≤ x → x < address + m → x < address + length payload → byte_at now x ≡ get_or payload (x - address) 0)
      → ((x : ℕ) → address + min m (length payload) ≤ x → x < 0x6000 → byte_at now x ≡ byte_at flash x)
      → now ≡ laid m
  same_bytes m now size before inside past =
      ext_get_or 0 now (laid m) (size ∙ sym (laid_long m)) (λ j l. rw (place_of_lem j) at (below (0x4000 + j) (omega arith) (omega arith) (ltb (0x4000 + j) address) refl))
    where
      within_it : (x : ℕ) → address ≤ x → x < 0x6000 → (t : Bool) → ltb x (address + min m (length payload)) ≡ t → byte_at now x ≡ byte_at (laid m) x
      within_it x lo hi true t =
          let l : x < address + min m (length payload) = ltb-true _ _ t in
          inside x lo (omega arith) (omega arith) ∙ sym (at_new m x lo (omega arith) (omega arith))
      within_it x lo hi false t =
          let l : address + min m (length payload) ≤ x = ltb-false _ _ t in
          past x l hi ∙ sym (at_past m x l)

      below : (x : ℕ) → 0x4000 ≤ x → x < 0x6000 → (t : Bool) → ltb x address ≡ t → byte_at now x ≡ byte_at (laid m) x
      below x lo hi true t = let l : x < address = ltb-true _ _ t in before x lo l ∙ sym (at_before m x lo l)
      below x lo hi false t = within_it x (ltb-false _ _ t) hi (ltb x (address + min m (length payload))) refl

  -- and back
  from_bytes : (i : ℕ) (now : List ℕ) → Stands k address payload flash i now → Overlaid k (place_of address) payload flash i now
  from_bytes i now s = by s.next
    where
      -- an address past the acknowledged blocks
      old : ((x : ℕ) → address + i * k ≤ x → x < address + suc i * k → x < address + length payload → byte_at now x ≡ byte_at flash x)
          → (x : ℕ) → address + min (i * k) (length payload) ≤ x → x < 0x6000 → (t : Bool) → ltb x (address + min (suc i * k) (length payload)) ≡ t
          → byte_at now x ≡ byte_at flash x
      old h x l hi true t =
          let u : x < address + min (suc i * k) (length payload) = ltb-true _ _ t in
          h x (omega arith) (omega arith) (omega arith)
      old h x l hi false t = s.other x (omega arith) hi (inr (ltb-false _ _ t))

      -- an address of the next block or before it
      new : ((x : ℕ) → address + i * k ≤ x → x < address + suc i * k → x < address + length payload → byte_at now x ≡ get_or payload (x - address) 0)
          → (x : ℕ) → address ≤ x → x < address + suc i * k → x < address + length payload → (t : Bool) → ltb x (address + i * k) ≡ t
          → byte_at now x ≡ get_or payload (x - address) 0
      new h x lo hi l true t = s.acked x lo (ltb-true _ _ t) l
      new h x lo hi l false t = h x (ltb-false _ _ t) hi l

      before : (x : ℕ) → 0x4000 ≤ x → x < address → byte_at now x ≡ byte_at flash x
      before x lo hi = s.other x lo (omega arith) (inl hi)

      by : ((x : ℕ) → address + i * k ≤ x → x < address + suc i * k → x < address + length payload → byte_at now x ≡ byte_at flash x)
          ⊎ ((x : ℕ) → address + i * k ≤ x → x < address + suc i * k → x < address + length payload → byte_at now x ≡ get_or payload (x - address) 0)
          → Overlaid k (place_of address) payload flash i now
      by (inl h) = inl (same_bytes (i * k) now s.size before s.acked (λ x l hi. old h x l hi (ltb x (address + min (suc i * k) (length payload))) refl))
      by (inr h) =
          inr (same_bytes (suc i * k) now s.size before (λ x lo hi l. new h x lo hi l (ltb x (address + i * k)) refl)
          (λ x l hi. s.other x (omega arith) hi (inr l)))

-- of an empty payload nothing is over the flash, at whatever address
module _ (k address : ℕ) (payload flash : List ℕ) (none : length payload ≡ 0) (whole : length flash ≡ 8192) where
  pub nothing_over : (i : ℕ) (now : List ℕ) → Overlaid k (place_of address) payload flash i now → now ≡ flash
  nothing_over i now (inl e) = e ∙ store_empty flash (place_of address) (take (i * k) payload) (length-take (i * k) payload ∙ omega arith)
  nothing_over i now (inr e) = e ∙ store_empty flash (place_of address) (take (suc i * k) payload) (length-take (suc i * k) payload ∙ omega arith)

  empty_bytes : (i : ℕ) (now : List ℕ) → now ≡ flash → Stands k address payload flash i now
  empty_bytes i now e =
      rw e
      (record {
        size = refl;
        acked = λ x lo hi l. absurd (omega arith);
        next = inl (λ x lo hi l. refl);
        other = λ x lo hi o. refl;
      })

  bytes_empty : (i : ℕ) (now : List ℕ) → Stands k address payload flash i now → now ≡ flash
  bytes_empty i now s = ext_get_or 0 now flash s.size (λ j l. rw (place_of_lem j) at (by (0x4000 + j) (omega (arith, s.size)) (omega (arith, s.size)) (ltb (0x4000 + j) address) refl))
    where
      by : (x : ℕ) → 0x4000 ≤ x → x < 0x6000 → (t : Bool) → ltb x address ≡ t → byte_at now x ≡ byte_at flash x
      by x lo hi true t = s.other x lo hi (inl (ltb-true _ _ t))
      by x lo hi false t = let l : address ≤ x = ltb-false _ _ t in s.other x lo hi (inr (omega arith))

-- THE OVERLAY AND THE BYTES SAY THE SAME
pub agree : (k address : ℕ) (payload flash : List ℕ) → in_window address (length payload) ≡ true → length flash ≡ 8192 → (i : ℕ) (now : List ℕ)
    → (Overlaid k (place_of address) payload flash i now → Stands k address payload flash i now)
    × (Stands k address payload flash i now → Overlaid k (place_of address) payload flash i now)
agree k address payload flash win whole i now = by (eqb (length payload) 0) refl
  where
    by : (t : Bool) → eqb (length payload) 0 ≡ t
        → (Overlaid k (place_of address) payload flash i now → Stands k address payload flash i now)
        × (Stands k address payload flash i now → Overlaid k (place_of address) payload flash i now)
    by true t =
        let none : length payload ≡ 0 = eqb-true _ _ t in (
          λ v. empty_bytes k address payload flash none whole i now (nothing_over k address payload flash none whole i now v),
          λ s. inl (bytes_empty k address payload flash none whole i now s
              ∙ sym (store_empty flash (place_of address) (take (i * k) payload) (length-take (i * k) payload ∙ omega arith))),
        )
    by false t =
        let some : length payload ≡ 0 → ⊥ = eqb-false _ _ t in
        let w = within address (length payload) win (omega arith) in (
          in_bytes k address payload flash w.0 w.1 whole i now,
          from_bytes k address payload flash w.0 w.1 whole i now,
        )
