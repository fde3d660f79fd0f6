-- What blocks of any length do to a flash: a block stored where it is due, and the rest of a payload stored over a part.
-- Assumes nothing.
use Prim.Native.Nat.{ℕ, suc, ◌+◌, ◌*◌, ◌≤◌, ◌<◌, min}
use mathlib.Core.Path.{◌≡◌, sym, ◌∙◌}
use mathlib.Core.Logic.{inl, inr}
use mathlib.Core.List.{List}
use native.Mathlib.Omega.{arith}
use native.Mathlib.Nat.{suc-mul, zero-mul}
use lib.ListN.{length, take, drop, length-take}
use lib.Seq.{take_all}
use Rattle.promises.specs.Flash.{store, block_of, upto, Overlaid}
use Rattle.promises.proofs.Store.{store_next, store_rest, store_nothing, store_length}

-- where every block is acknowledged, the whole payload stands
pub overlaid_all : (k at : ℕ) (payload flash : List ℕ) (i : ℕ) (now : List ℕ) → length payload ≤ i * k → Overlaid k at payload flash i now → now ≡ store flash at payload
overlaid_all k at payload flash i now h (inl e) = e ∙ rw take_all
overlaid_all k at payload flash i now h (inr e) = let h' : length payload ≤ suc i * k = omega (arith, suc-mul i k) in e ∙ rw take_all

module _ (k at : ℕ) (payload flash : List ℕ) (fits : at + length payload ≤ length flash) where
  taken_short : (m : ℕ) → length (take m payload) ≡ min m (length payload)
  taken_short m = length-take m payload

  -- the flash keeps its length
  pub overlaid_long : (i : ℕ) (now : List ℕ) → Overlaid k at payload flash i now → length now ≡ length flash
  overlaid_long i now v = by v
    where
      long : (m : ℕ) → now ≡ store flash at (take m payload) → length now ≡ length flash
      long m e = rw e (store_length flash at (take m payload) (omega (arith, taken_short m)))

      by : Overlaid k at payload flash i now → length now ≡ length flash
      by (inl e) = long (i * k) e
      by (inr e) = long (suc i * k) e

  -- before the first block nothing is over it
  pub overlaid_none : Overlaid k at payload flash 0 flash
  overlaid_none = inl (rw zero-mul (sym (store_nothing flash at)))

  -- block i, stored where it is due, makes it the first i + 1 blocks, whether or not it had landed before
  pub landed : (i : ℕ) (now : List ℕ) → i * k < length payload → Overlaid k at payload flash i now
      → store now (at + i * k) (block_of k i payload) ≡ upto k at payload flash (suc i)
  landed i now h v = by v
    where
      land : (m : ℕ) → i * k ≤ m → m ≤ i * k + k → now ≡ store flash at (take m payload)
          → store now (at + i * k) (block_of k i payload) ≡ upto k at payload flash (suc i)
      land m lo hi e = rw (e, suc-mul) (store_next flash at payload (i * k) m k (omega arith) (omega arith) lo hi)

      by : Overlaid k at payload flash i now → store now (at + i * k) (block_of k i payload) ≡ upto k at payload flash (suc i)
      by (inl e) = land (i * k) (omega arith) (omega arith) e
      by (inr e) = land (suc i * k) (omega (arith, suc-mul i k)) (omega (arith, suc-mul i k)) e

  -- the bytes past any part of what was acknowledged, stored after it, make it the whole payload
  pub overlaid_rest : (i b : ℕ) (now : List ℕ) → b ≤ i * k → b ≤ length payload → Overlaid k at payload flash i now
      → store now (at + b) (drop b payload) ≡ store flash at payload
  overlaid_rest i b now h l v = by v
    where
      rest : (m : ℕ) → b ≤ m → now ≡ store flash at (take m payload) → store now (at + b) (drop b payload) ≡ store flash at payload
      rest m n e = rw e (store_rest flash at payload b m (omega arith) l n)

      by : Overlaid k at payload flash i now → store now (at + b) (drop b payload) ≡ store flash at payload
      by (inl e) = rest (i * k) h e
      by (inr e) = rest (suc i * k) (omega (arith, suc-mul i k)) e
