-- What the ceilings use of numbers: products and blocks.
-- Assumes nothing.
use Prim.Native.Nat.{ℕ, zero, suc, ◌+◌, ◌-◌, ◌*◌, ◌≤◌, ◌<◌}
use mathlib.Core.Path.{◌≡◌, refl}
use mathlib.Core.Bool.{Bool, true, false}
use native.Mathlib.Omega.{arith}
use native.Mathlib.Nat.{suc-mul, zero-mul, mul-le-mul_right}
use lib.Dec.{leb}
use borrow.Author.Tests.{leb-true, leb-false}
use Rattle.ceilings.specs.Ceilings.{Blocks}

-- one of n equal parts taken away
pub one_less : (n k : ℕ) → 0 < n → n * k ≡ (n - 1) * k + k
one_less zero k some = absurd (omega arith)
one_less (suc i) k some = let e : suc i - 1 ≡ i = omega arith in rw e (suc-mul i k)

-- one byte more lies in the last block, or begins another
block_more : (k n b : ℕ) → 0 < k → Blocks k n b → (c : ℕ) × Blocks k (suc n) c
block_more k n b some (low, high) = by (leb (b * k) n) refl
  where
    by : (t : Bool) → leb (b * k) n ≡ t → (c : ℕ) × Blocks k (suc n) c
    by true t =
        let full = leb-true (b * k) n t in
        let next = suc-mul b k in
        (suc b, (omega (arith, low, full, next), omega (arith, low, full, next)))
    by false t = let space = leb-false (b * k) n t in (b, (omega (arith, space), omega (arith, high)))

-- n bytes have some number of blocks
pub blocks : (k n : ℕ) → 0 < k → (b : ℕ) × Blocks k n b
blocks k zero some = let none = zero-mul k in (0, (omega arith, omega (arith, none)))
blocks k (suc n) some = let before = blocks k n some in block_more k n before.0 some before.1

-- one number of blocks is not below another
blocks_least : (k n b c : ℕ) → Blocks k n b → Blocks k n c → b ≤ c
blocks_least k n b c (low, high) (low', high') = by (leb b c) refl
  where
    by : (t : Bool) → leb b c ≡ t → b ≤ c
    by true t = leb-true b c t
    by false t =
        let more : suc c ≤ b = omega (arith, leb-false b c t) in
        let far : suc c * k ≤ b * k = mul-le-mul_right k more in
        let next = suc-mul c k in
        absurd (omega (arith, far, next, high, low'))

-- and one number only
pub blocks_one : (k n b c : ℕ) → Blocks k n b → Blocks k n c → b ≡ c
blocks_one k n b c x y =
    let up = blocks_least k n b c x y in
    let down = blocks_least k n c b y x in
    omega (arith, up, down)
