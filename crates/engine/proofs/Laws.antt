-- The laws of a failed attempt and of a count, from their tests.
-- Assumes nothing.
use Prim.Native.Nat.{ℕ, suc, ◌-◌, ◌≤◌}
use mathlib.Core.Path.{◌≡◌, refl, ap}
use mathlib.Core.Bool.{Bool, true}
use Rattle.std.specs.Prelude.{Some}
use native.Mathlib.Omega.{arith}
use borrow.Author.Tests.{ne_eqb}
use Rattle.protocol.specs.Pick.{when◌then◌else◌}
use Rattle.engine.specs.Budget.{wait_of, failed}
use Rattle.engine.specs.Bus.{write_of}
use Rattle.engine.specs.Laws.{Laws}

retries : (r n : ℕ) (growing : Bool) → failed r growing (record { left = suc n }) ≡ Some (record { left = n }, wait_of growing (r - suc n))
unfolding failed when◌then◌else◌
retries r n growing =
    let some : suc n ≡ 0 → ⊥ = λ e. omega arith in
    let less : suc n - 1 ≡ n = omega arith in
    rw (ne_eqb (suc n) 0 some) (ap (λ (k : ℕ). Some (record { left = k }, wait_of growing (r - suc n))) less)

for_good : (k : ℕ) → 3 ≤ k → wait_of true k ≡ 80
unfolding wait_of when◌then◌else◌
for_good k h = rw (ne_eqb k 0 (λ e. omega arith), ne_eqb k 1 (λ e. omega arith), ne_eqb k 2 (λ e. omega arith))

pub laws : Laws
unfolding failed wait_of write_of when◌then◌else◌
laws = record {
  retries = retries;
  spent = λ r growing. refl;
  steady = λ k. refl;
  grows = (refl, refl, refl, for_good);
  plus = λ n k h. omega arith;
  most = λ n k h. omega arith;
  more = λ n. refl;
  shows = λ n. refl;
  no_room = refl;
}
