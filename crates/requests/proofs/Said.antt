-- What an outcome line says, and whether a kind is retired, by the length of the line and its first two bytes.
-- Assumes nothing.
use Prim.Native.Nat.{ℕ, ◌≤◌}
use mathlib.Core.Path.{◌≡◌, refl}
use mathlib.Core.Bool.{Bool, true, false}
use mathlib.Core.List.{List}
use mathlib.Core.Logic.{◌⊎◌, inl, inr}
use native.Mathlib.Omega.{arith}
use lib.ListN.{length, get_or}
use lib.Dec.{eqb, ltb}
use borrow.Author.Tests.{eqb-true, eqb-false, ltb-false}
use Rattle.std.specs.Prelude.{Option, Some, None}
use Rattle.protocol.specs.Pick.{when◌then◌else◌}
use Rattle.protocol.proofs.Cases.{cases}
use Rattle.engine.specs.declared.bus.Outcome.{Outcome}
use Rattle.engine.specs.declared.bus.Outcome.TheVariants as outcome
use Rattle.requests.specs.Outcome.{acknowledged_line, error_line, timeout_line, outcome_line}
use Rattle.requests.specs.Retired.{retired_kind}

pub says_acknowledged : (line : List ℕ) → 1 ≤ length line → length line ≤ 8193 → get_or line 0 0 ≡ 0 → Some outcome.Acknowledged ≡ outcome_line line
unfolding outcome_line acknowledged_line
says_acknowledged line n m e =
    let some : length line ≡ 0 → ⊥ = λ q. omega arith in
    search cases

pub says_error : (line : List ℕ) → length line ≡ 2 → get_or line 0 0 ≡ 1 → Some (outcome.BusError (get_or line 1 0)) ≡ outcome_line line
unfolding outcome_line error_line
says_error line n e =
    let some : length line ≡ 0 → ⊥ = λ q. omega arith in
    let first : get_or line 0 0 ≡ 0 → ⊥ = λ q. omega arith in
    search cases

pub says_timeout : (line : List ℕ) → length line ≡ 1 → get_or line 0 0 ≡ 2 → Some outcome.Timeout ≡ outcome_line line
unfolding outcome_line timeout_line
says_timeout line n e =
    let some : length line ≡ 0 → ⊥ = λ q. omega arith in
    let first : get_or line 0 0 ≡ 0 → ⊥ = λ q. omega arith in
    let second : get_or line 0 0 ≡ 1 → ⊥ = λ q. omega arith in
    search cases

-- nothing, whatever the test says
no_said : (t : Bool) (x y : Option Outcome) → (t ≡ true → None ≡ x) → (t ≡ false → None ≡ y) → None ≡ when◌then◌else◌ t x y
unfolding when◌then◌else◌
no_said true x y p q = p refl
no_said false x y p q = q refl

-- none of the three
pub says_nothing : (line : List ℕ) → (1 ≤ length line → length line ≤ 8193 → get_or line 0 0 ≡ 0 → ⊥) → (length line ≡ 2 → get_or line 0 0 ≡ 1 → ⊥) → (length line ≡ 1 → get_or line 0 0 ≡ 2 → ⊥)
    → None ≡ outcome_line line
unfolding outcome_line acknowledged_line error_line timeout_line
says_nothing line a b c =
    let n : ℕ = length line in
    let first : ℕ = get_or line 0 0 in
    no_said (eqb n 0) _ _ (λ _. refl)
    (λ some. no_said (eqb first 0) _ _ (λ e. no_said (ltb 8193 n) _ _ (λ _. refl) (λ k. absurd (a (omega (arith, eqb-false n 0 some)) (ltb-false 8193 n k) (eqb-true first 0 e))))
    (λ _. no_said (eqb first 1) _ _ (λ e. no_said (eqb n 2) _ _ (λ k. absurd (b (eqb-true n 2 k) (eqb-true first 1 e))) (λ _. refl))
    (λ _. no_said (eqb first 2) _ _ (λ e. no_said (eqb n 1) _ _ (λ k. absurd (c (eqb-true n 1 k) (eqb-true first 2 e))) (λ _. refl))
    (λ _. refl))))

pub retired_yes : (line : List ℕ) → get_or line 0 0 ≡ 48 → (get_or line 1 0 ≡ 67) ⊎ (get_or line 1 0 ≡ 68) → true ≡ retired_kind line
unfolding retired_kind when◌then◌else◌
retired_yes line e (inl q) = rw (e, q)
retired_yes line e (inr q) = rw (e, q)

pub retired_no : (line : List ℕ) → (get_or line 0 0 ≡ 48 → (get_or line 1 0 ≡ 67) ⊎ (get_or line 1 0 ≡ 68) → ⊥) → false ≡ retired_kind line
unfolding retired_kind when◌then◌else◌
retired_no line n = by₀ (eqb (get_or line 0 0) 48) refl
  where
    by₂ : (t : Bool) → eqb (get_or line 1 0) 68 ≡ t → get_or line 0 0 ≡ 48 → false ≡ (when t then true else false)
    by₂ true e z = absurd (n z (inr (eqb-true _ 68 e)))
    by₂ false e z = refl

    by₁ : (t : Bool) → eqb (get_or line 1 0) 67 ≡ t → get_or line 0 0 ≡ 48 → false ≡ (when t then true else when eqb (get_or line 1 0) 68 then true else false)
    by₁ true e z = absurd (n z (inl (eqb-true _ 67 e)))
    by₁ false e z = by₂ (eqb (get_or line 1 0) 68) refl z

    by₀ : (t : Bool) → eqb (get_or line 0 0) 48 ≡ t → false ≡ (when t then (when eqb (get_or line 1 0) 67 then true else when eqb (get_or line 1 0) 68 then true else false) else false)
    by₀ true e = by₁ (eqb (get_or line 1 0) 67) refl (eqb-true _ 48 e)
    by₀ false e = refl
