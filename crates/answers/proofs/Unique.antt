-- Each contract is an equation for the result and one for each lent byte after the call, so it has one answer.
-- Assumes nothing.
use mathlib.Core.Path.{◌≡◌, refl, sym, ◌∙◌}
use Rattle.answers.specs.Unique.{One, Unique}

-- an equation has one answer
same_two : {A : Type 0} (f r s : A) → r ≡ f → s ≡ f → r ≡ s
same_two f r s p q = p ∙ sym q

equation : {A : Type 0} (f : A) → One (λ (r : A). r ≡ f)
equation f = record { some = (f, refl); same = same_two f }

-- and so have two side by side
same_pair : {A B : Type 0} {a b : A} {c d : B} → a ≡ b → c ≡ d → ◌≡◌ {A = A × B} (a, c) (b, d)
same_pair p q = cc

equations : {A B : Type 0} (f : A) (g : B) → One (λ (r : A × B). (r.0 ≡ f) × (r.1 ≡ g))
equations f g = record { some = ((f, g), (refl, refl)); same = λ r s p q. same_pair (same_two f r.0 s.0 p.0 q.0) (same_two g r.1 s.1 p.1 q.1) }

-- EVERY CONTRACT HAS ONE ANSWER
pub unique : Unique
unique = record {
  equation = equation;
  equations = equations;
  starts_w = λ plan payload work. equation _;
  shows_w = λ call payload work. equations _ _;
  sends_w = λ call payload work n. equation _;
  reports_w = λ call outcome reply payload work. equation _;
  starts_r = λ plan buffer work. equation _;
  shows_r = λ call buffer work. equations _ _;
  sends_r = λ call work n. equation _;
  reports_r = λ call outcome reply buffer work. equations _ _;
}
