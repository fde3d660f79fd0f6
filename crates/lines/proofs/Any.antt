-- However the input is cut into chunks, the lines that are put together are those of the whole input.
-- Assumes nothing.
use Prim.Native.Nat.{ℕ, suc, ◌+◌, ◌-◌, ◌≤◌, ◌<◌, min}
use mathlib.Core.Path.{◌≡◌, refl, sym, ap, ◌∙◌}
use mathlib.Core.Bool.{Bool, true, false}
use mathlib.Core.List.{List, [], ◌∷◌, ◌++◌, append_assoc, append-nil}
use native.Mathlib.Omega.{arith}
use lib.ListN.{length, take, drop, length-append, length-drop}
use lib.Seq.{length-take-le, take-append-add, take-append_seam, take-length, drop-length}
use lib.Dec.{eqb}
use borrow.Author.Tests.{le-leb}
use Rattle.protocol.specs.Pick.{when◌then◌else◌}
use Rattle.protocol.specs.Bytes.{over, block_in, stored_at}
use Rattle.lines.specs.Input.{lines_from, rest_from}
use Rattle.lines.specs.Lines.{before_feed}

-- one chunk after the other
pub lines_append : (s t held : List ℕ) → lines_from held (s ++ t) ≡ lines_from held s ++ lines_from (rest_from held s) t
unfolding lines_from rest_from when◌then◌else◌
lines_append [] t held = refl
lines_append (b ∷ s) t held = by (lines_append s t []) (lines_append s t (held ++ (b ∷ []))) (eqb b 10)
  where
    by : lines_from [] (s ++ t) ≡ lines_from [] s ++ lines_from (rest_from [] s) t
        → lines_from (held ++ (b ∷ [])) (s ++ t) ≡ lines_from (held ++ (b ∷ [])) s ++ lines_from (rest_from (held ++ (b ∷ [])) s) t
        → (f : Bool) → (when f then held ∷ lines_from [] (s ++ t) else lines_from (held ++ (b ∷ [])) (s ++ t))
        ≡ (when f then held ∷ lines_from [] s else lines_from (held ++ (b ∷ [])) s) ++ lines_from (when f then rest_from [] s else rest_from (held ++ (b ∷ [])) s) t
    by p q true = ap (λ (l : List (List ℕ)). held ∷ l) p
    by p q false = q

pub rest_append : (s t held : List ℕ) → rest_from held (s ++ t) ≡ rest_from (rest_from held s) t
unfolding rest_from when◌then◌else◌
rest_append [] t held = refl
rest_append (b ∷ s) t held = by (rest_append s t []) (rest_append s t (held ++ (b ∷ []))) (eqb b 10)
  where
    by : rest_from [] (s ++ t) ≡ rest_from (rest_from [] s) t → rest_from (held ++ (b ∷ [])) (s ++ t) ≡ rest_from (rest_from (held ++ (b ∷ [])) s) t
        → (f : Bool) → (when f then rest_from [] (s ++ t) else rest_from (held ++ (b ∷ [])) (s ++ t)) ≡ rest_from (when f then rest_from [] s else rest_from (held ++ (b ∷ [])) s) t
    by p q true = p
    by p q false = q

-- a chunk with no line feed: all of it is held
pub lines_more : (s held : List ℕ) → length s ≤ length (before_feed s) → (lines_from held s ≡ []) × (rest_from held s ≡ held ++ s)
unfolding lines_from rest_from before_feed when◌then◌else◌
lines_more [] held h = (refl, sym (append-nil held))
lines_more (b ∷ s) held h = by (λ k. lines_more s (held ++ (b ∷ [])) k) (eqb b 10) h
  where
    by : (length s ≤ length (before_feed s) → (lines_from (held ++ (b ∷ [])) s ≡ []) × (rest_from (held ++ (b ∷ [])) s ≡ held ++ (b ∷ []) ++ s))
        → (f : Bool) → suc (length s) ≤ length (when f then [] else b ∷ before_feed s)
        → ((when f then held ∷ lines_from [] s else lines_from (held ++ (b ∷ [])) s) ≡ []) × ((when f then rest_from [] s else rest_from (held ++ (b ∷ [])) s) ≡ held ++ b ∷ s)
    by rest true h = absurd (omega arith)
    by rest false h = let r = rest (omega arith) in (r.0, r.1 ∙ append_assoc held (b ∷ []) s)

-- a chunk with a line feed: a line is whole, and what follows is read from there
pub lines_whole : (s held : List ℕ) → length (before_feed s) < length s
    → (lines_from held s ≡ (held ++ before_feed s) ∷ lines_from [] (drop (suc (length (before_feed s))) s)) × (rest_from held s ≡ rest_from [] (drop (suc (length (before_feed s))) s))
unfolding lines_from rest_from before_feed when◌then◌else◌
lines_whole [] held h = absurd (omega arith)
lines_whole (b ∷ s) held h = by (λ k. lines_whole s (held ++ (b ∷ [])) k) (eqb b 10) h
  where
    by : (length (before_feed s) < length s
        → (lines_from (held ++ (b ∷ [])) s ≡ (held ++ (b ∷ []) ++ before_feed s) ∷ lines_from [] (drop (suc (length (before_feed s))) s))
        × (rest_from (held ++ (b ∷ [])) s ≡ rest_from [] (drop (suc (length (before_feed s))) s)))
        → (f : Bool) → length (when f then [] else b ∷ before_feed s) < suc (length s)
        → ((when f then held ∷ lines_from [] s else lines_from (held ++ (b ∷ [])) s)
        ≡ (held ++ (when f then [] else b ∷ before_feed s)) ∷ lines_from [] (drop (suc (length (when f then [] else b ∷ before_feed s))) (b ∷ s)))
        × ((when f then rest_from [] s else rest_from (held ++ (b ∷ [])) s) ≡ rest_from [] (drop (suc (length (when f then [] else b ∷ before_feed s))) (b ∷ s)))
    by rest true h = (rw append-nil, refl)
    by rest false h =
        let r = rest (omega arith) in
        (r.0 ∙ ap (λ (l : List ℕ). l ∷ lines_from [] (drop (suc (length (before_feed s))) s)) (append_assoc held (b ∷ []) (before_feed s)), r.1)

-- what is held once the bytes before a line feed are put after what was held, where they have room
pub held_more : (b held : List ℕ) (have : ℕ) → have + length b ≤ length held → take (have + length b) (stored_at have (length b) b held) ≡ take have held ++ b
unfolding stored_at when◌then◌else◌ block_in over
held_more b held have h =
    let d : List ℕ = drop have held in
    let n : length d ≡ length held - have = length-drop have held in
    let le : have ≤ length held = omega arith in
    let m : min (length b) (min (length b) (length d)) ≡ length b = omega arith in
    let k : length (take have held ++ b) ≡ have + length b = rw (length-append, length-take-le have held le) refl in
    rw (le-leb have (length held) le, m, take-length b)
    (ap (λ (t : List ℕ). take (have + length b) t) (sym (append_assoc (take have held) b (drop (length b) d)))
    ∙ ap (λ (j : ℕ). take j (take have held ++ b ++ drop (length b) d)) (sym k)
    ∙ take-append_seam (take have held ++ b) (drop (length b) d))

-- what is held where they have no room: as many as have
pub held_long : (b held : List ℕ) (have : ℕ) → have ≤ length held → length held ≤ have + length b
    → stored_at have (length b) b held ≡ take (length held) (take have held ++ b)
unfolding stored_at when◌then◌else◌ block_in over
held_long b held have le long =
    let d : List ℕ = drop have held in
    let n : length d ≡ length held - have = length-drop have held in
    let m : min (length b) (min (length b) (length d)) ≡ length d = omega arith in
    let k : length (take (length d) b) ≡ length d = length-take-le (length d) b (omega arith) in
    let all : length held ≡ length (take have held) + length d = rw (length-take-le have held le) (omega arith) in
    let none : drop (length (take (length d) b)) d ≡ [] = ap (λ (j : ℕ). drop j d) k ∙ drop-length d in
    rw (le-leb have (length held) le, m)
    (ap (λ (t : List ℕ). take have held ++ (take (length d) b ++ t)) none
    ∙ ap (λ (t : List ℕ). take have held ++ t) (append-nil (take (length d) b))
    ∙ sym (take-append-add (take have held) b (length d))
    ∙ ap (λ (j : ℕ). take j (take have held ++ b)) (sym all))
