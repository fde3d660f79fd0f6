-- A line that has no room where lines are held is answered by its first bytes, whether its line feed comes later or never.
-- Assumes nothing.
use Prim.Native.Nat.{ℕ, suc, ◌+◌, ◌*◌, ◌/◌, ◌%◌, ◌≤◌, ◌<◌}
use mathlib.Core.Path.{◌≡◌, refl, sym, ap, subst, ◌∙◌}
use mathlib.Core.Bool.{Bool, true, false}
use mathlib.Core.List.{List, [], ◌∷◌, ◌++◌, append_assoc}
use mathlib.Core.Logic.{◌⊎◌, inl, inr}
use native.Mathlib.Omega.{arith}
use lib.ListN.{length, take, drop, length-append}
use lib.Seq.{length-take-le, take_all, take-append-le}
use lib.Dec.{ltb, eqb}
use borrow.Author.Tests.{lt-ltb, ne_eqb, eqb-false, ltb-true, ltb-false}
use Rattle.hexadecimal.specs.Hex.{decoded_of, bytes_of, out_decoded}
use Rattle.std.specs.Prelude.{Ok, Err}
use Rattle.hexadecimal.specs.declared.DecodeError.TheVariants as error
use Rattle.protocol.specs.Pick.{when◌then◌else◌}
use Rattle.requests.specs.Outcome.{outcome_line}
use Rattle.requests.specs.Retired.{retired_kind}
use Rattle.requests.proofs.Front.{retired_front}
use Rattle.requests.proofs.Long.{empty_request}
use Rattle.lines.specs.Input.{lines_from, rest_from}
use Rattle.lines.specs.Lines.{before_feed}
use Rattle.lines.proofs.Laws.{take_before}
use Rattle.lines.proofs.Any.{lines_more, lines_whole}
use Rattle.dialogue.specs.Dialogue as dialogue
use Rattle.dialogue.specs.declared.Run.{Run}
use Rattle.dialogue.specs.declared.Run.TheVariants as run

-- a line with more digits than there is room for has no bytes
no_bytes : (line out : List ℕ) → length out * 2 < length line → dialogue.bytes_in line out ≡ []
unfolding dialogue.bytes_in dialogue.byte_count dialogue.count_in decoded_of when◌then◌else◌
no_bytes line out h = by (eqb (length line % 2) 1) refl
  where
    by : (t : Bool) → eqb (length line % 2) 1 ≡ t
        → take
        (dialogue.count_in
        (when t then Err error.Bad else
        when ltb (length out) (length line / 2) then Err error.TooLong else
        when ltb (length (bytes_of line)) (length line / 2) then Err error.Bad else Ok (length line / 2)))
        (out_decoded line out) ≡ []
    by true e = refl
    by false e =
        let k : length out < length line / 2 = omega (arith, eqb-false (length line % 2) 1 e) in
        rw (lt-ltb (length out) (length line / 2) k)

-- such a line is answered as a line that lacks its line feed
pub long_says : (r : Run) (line R Y B : List ℕ) → length R * 2 < length line → length Y * 2 < length line
    → (dialogue.answer_of r line R Y B).saying ≡ dialogue.last (dialogue.close_of r line B)
unfolding dialogue.answer_of dialogue.first_of dialogue.refused_of dialogue.unfinished_of dialogue.close_of dialogue.last_of dialogue.begin_of dialogue.begin_by
    dialogue.go_on dialogue.hear_of dialogue.hear_by dialogue.hear_buffer dialogue.hear_buffer_by dialogue.say_of outcome_line when◌then◌else◌
long_says run.Fresh line R Y B x y = by (retired_kind line) refl
  where
    by : (t : Bool) → retired_kind line ≡ t → (dialogue.first_of line R B).saying ≡ dialogue.last (dialogue.close_of run.Fresh line B)
    by true e = rw e
    by false e = rw (e, no_bytes line R x, empty_request)
long_says (run.Call call place) line R Y B x y =
    let some : length line ≡ 0 → ⊥ = λ e. omega arith in
    rw (no_bytes line Y y, ne_eqb (length line) 0 some)

-- the first bytes of an unfinished line, two at least, will do for it
pub close_front : (r : Run) (line B : List ℕ) (n : ℕ) → 2 ≤ n → n ≤ length line → dialogue.close_of r (take n line) B ≡ dialogue.close_of r line B
unfolding dialogue.close_of dialogue.unfinished_of dialogue.last_of when◌then◌else◌
close_front run.Fresh line B n two h = rw (retired_front line n two)
close_front (run.Call call place) line B n two h =
    let k : length (take n line) ≡ n = length-take-le n line h in
    rw (ne_eqb (length (take n line)) 0 (λ e. omega arith), ne_eqb (length line) 0 (λ e. omega arith))

-- more input lengthens what comes before the first line feed, or leaves it as it is
before_append : (s t : List ℕ) → (u : List ℕ) × (before_feed (s ++ t) ≡ before_feed s ++ u)
unfolding before_feed when◌then◌else◌
before_append [] t = (before_feed t, refl)
before_append (b ∷ s) t = by (before_append s t) (eqb b 10)
  where
    by : ((u : List ℕ) × (before_feed (s ++ t) ≡ before_feed s ++ u)) → (f : Bool)
        → (u : List ℕ) × ((when f then [] else b ∷ before_feed (s ++ t)) ≡ (when f then [] else b ∷ before_feed s) ++ u)
    by (u, e) true = ([], refl)
    by (u, e) false = (u, ap (λ (l : List ℕ). b ∷ l) e)

-- so the first n bytes of a line that has as many stay
pub long_front : (held s t : List ℕ) (n : ℕ) → n < length held + length (before_feed s)
    → (take n (held ++ before_feed (s ++ t)) ≡ take n (held ++ before_feed s)) × (n < length (held ++ before_feed (s ++ t)))
long_front held s t n h = by (before_append s t)
  where
    by : ((u : List ℕ) × (before_feed (s ++ t) ≡ before_feed s ++ u))
        → (take n (held ++ before_feed (s ++ t)) ≡ take n (held ++ before_feed s)) × (n < length (held ++ before_feed (s ++ t)))
    by (u, e) =
        let k : length (held ++ before_feed s) ≡ length held + length (before_feed s) = length-append held (before_feed s) in
        let a : held ++ before_feed (s ++ t) ≡ (held ++ before_feed s) ++ u = ap (λ (l : List ℕ). held ++ l) e ∙ sym (append_assoc held (before_feed s) u) in
        let m : length ((held ++ before_feed s) ++ u) ≡ length (held ++ before_feed s) + length u = length-append (held ++ before_feed s) u in
        (ap (take n) a ∙ take-append-le n (held ++ before_feed s) u (omega arith), subst (λ (l : List ℕ). n < length l) (sym a) (omega arith))

-- the first line, or what never becomes one, is what is held and what comes before the first line feed
pub first_line : (held s : List ℕ)
    → ((lines_from held s ≡ []) × (rest_from held s ≡ held ++ before_feed s))
    ⊎ (lines_from held s ≡ (held ++ before_feed s) ∷ lines_from [] (drop (suc (length (before_feed s))) s))
first_line held s = by (ltb (length (before_feed s)) (length s)) refl
  where
    by : (f : Bool) → ltb (length (before_feed s)) (length s) ≡ f
        → ((lines_from held s ≡ []) × (rest_from held s ≡ held ++ before_feed s))
        ⊎ (lines_from held s ≡ (held ++ before_feed s) ∷ lines_from [] (drop (suc (length (before_feed s))) s))
    by true e = inr (lines_whole s held (ltb-true (length (before_feed s)) (length s) e)).0
    by false e =
        let k : length s ≤ length (before_feed s) = ltb-false (length (before_feed s)) (length s) e in
        let p = lines_more s held k in
        let all : before_feed s ≡ s = sym (take_before s) ∙ take_all (length (before_feed s)) s k in
        inl (p.0, p.1 ∙ ap (λ (l : List ℕ). held ++ l) (sym all))
