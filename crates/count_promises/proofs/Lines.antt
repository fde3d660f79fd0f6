-- The lines that are packs are these, and no other: hexadecimal is read as it is written, and the lines of an input make it up.
-- Assumes nothing.
use Prim.Native.Nat.{ℕ, zero, suc, ◌+◌, ◌*◌, ◌/◌, ◌%◌, ◌<◌}
use mathlib.Core.Path.{◌≡◌, refl, sym, ap, ◌∙◌, subst}
use mathlib.Core.Bool.{Bool, true, false}
use mathlib.Core.List.{List, [], ◌∷◌, ◌++◌, append_assoc, append-nil}
use mathlib.Core.Logic.{⊎_elim}
use native.Mathlib.Nat.{pos_of_ne-zero}
use native.Mathlib.Omega.{arith}
use lib.Dec.{eqb}
use borrow.Author.Tests.{eqb-true, eqb-false, ne_eqb}
use Rattle.protocol.specs.Pick.{when◌then◌else◌}
use Rattle.hexadecimal.specs.BothWays.{AllBytes}
use Rattle.hexadecimal.specs.Digits.{in_digits}
use Rattle.hexadecimal.specs.Line.{line_bytes}
use Rattle.hexadecimal.proofs.Digits.{hexadecimal}
use Rattle.lines.specs.Input.{lines_from, rest_from}
use Rattle.std.specs.Prelude.{Some, None}
use Rattle.packs.specs.Said.{Said}
use Rattle.packs.specs.declared.Pack.TheVariants as pack
use Rattle.packs.proofs.Lies.{pick}
use Rattle.count_promises.specs.Packs.{cycles_said, answer_said, bytes_say, line_says}
use Rattle.count_promises.specs.Lines.{read_line, unread_line, Lines, file_of, NoFeed, NoFeeds, Whole}

three_bytes : (a b c : ℕ) → a < 256 → b < 256 → c < 256 → AllBytes (a ∷ b ∷ c ∷ [])
three_bytes a b c ha hb hc zero = ha
three_bytes a b c ha hb hc (suc zero) = hb
three_bytes a b c ha hb hc (suc (suc zero)) = hc
three_bytes a b c ha hb hc (suc (suc (suc k))) = omega arith

two_bytes : (a b : ℕ) → a < 256 → b < 256 → AllBytes (a ∷ b ∷ [])
two_bytes a b ha hb zero = ha
two_bytes a b ha hb (suc zero) = hb
two_bytes a b ha hb (suc (suc k)) = omega arith

read_says : (cycles : ℕ) → cycles < 65536 → line_says (read_line cycles) ≡ Some (pack.Read cycles)
unfolding line_says bytes_say cycles_said when◌then◌else◌
read_says cycles h =
    rw (hexadecimal.reads (0 ∷ cycles % 256 ∷ cycles / 256 ∷ []) (three_bytes 0 (cycles % 256) (cycles / 256) (omega arith) (omega arith) (omega arith)))
    (ap Some (ap pack.Read (omega arith)))

unread_says : (answer : ℕ) → 0 < answer → answer < 256 → line_says (unread_line answer) ≡ Some (pack.Unread answer)
unfolding line_says bytes_say answer_said when◌then◌else◌
unread_says answer some h =
    rw (hexadecimal.reads (1 ∷ answer ∷ []) (two_bytes 1 answer (omega arith) h), ne_eqb answer 0 (λ e. absurd (omega arith))) refl

-- the bytes of a pack that says so
abbrev SaysRead : List ℕ → ℕ → Type 0
SaysRead s cycles = AllBytes s → (cycles < 65536) × (s ≡ 0 ∷ cycles % 256 ∷ cycles / 256 ∷ [])

abbrev SaysUnread : List ℕ → ℕ → Type 0
SaysUnread s answer = AllBytes s → (0 < answer) × (answer < 256) × (s ≡ 1 ∷ answer ∷ [])

-- what is read out of a statement about what is said
abbrev IfRead : (ℕ → Type 0) → Said → Type 0
IfRead P (Some (pack.Read cycles)) = P cycles
IfRead P (Some (pack.Unread answer)) = Unit {0}
IfRead P None = Unit {0}

abbrev IfUnread : (ℕ → Type 0) → Said → Type 0
IfUnread P (Some (pack.Read cycles)) = Unit {0}
IfUnread P (Some (pack.Unread answer)) = P answer
IfUnread P None = Unit {0}

cycles_read : (kind : ℕ) (s : List ℕ) → kind ≡ 0 → IfRead (SaysRead (kind ∷ s)) (cycles_said s)
unfolding cycles_said
cycles_read kind [] e = tt
cycles_read kind (low ∷ []) e = tt
cycles_read kind (low ∷ high ∷ []) e = λ all.
    let l : low < 256 = all 1 in
    let h : high < 256 = all 2 in
    let ql : low ≡ (low + 256 * high) % 256 = omega arith in
    let qh : high ≡ (low + 256 * high) / 256 = omega arith in
    (omega arith, λ i. e i ∷ ql i ∷ qh i ∷ [])
cycles_read kind (low ∷ high ∷ b ∷ s) e = tt

answers_read : (kind : ℕ) (s : List ℕ) → IfRead (SaysRead (kind ∷ s)) (answer_said s)
unfolding answer_said
answers_read kind [] = tt
answers_read kind (answer ∷ []) = pick (IfRead (SaysRead (kind ∷ answer ∷ []))) (eqb answer 0) None (Some (pack.Unread answer)) (λ e. tt) (λ e. tt)
answers_read kind (answer ∷ b ∷ s) = tt

bytes_read : (s : List ℕ) → IfRead (SaysRead s) (bytes_say s)
unfolding bytes_say
bytes_read [] = tt
bytes_read (kind ∷ s) =
    pick (IfRead (SaysRead (kind ∷ s))) (eqb kind 0) (cycles_said s) _ (λ e. cycles_read kind s (eqb-true kind 0 e))
    (λ e. pick (IfRead (SaysRead (kind ∷ s))) (eqb kind 1) (answer_said s) None (λ f. answers_read kind s) (λ f. tt))

cycles_unread : (kind : ℕ) (s : List ℕ) → IfUnread (SaysUnread (kind ∷ s)) (cycles_said s)
unfolding cycles_said
cycles_unread kind [] = tt
cycles_unread kind (low ∷ []) = tt
cycles_unread kind (low ∷ high ∷ []) = tt
cycles_unread kind (low ∷ high ∷ b ∷ s) = tt

answers_unread : (kind : ℕ) (s : List ℕ) → kind ≡ 1 → IfUnread (SaysUnread (kind ∷ s)) (answer_said s)
unfolding answer_said
answers_unread kind [] e = tt
answers_unread kind (answer ∷ []) e =
    pick (IfUnread (SaysUnread (kind ∷ answer ∷ []))) (eqb answer 0) None (Some (pack.Unread answer)) (λ f. tt)
    (λ f all. (pos_of_ne-zero (eqb-false answer 0 f), all 1, λ i. e i ∷ answer ∷ []))
answers_unread kind (answer ∷ b ∷ s) e = tt

bytes_unread : (s : List ℕ) → IfUnread (SaysUnread s) (bytes_say s)
unfolding bytes_say
bytes_unread [] = tt
bytes_unread (kind ∷ s) =
    pick (IfUnread (SaysUnread (kind ∷ s))) (eqb kind 0) (cycles_said s) _ (λ e. cycles_unread kind s)
    (λ e. pick (IfUnread (SaysUnread (kind ∷ s))) (eqb kind 1) (answer_said s) None (λ f. answers_unread kind s (eqb-true kind 1 f)) (λ f. tt))

-- a line that says something has bytes, and is their digits
nothing_by_none : bytes_say [] ≡ None
unfolding bytes_say
nothing_by_none = refl

only_by_read : (line : List ℕ) (cycles : ℕ) → line_says line ≡ Some (pack.Read cycles) → (cycles < 65536) × (line ≡ read_line cycles)
unfolding line_says
only_by_read line cycles e =
    ⊎_elim (λ none. absurd (subst (IfRead (λ k. ⊥)) (sym (ap bytes_say none ∙ nothing_by_none) ∙ e) tt))
    (λ some. let p = subst (IfRead (SaysRead (line_bytes line))) e (bytes_read (line_bytes line)) some.1 in (p.0, sym some.0 ∙ ap in_digits p.1))
    (hexadecimal.only line)

only_by_unread : (line : List ℕ) (answer : ℕ) → line_says line ≡ Some (pack.Unread answer) → (0 < answer) × (answer < 256) × (line ≡ unread_line answer)
unfolding line_says
only_by_unread line answer e =
    ⊎_elim (λ none. absurd (subst (IfUnread (λ k. ⊥)) (sym (ap bytes_say none ∙ nothing_by_none) ∙ e) tt))
    (λ some. let p = subst (IfUnread (SaysUnread (line_bytes line))) e (bytes_unread (line_bytes line)) some.1 in (p.0, p.1, sym some.0 ∙ ap in_digits p.2))
    (hexadecimal.only line)

pub lines : Lines
lines = record { read = read_says; unread = unread_says; only_read = only_by_read; only_unread = only_by_unread }

-- lines and what follows them, after what is held
whole_from : (held s : List ℕ) → file_of (lines_from held s) ++ rest_from held s ≡ held ++ s
unfolding file_of lines_from rest_from when◌then◌else◌
whole_from held [] = sym (append-nil held)
whole_from held (b ∷ s) = by (whole_from [] s) (whole_from (held ++ (b ∷ [])) s) (eqb b 10) refl
  where
    by : file_of (lines_from [] s) ++ rest_from [] s ≡ s → file_of (lines_from (held ++ (b ∷ [])) s) ++ rest_from (held ++ (b ∷ [])) s ≡ held ++ (b ∷ []) ++ s
        → (t : Bool) → eqb b 10 ≡ t
        → file_of (when t then held ∷ lines_from [] s else lines_from (held ++ (b ∷ [])) s) ++ (when t then rest_from [] s else rest_from (held ++ (b ∷ [])) s) ≡ held ++ b ∷ s
    by p q true e =
        append_assoc held (10 ∷ file_of (lines_from [] s)) (rest_from [] s)
        ∙ ap (λ (t : List ℕ). held ++ 10 ∷ t) p
        ∙ ap (λ (k : ℕ). held ++ k ∷ s) (sym (eqb-true b 10 e))
    by p q false e = q ∙ append_assoc held (b ∷ []) s

-- a line ends at the first line feed, so it has none
no_feed_more : (s : List ℕ) (b : ℕ) → NoFeed s → (b ≡ 10 → ⊥) → NoFeed (s ++ (b ∷ []))
no_feed_more [] b n h = (h, tt)
no_feed_more (c ∷ s) b n h = (n.0, no_feed_more s b n.1 h)

no_feeds_from : (held s : List ℕ) → NoFeed held → NoFeeds (lines_from held s) × NoFeed (rest_from held s)
unfolding lines_from rest_from when◌then◌else◌
no_feeds_from held [] n = (tt, n)
no_feeds_from held (b ∷ s) n = by (no_feeds_from [] s tt) (λ h. no_feeds_from (held ++ (b ∷ [])) s (no_feed_more held b n h)) (eqb b 10) refl
  where
    by : NoFeeds (lines_from [] s) × NoFeed (rest_from [] s)
        → ((b ≡ 10 → ⊥) → NoFeeds (lines_from (held ++ (b ∷ [])) s) × NoFeed (rest_from (held ++ (b ∷ [])) s))
        → (t : Bool) → eqb b 10 ≡ t
        → NoFeeds (when t then held ∷ lines_from [] s else lines_from (held ++ (b ∷ [])) s) × NoFeed (when t then rest_from [] s else rest_from (held ++ (b ∷ [])) s)
    by p q true e = ((n, p.0), p.1)
    by p q false e = q (eqb-false b 10 e)

pub whole : Whole
whole = record { made_up = whole_from []; no_other = λ input. no_feeds_from [] input tt }
