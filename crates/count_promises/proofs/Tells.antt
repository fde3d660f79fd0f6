-- The text tells every figure: digits end at a byte that is none, so each line tells its number and what follows it; and where only one of two texts has the line of an answer number, the other goes on with a later one's or with the sum's, which is not the same.
-- Assumes nothing.
use Prim.Native.Nat.{ℕ, zero, suc, ◌+◌, ◌≤◌, ◌<◌}
use mathlib.Core.Path.{◌≡◌, refl, sym, ap, ◌∙◌, subst, fun_ext}
use mathlib.Core.Bool.{Bool, true, false}
use mathlib.Core.List.{List, [], ◌∷◌, ◌++◌, append_assoc}
use mathlib.Core.Logic.{◌⊎◌, inl, inr, ⊎_elim}
use mathlib.Core.Option.{Option, none, some}
use native.Mathlib.Omega.{arith}
use lib.ListN.{length, drop, get_or}
use lib.Dec.{leb, eqb}
use borrow.Author.Tests.{leb-true, leb-false, eqb-true, eqb-false}
use Rattle.protocol.specs.Pick.{when◌then◌else◌}
use Rattle.protocol.specs.Answer.{number_of}
use Rattle.protocol.specs.declared.error.Answer.TheVariants as answer
use Rattle.hexadecimal.specs.Text.{ascii}
use Rattle.std.specs.Prelude.{Some, None}
use Rattle.packs.specs.Said.{Said}
use Rattle.packs.specs.declared.Pack.TheVariants as pack
use Rattle.report.specs.Decimal.{in_places, decimal_of, number_in}
use Rattle.report.specs.Report.{Figures, Report, report, refused, line, by_number, of_read, text_of}
use Rattle.report.proofs.Decimals.{AllDecimal, all_decimal, decimals}
use Rattle.count_promises.specs.Packs.{said_in, answers_in, occurs, report_of, outcome_of, printed_of}
use Rattle.count_promises.specs.Lines.{AllFit, Accepted, Refused}
use Rattle.count_promises.specs.Tells.{TenDigits, SameReport, Tells}
use Rattle.count_promises.proofs.Lists.{occurs_none, occurs_other}
use Rattle.count_promises.proofs.Files.{files}
use Rattle.count_promises.proofs.Balances.{balanced_packs}

abbrev first_of : List ℕ → ℕ
first_of s = get_or s 0 0

-- texts that begin otherwise differ
begin_apart : (s t : List ℕ) (a b : ℕ) → first_of s ≡ a → first_of t ≡ b → (a ≡ b → ⊥) → s ≡ t → ⊥
begin_apart s t a b p q d e = d (sym p ∙ ap first_of e ∙ q)

-- what follows the same bytes is the same
follows : (s x y : List ℕ) → s ++ x ≡ s ++ y → x ≡ y
follows [] x y e = e
follows (b ∷ s) x y e = follows s x y (ap (drop 1) e)

-- digits end at a byte that is none
digits_tell : (c : ℕ) (a b x y : List ℕ) → c < 48 → AllDecimal a → AllDecimal b → a ++ (c ∷ x) ≡ b ++ (c ∷ y) → (a ≡ b) × (x ≡ y)
digits_tell c [] [] x y l p q e = (refl, ap (drop 1) e)
digits_tell c [] (d ∷ b) x y l p q e =
    let f : c ≡ d = ap first_of e in
    let h = q.0.0 in
    absurd (omega arith)
digits_tell c (d ∷ a) [] x y l p q e =
    let f : d ≡ c = ap first_of e in
    let h = p.0.0 in
    absurd (omega arith)
digits_tell c (d ∷ a) (g ∷ b) x y l p q e =
    let f : d ≡ g = ap first_of e in
    let r = digits_tell c a b x y l p.1 q.1 (ap (drop 1) e) in
    (λ i. f i ∷ r.0 i, r.1)

number_tells : (c m n : ℕ) (x y : List ℕ) → c < 48 → m < 10000000000 → n < 10000000000 → decimal_of m ++ (c ∷ x) ≡ decimal_of n ++ (c ∷ y) → (m ≡ n) × (x ≡ y)
number_tells c m n x y l hm hn e =
    let r = digits_tell c (decimal_of m) (decimal_of n) x y l (all_decimal m) (all_decimal n) e in
    (sym (decimals.reads m hm) ∙ ap (number_in 0) r.0 ∙ decimals.reads n hn, r.1)

-- a line tells its number, and what follows it
line_tells : (name : List ℕ) (m n : ℕ) (x y : List ℕ) → m < 10000000000 → n < 10000000000 → line name m ++ x ≡ line name n ++ y → (m ≡ n) × (x ≡ y)
unfolding line
line_tells name m n x y hm hn e =
    number_tells 10 m n x y (omega arith) hm hn (ap (drop 1) (follows name _ _ (sym (parts m x) ∙ e ∙ parts n y)))
  where
    parts : (m : ℕ) (x : List ℕ) → line name m ++ x ≡ name ++ (9 ∷ (decimal_of m ++ (10 ∷ x)))
    parts m x = append_assoc name (9 ∷ (decimal_of m ++ (10 ∷ []))) x ∙ ap (λ (t : List ℕ). name ++ (9 ∷ t)) (append_assoc (decimal_of m) (10 ∷ []) x)

-- so does one that ends a text
last_tells : (name : List ℕ) (m n : ℕ) → m < 10000000000 → n < 10000000000 → line name m ≡ line name n → m ≡ n
last_tells name m n hm hn e = (line_tells name m n [] [] hm hn (ap (λ (t : List ℕ). t ++ []) e)).0

-- the line of an answer number tells which one, too
abbrev unread_by : ℕ → List ℕ
unread_by k = ascii "unread " ++ decimal_of k

answer_tells : (j k m n : ℕ) (x y : List ℕ) → j < 10000000000 → k < 10000000000 → line (unread_by j) m ++ x ≡ line (unread_by k) n ++ y → j ≡ k
unfolding line ascii
answer_tells j k m n x y hj hk e = (number_tells 9 j k _ _ (omega arith) hj hk (sym (parts j m x) ∙ ap (drop 7) e ∙ parts k n y)).0
  where
    parts : (j m : ℕ) (x : List ℕ) → (decimal_of j ++ (9 ∷ (decimal_of m ++ (10 ∷ [])))) ++ x ≡ decimal_of j ++ (9 ∷ ((decimal_of m ++ (10 ∷ [])) ++ x))
    parts j m x = append_assoc (decimal_of j) (9 ∷ (decimal_of m ++ (10 ∷ []))) x

answer_first : (k m : ℕ) (x : List ℕ) → first_of (line (unread_by k) m ++ x) ≡ 117
unfolding line ascii
answer_first k m x = refl

sum_first : (n : ℕ) (x : List ℕ) → first_of (line (ascii "sum") n ++ x) ≡ 115
unfolding line ascii
sum_first n x = refl

-- the line of an answer number is not among those of later ones, nor after them
not_later : (f : ℕ → ℕ) (n j k m : ℕ) (x y : List ℕ) → k < j → j + n ≤ 256 → first_of x ≡ 115 → by_number f n j ++ x ≡ line (unread_by k) m ++ y → ⊥
unfolding by_number when◌then◌else◌
not_later f zero j k m x y l h s e = begin_apart x (line (unread_by k) m ++ y) 115 117 s (answer_first k m y) (omega arith) e
not_later f (suc n) j k m x y l h s e = by (not_later f n (suc j) k m x y (omega arith) (omega arith) s) (eqb (f j) 0) e
  where
    by : (by_number f n (suc j) ++ x ≡ line (unread_by k) m ++ y → ⊥) → (t : Bool)
        → ((when t then [] else line (unread_by j) (f j)) ++ by_number f n (suc j)) ++ x ≡ line (unread_by k) m ++ y → ⊥
    by rest true e = rest e
    by rest false e =
        let p : j ≡ k =
        answer_tells j k (f j) m (by_number f n (suc j) ++ x) y (omega arith) (omega arith) (sym (append_assoc (line (unread_by j) (f j)) (by_number f n (suc j)) x) ∙ e) in
        absurd (omega arith)

-- the same numbers from k on, n of them
abbrev SameFrom : (f g : ℕ → ℕ) → ℕ → ℕ → Type 0
SameFrom f g n k = (j : ℕ) → k ≤ j → j < k + n → f j ≡ g j

same_next : (f g : ℕ → ℕ) (n k : ℕ) → f k ≡ g k → SameFrom f g n (suc k) → SameFrom f g (suc n) k
same_next f g n k e rest j l h = by (eqb k j) refl
  where
    by : (t : Bool) → eqb k j ≡ t → f j ≡ g j
    by true p = subst (λ (i : ℕ). f i ≡ g i) (eqb-true k j p) e
    by false p = let d = eqb-false k j p in rest j (omega arith) (omega arith)

-- the lines of the answer numbers tell each of them, and what follows them
module _ (f g : ℕ → ℕ) (x y : List ℕ) (hf : (k : ℕ) → f k < 10000000000) (hg : (k : ℕ) → g k < 10000000000) (sx : first_of x ≡ 115) (sy : first_of y ≡ 115) where
  by_tells : (n k : ℕ) → k + n ≤ 256 → by_number f n k ++ x ≡ by_number g n k ++ y → SameFrom f g n k × (x ≡ y)
  unfolding by_number when◌then◌else◌
  by_tells zero k h e = (λ j l m. absurd (omega arith), e)
  by_tells (suc n) k h e = by (by_tells n (suc k) (omega arith)) (eqb (f k) 0) (eqb (g k) 0) refl refl e
    where
      by : (by_number f n (suc k) ++ x ≡ by_number g n (suc k) ++ y → SameFrom f g n (suc k) × (x ≡ y)) → (t u : Bool) → eqb (f k) 0 ≡ t → eqb (g k) 0 ≡ u
          → ((when t then [] else line (unread_by k) (f k)) ++ by_number f n (suc k)) ++ x ≡ ((when u then [] else line (unread_by k) (g k)) ++ by_number g n (suc k)) ++ y
          → SameFrom f g (suc n) k × (x ≡ y)
      by rest true true p q e = let r = rest e in (same_next f g n k (eqb-true (f k) 0 p ∙ sym (eqb-true (g k) 0 q)) r.0, r.1)
      by rest true false p q e =
          absurd (not_later f n (suc k) k (g k) x (by_number g n (suc k) ++ y) (omega arith) (omega arith) sx (e ∙ append_assoc (line (unread_by k) (g k)) (by_number g n (suc k)) y))
      by rest false true p q e =
          absurd (not_later g n (suc k) k (f k) y (by_number f n (suc k) ++ x) (omega arith) (omega arith) sy (sym e ∙ append_assoc (line (unread_by k) (f k)) (by_number f n (suc k)) x))
      by rest false false p q e =
          let l =
          line_tells (unread_by k) (f k) (g k) (by_number f n (suc k) ++ x) (by_number g n (suc k) ++ y) (hf k) (hg k)
          (sym (append_assoc (line (unread_by k) (f k)) (by_number f n (suc k)) x) ∙ e ∙ append_assoc (line (unread_by k) (g k)) (by_number g n (suc k)) y) in
          let r = rest l.1 in
          (same_next f g n k l.0 r.0, r.1)

-- the figures over packs that were read; with none of them nothing follows the sum
abbrev TenEach : Figures → Type 0
TenEach f = (f.lowest < 10000000000) × (f.highest < 10000000000) × (f.mean < 10000000000) × (f.remainder < 10000000000)

figures_tell : (f g : Figures) → TenEach f → TenEach g → of_read (some f) ≡ of_read (some g) → f ≡ g
unfolding of_read
figures_tell f g hf hg e =
    let lowest = line_tells (ascii "lowest") f.lowest g.lowest _ _ hf.0 hg.0 e in
    let highest = line_tells (ascii "highest") f.highest g.highest _ _ hf.1 hg.1 lowest.1 in
    let mean = line_tells (ascii "mean") f.mean g.mean _ _ hf.2 hg.2 highest.1 in
    let remainder = last_tells (ascii "remainder") f.remainder g.remainder hf.3 hg.3 mean.1 in
    λ i. record { lowest = lowest.0 i; highest = highest.0 i; mean = mean.0 i; remainder = remainder i }

none_first : first_of (of_read none) ≡ 0
unfolding of_read
none_first = refl

some_first : (f : Figures) → first_of (of_read (some f)) ≡ 108
unfolding of_read line ascii
some_first f = refl

over_tells : (o p : Option Figures) → ((f : Figures) → o ≡ some f → TenEach f) → ((g : Figures) → p ≡ some g → TenEach g) → of_read o ≡ of_read p → o ≡ p
over_tells none none ho hp e = refl
over_tells none (some g) ho hp e = absurd (begin_apart (of_read none) (of_read (some g)) 0 108 none_first (some_first g) (omega arith) e)
over_tells (some f) none ho hp e = absurd (begin_apart (of_read (some f)) (of_read none) 108 0 (some_first f) none_first (omega arith) e)
over_tells (some f) (some g) ho hp e = ap some (figures_tell f g (ho f refl) (hp g refl) e)

-- a whole text
reports_tell : (r q : Report) → TenDigits r → TenDigits q → text_of (report r) ≡ text_of (report q) → SameReport r q
unfolding text_of
reports_tell r q hr hq e =
    let seen = line_tells (ascii "seen") r.seen q.seen _ _ hr.seen hq.seen e in
    let read = line_tells (ascii "read") r.read q.read _ _ hr.read hq.read seen.1 in
    let unread = line_tells (ascii "unread") r.unread q.unread _ _ hr.unread hq.unread read.1 in
    let by = by_tells r.by q.by _ _ hr.by hq.by (sum_first r.sum (of_read r.figures)) (sum_first q.sum (of_read q.figures)) 255 1 (omega arith) unread.1 in
    let sum = line_tells (ascii "sum") r.sum q.sum _ _ hr.sum hq.sum by.1 in
    record {
      seen = seen.0;
      read = read.0;
      unread = unread.0;
      by = λ k some most. by.0 k some (omega arith);
      sum = sum.0;
      figures = over_tells r.figures q.figures hr.figures hq.figures sum.1;
    }

refusals_tell : (m n : ℕ) → m < 10000000000 → n < 10000000000 → text_of (refused m) ≡ text_of (refused n) → m ≡ n
unfolding text_of
refusals_tell m n hm hn e = last_tells (ascii "refused" ++ (9 ∷ ascii "11")) m n hm hn e

report_first : (r : Report) → first_of (text_of (report r)) ≡ 115
unfolding text_of line ascii
report_first r = refl

refused_first : (n : ℕ) → first_of (text_of (refused n)) ≡ 114
unfolding text_of line ascii
refused_first n = refl

apart : (r : Report) (n : ℕ) → text_of (report r) ≡ text_of (refused n) → ⊥
apart r n e = begin_apart (text_of (report r)) (text_of (refused n)) 115 114 (report_first r) (refused_first n) (omega arith) e

-- a report over a file has at most ten digits in each figure, and no answer but 1 to 255
ten_digits : (ps : List Said) → AllFit ps → length ps ≤ 65535 → TenDigits (report_of ps)
ten_digits ps h most =
    let b = balanced_packs ps h most in
    let seen = b.within in
    let parts = b.seen in
    let sum = b.sum in
    record {
      seen = omega arith;
      read = omega arith;
      unread = omega arith;
      by = λ k. let by = b.by_most k in omega arith;
      sum = omega arith;
      figures = λ f e.
          let o = b.of_read_lem f e in
          let low = o.lowest_mean in
          let mid = o.mean_highest in
          let high = o.highest in
          let left = o.remainder in
          (omega arith, omega arith, omega arith, omega arith);
    }

no_answer : (ps : List Said) (k : ℕ) → AllFit ps → (k ≡ 0) ⊎ (255 < k) → occurs k (answers_in ps) ≡ 0
unfolding answers_in
no_answer [] k h out = occurs_none k
no_answer (Some (pack.Read cycles) ∷ ps) k h out = no_answer ps k h.1 out
no_answer (Some (pack.Unread answer) ∷ ps) k h out =
    let least = h.0.0 in
    let most = h.0.1 in
    occurs_other k answer (answers_in ps) (λ e. ⊎_elim (λ z. absurd (omega arith)) (λ far. absurd (omega arith)) out) ∙ no_answer ps k h.1 out
no_answer (None ∷ ps) k h out = absurd h.0

same_answers : (ps qs : List Said) → AllFit ps → AllFit qs → ((k : ℕ) → 0 < k → k ≤ 255 → occurs k (answers_in ps) ≡ occurs k (answers_in qs))
    → (k : ℕ) → occurs k (answers_in ps) ≡ occurs k (answers_in qs)
same_answers ps qs h g same zero = no_answer ps zero h (inl refl) ∙ sym (no_answer qs zero g (inl refl))
same_answers ps qs h g same (suc k) = by (leb (suc k) 255) refl
  where
    by : (t : Bool) → leb (suc k) 255 ≡ t → occurs (suc k) (answers_in ps) ≡ occurs (suc k) (answers_in qs)
    by true e = same (suc k) (omega arith) (leb-true (suc k) 255 e)
    by false e = let far : 255 < suc k = leb-false (suc k) 255 e in no_answer ps (suc k) h (inr far) ∙ sym (no_answer qs (suc k) g (inr far))

whole_report : (ps qs : List Said) → AllFit ps → AllFit qs → SameReport (report_of ps) (report_of qs) → report_of ps ≡ report_of qs
unfolding report_of
whole_report ps qs h g s =
    let by : ◌≡◌ {A = ℕ → ℕ} (λ k. occurs k (answers_in ps)) (λ k. occurs k (answers_in qs)) = fun_ext (same_answers ps qs h g s.by) in
    λ i. record { seen = s.seen i; read = s.read i; unread = s.unread i; by = by i; sum = s.sum i; figures = s.figures i }

inputs_tell : (s t : List ℕ) → printed_of s ≡ printed_of t → outcome_of (said_in s) ≡ outcome_of (said_in t)
unfolding printed_of
inputs_tell s t e = by (files.every s) (files.every t)
  where
    by : Accepted s ⊎ Refused s → Accepted t ⊎ Refused t → outcome_of (said_in s) ≡ outcome_of (said_in t)
    by (inl a) (inl b) =
        let text : text_of (report (report_of a.packs)) ≡ text_of (report (report_of b.packs)) = sym (ap text_of (files.accepts s a)) ∙ e ∙ ap text_of (files.accepts t b) in
        let alike = reports_tell (report_of a.packs) (report_of b.packs) (ten_digits a.packs a.fit a.most) (ten_digits b.packs b.fit b.most) text in
        files.accepts s a ∙ ap report (whole_report a.packs b.packs a.fit b.fit alike) ∙ sym (files.accepts t b)
    by (inl a) (inr b) = absurd (apart (report_of a.packs) (suc (length b.packs)) (sym (ap text_of (files.accepts s a)) ∙ e ∙ ap text_of (files.refuses t b)))
    by (inr a) (inl b) = absurd (apart (report_of b.packs) (suc (length a.packs)) (sym (ap text_of (files.accepts t b)) ∙ sym e ∙ ap text_of (files.refuses s a)))
    by (inr a) (inr b) =
        let few = a.most in
        let least = b.most in
        let n = refusals_tell (suc (length a.packs)) (suc (length b.packs)) (omega arith) (omega arith) (sym (ap text_of (files.refuses s a)) ∙ e ∙ ap text_of (files.refuses t b)) in
        files.refuses s a ∙ ap refused n ∙ sym (files.refuses t b)

eleven : decimal_of (number_of answer.BadLine) ≡ ascii "11"
unfolding decimal_of in_places ascii when◌then◌else◌
eleven = refl

pub tells : Tells
tells = record { inputs = inputs_tell; reports = reports_tell; refusals = refusals_tell; apart = apart; bad_line = eleven }
