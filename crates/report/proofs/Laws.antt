-- What is put on a page where there is room comes after what is laid.
-- Assumes nothing.
use Prim.Native.Nat.{ℕ, suc, ◌+◌, ◌-◌, ◌≤◌, ◌<◌, min}
use mathlib.Core.Path.{◌≡◌, refl, sym, ap, ◌∙◌}
use mathlib.Core.Bool.{Bool, true, false}
use mathlib.Core.List.{List, [], ◌++◌, append_assoc, append-nil}
use native.Mathlib.Numerals.{add-one}
use native.Mathlib.Omega.{arith}
use lib.ListN.{length, take, drop, get_or, length-append, length-drop}
use lib.Seq.{take-length}
use borrow.Author.Tests.{le-leb}
use Rattle.protocol.specs.Pick.{when◌then◌else◌}
use Rattle.protocol.specs.Bytes.{over, block_in, stored_at}
use Rattle.protocol.proofs.Cases.{cases, yes_le}
use Rattle.protocol.proofs.Laws.{laid_more, length_over}
use Rattle.report.specs.declared.page.Page.{Page}
use Rattle.report.specs.Page.{page, put, put_unread, put_by_number}

-- a text over the front, and nothing else
abbrev pub laid : List ℕ → List ℕ → Page
laid text out = page (length text) (over text out)

-- f puts this text after any other, where there is room for so many bytes, and the text has no more
pub record Puts (f : Page → Page) (text : List ℕ) (most : ℕ) : Type 0 where
  pub short : length text ≤ most
  pub after : (s out : List ℕ) → length s + most ≤ length out → f (laid s out) ≡ laid (s ++ text) out

-- a text that has room
put_laid : (text s out : List ℕ) → length s + length text ≤ length out → put text (laid s out) ≡ laid (s ++ text) out
unfolding put page when◌then◌else◌
put_laid text s out h =
    let short : length s ≤ length out = omega arith in
    let room : length s + length text ≤ length (over s out) = rw (length_over s out short) h in
    rw (le-leb _ _ room, length-append, laid_more s text out (length s) refl)

pub puts_text : (text : List ℕ) (most : ℕ) → length text ≤ most → Puts (put text) text most
puts_text text most h = record { short = h; after = λ s out room. put_laid text s out (omega arith) }

-- no text at all
pub puts_none : (most : ℕ) → Puts (λ p. p) [] most
puts_none most = record { short = omega arith; after = λ s out room. ap (λ (l : List ℕ). laid l out) (sym (append-nil s)) }

-- one text after another
pub puts_both : {f g : Page → Page} {s t : List ℕ} {m n : ℕ} → Puts f s m → Puts g t n → Puts (λ p. g (f p)) (s ++ t) (m + n)
puts_both {f} {g} {s} {t} {m} {n} p q = record {
  short = rw length-append (omega (arith, p.short, q.short));
  after = λ u out room.
      ap g (p.after u out (omega arith))
      ∙ (q.after (u ++ s) out (rw length-append (omega (arith, p.short))) ∙ ap (λ (l : List ℕ). laid l out) (append_assoc u s t));
}

-- room for more
pub puts_within : {f : Page → Page} {text : List ℕ} {m n : ℕ} → m ≤ n → Puts f text m → Puts f text n
puts_within h p = record { short = omega (arith, p.short); after = λ s out room. p.after s out (omega arith) }

-- one of two texts, by a test
pub puts_either : {f g : Page → Page} {s t : List ℕ} {m : ℕ} (b : Bool) → Puts f s m → Puts g t m → Puts (λ p. when b then f p else g p) (when b then s else t) m
unfolding when◌then◌else◌
puts_either true p q = p
puts_either false p q = q

-- what is put on an empty page stands at its front
pub puts_front : {f : Page → Page} {text : List ℕ} {most : ℕ} (out : List ℕ) (q : Page) → Puts f text most → length out ≡ most → q ≡ f (page 0 out)
    → (q.at ≡ length text) × (q.at ≤ most) × (q.out ≡ over text out)
unfolding page over
puts_front {f} {text} {most} out q p room e =
    let same : q ≡ laid text out = e ∙ p.after [] out (omega arith) in
    let count : q.at ≡ length text = ap (λ (q : Page). q.at) same in
    (count, omega (arith, p.short), ap (λ (q : Page). q.out) same)

-- a text that has no room
pub put_none : (text : List ℕ) (p : Page) → length p.out < p.at + length text → p ≡ put text p
unfolding put
put_none text p h = search cases

-- storing all of a text lays it over what follows
stored : (text out : List ℕ) (at : ℕ) → at + length text ≤ length out → stored_at at (length text) text out ≡ take at out ++ over text (drop at out)
unfolding stored_at block_in when◌then◌else◌
stored text out at h =
    let here : at ≤ length out = omega arith in
    let whole : min (length text) (min (length text) (length (drop at out))) ≡ length text = rw length-drop (omega arith) in
    rw (le-leb _ _ here, whole, take-length)

-- a text that was stored after what is laid
pub put_stored : (text : List ℕ) (p : Page) (ys : List ℕ) → p.at + length text ≤ length p.out → ys ≡ stored_at p.at (length text) text p.out
    → page (p.at + length text) ys ≡ put text p
unfolding put page
put_stored text p ys h e = yes_le _ _ _ _ _ h (ap (page (p.at + length text)) (e ∙ stored text p.out p.at h))

-- a turn over the answer numbers: one line, and those from the next number on
pub unread_turn : (numbers : List ℕ) (k : ℕ) (p q : Page) → k < 256 → q ≡ put_unread k (get_or numbers k 0) p
    → put_by_number numbers (256 - (k + 1)) (k + 1) q ≡ put_by_number numbers (256 - k) k p
unfolding put_by_number
unread_turn numbers k p q h e =
    let left : 256 - k ≡ suc (256 - (k + 1)) = omega arith in
    rw (left, e, add-one)
