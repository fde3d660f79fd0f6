-- What is put on a page line by line is the text of the report.
-- Assumes nothing.
use Prim.Native.Nat.{ℕ, zero, suc, ◌+◌, ◌*◌, ◌/◌, ◌%◌, ◌≤◌}
use mathlib.Core.Path.{◌≡◌, ap}
use mathlib.Core.Bool.{Bool, true, false}
use mathlib.Core.List.{List, [], ◌∷◌, ◌++◌}
use mathlib.Core.Option.{none, some}
use native.Mathlib.Omega.{arith}
use lib.ListN.{length, get_or}
use lib.Dec.{eqb}
use Rattle.protocol.specs.Pick.{when◌then◌else◌}
use Rattle.protocol.specs.Bytes.{over}
use Rattle.protocol.proofs.Cases.{cases}
use Rattle.hexadecimal.specs.Text.{ascii}
use Rattle.packs.specs.Count.{seen_of}
use Rattle.packs.specs.declared.Sheet.{Sheet}
use Rattle.packs.specs.declared.Count.{Count}
use Rattle.report.specs.Decimal.{decimal_of}
use Rattle.report.specs.declared.page.Page.{Page}
use Rattle.report.specs.Page.{page, put_number, put_figure, put_line, put_unread, put_by_number, put_range, put_mean, put_of_read, put_packs, put_report, put_refused}
use Rattle.report.specs.Report.{line, by_number, of_read, text_of, report, refused}
use Rattle.report.specs.Sheet.{figures_in, report_in, outcome_in}
use Rattle.report.proofs.Digits.{length_decimal}
use Rattle.report.proofs.Laws.{Puts, puts_text, puts_both, puts_within, puts_either, puts_none, puts_front}

-- each part of the report, with a bound of its length
puts_number : (n : ℕ) → Puts (put_number n) (decimal_of n) 10
unfolding put_number
puts_number n = puts_text (decimal_of n) 10 (length_decimal n)

puts_figure : (n : ℕ) → Puts (put_figure n) (9 ∷ (decimal_of n ++ (10 ∷ []))) 12
unfolding put_figure
puts_figure n = puts_both (puts_text (9 ∷ []) 1 (omega arith)) (puts_both (puts_number n) (puts_text (10 ∷ []) 1 (omega arith)))

puts_line : (name : List ℕ) (most n : ℕ) → length name ≤ most → Puts (put_line name n) (line name n) (most + 12)
unfolding put_line line
puts_line name most n h = puts_both (puts_text name most h) (puts_figure n)

puts_unread : (k n : ℕ) → Puts (put_unread k n) (when eqb n 0 then [] else line (ascii "unread " ++ decimal_of k) n) 29
unfolding put_unread line ascii
puts_unread k n =
    puts_either (eqb n 0) (puts_none 29) (puts_both (puts_both (puts_text (ascii "unread ") 7 (omega arith)) (puts_number k)) (puts_figure n))

puts_by_number : (numbers : List ℕ) (n k : ℕ) → Puts (put_by_number numbers n k) (by_number (λ i. get_or numbers i 0) n k) (n * 29)
unfolding put_by_number by_number
puts_by_number numbers zero k = puts_none 0
puts_by_number numbers (suc n) k = puts_within (omega arith) (puts_both (puts_unread k (get_or numbers k 0)) (puts_by_number numbers n (suc k)))

puts_of_read : (count : Count) → Puts (put_of_read count) (of_read (figures_in count)) 74
unfolding put_of_read put_range put_mean of_read figures_in when◌then◌else◌ ascii
puts_of_read count = by (eqb count.read 0)
  where
    lines : Puts (λ p. put_mean (count.sum / count.read) (count.sum % count.read) (put_range count.lowest count.highest p))
        (line (ascii "lowest") count.lowest
        ++ (line (ascii "highest") count.highest
        ++ (line (ascii "mean") (count.sum / count.read) ++ line (ascii "remainder") (count.sum % count.read)))) 74
    lines =
        puts_both (puts_line (ascii "lowest") 6 count.lowest (omega arith))
        (puts_both (puts_line (ascii "highest") 7 count.highest (omega arith))
        (puts_both (puts_line (ascii "mean") 4 (count.sum / count.read) (omega arith)) (puts_line (ascii "remainder") 9 (count.sum % count.read) (omega arith))))

    by : (t : Bool) → Puts (λ p. when t then p else put_mean (count.sum / count.read) (count.sum % count.read) (put_range count.lowest count.highest p))
        (of_read (when t then none else
        some record { lowest = count.lowest; highest = count.highest; mean = count.sum / count.read; remainder = count.sum % count.read })) 74
    by true = puts_none 74
    by false = lines

-- the whole report has room
puts_report : (count : Count) (numbers : List ℕ) → Puts (put_report count numbers) (text_of (report (report_in count numbers))) 8192
unfolding put_report put_packs text_of report_in ascii
puts_report count numbers =
    puts_within (omega arith)
    (puts_both (puts_line (ascii "seen") 4 (seen_of count) (omega arith))
    (puts_both (puts_line (ascii "read") 4 count.read (omega arith))
    (puts_both (puts_line (ascii "unread") 6 count.unread (omega arith))
    (puts_both (puts_by_number numbers 255 1)
    (puts_both (puts_line (ascii "sum") 3 count.sum (omega arith)) (puts_of_read count))))))

puts_refused : (count : Count) → Puts (put_refused count) (text_of (refused (seen_of count + 1))) 8192
unfolding put_refused text_of ascii
puts_refused count = puts_within (omega arith) (puts_line (ascii "refused\t11") 10 (seen_of count + 1) (omega arith))

-- what a sheet comes to where the reader stands between two lines
whole : (d : Sheet) → d.reader.line ≡ 1 → report (report_in d.reader.count d.numbers) ≡ outcome_in d
unfolding outcome_in
whole d h = search cases

-- and where it stands anywhere else
partial : (d : Sheet) → (d.reader.line ≡ 1 → ⊥) → refused (seen_of d.reader.count + 1) ≡ outcome_in d
unfolding outcome_in
partial d h = let q : refused (seen_of d.reader.count + 1) ≡ refused (suc (seen_of d.reader.count)) = ap refused (omega arith) in search cases

-- a page with the report on it, where the input ends between two lines
pub laid_report : (d : Sheet) (p q : Page) → d.reader.line ≡ 1 → length p.out ≡ 8192 → q ≡ put_report d.reader.count d.numbers (page 0 p.out)
    → (q.at ≡ length (text_of (outcome_in d))) × (q.at ≤ 8192) × (q.out ≡ over (text_of (outcome_in d)) p.out)
laid_report d p q h room e = rw (← whole d h) (puts_front p.out q (puts_report d.reader.count d.numbers) room e)

-- and with its one line, where it ends within a line or one is refused
pub laid_refused : (d : Sheet) (p q : Page) → (d.reader.line ≡ 1 → ⊥) → length p.out ≡ 8192 → q ≡ put_refused d.reader.count (page 0 p.out)
    → (q.at ≡ length (text_of (outcome_in d))) × (q.at ≤ 8192) × (q.out ≡ over (text_of (outcome_in d)) p.out)
laid_refused d p q h room e = rw (← partial d h) (puts_front p.out q (puts_refused d.reader.count) room e)
