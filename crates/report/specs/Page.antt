-- A page that is filled from the front, and what is put on it line by line: what the functions below `lay` do.
-- Assumes nothing.
use Rattle.std.specs.Prelude.{ℕ, zero, suc, ◌+◌, ◌/◌, ◌%◌, List, [], ◌∷◌, ◌++◌, length, take, drop, get_or, leb, eqb}
use Rattle.protocol.specs.Pick.{when◌then◌else◌}
use Rattle.protocol.specs.Bytes.{over}
use Rattle.hexadecimal.specs.Text.{ascii}
use Rattle.packs.specs.Count.{seen_of}
use Rattle.packs.specs.declared.Count.{Count}
use Rattle.report.specs.Decimal.{decimal_of}
use Rattle.report.specs.declared.page.Page.{Page}

-- a page of these bytes
unfoldable pub page : ℕ → List ℕ → Page
page at out = record { at = at; out = out }

-- a text after what is laid, or nothing where it has no room
unfoldable pub put : List ℕ → Page → Page
put text p =
    when leb (p.at + length text) (length p.out) then page (p.at + length text) (take p.at p.out ++ over text (drop p.at p.out)) else
    p

-- a number in decimal
unfoldable pub put_number : ℕ → Page → Page
put_number n p = put (decimal_of n) p

-- what follows a line's name: a tab, a number and a line feed
unfoldable pub put_figure : ℕ → Page → Page
put_figure n p = put (10 ∷ []) (put_number n (put (9 ∷ []) p))

-- a whole line
unfoldable pub put_line : List ℕ → ℕ → Page → Page
put_line name n p = put_figure n (put name p)

-- the line of one answer number, if it occurred
unfoldable pub put_unread : ℕ → ℕ → Page → Page
put_unread number n p = when eqb n 0 then p else put_figure n (put_number number (put (ascii "unread ") p))

-- the lines of the answer numbers from k on, n of them
unfoldable pub put_by_number : List ℕ → ℕ → ℕ → Page → Page
put_by_number numbers zero k p = p
put_by_number numbers (suc n) k p = put_by_number numbers n (suc k) (put_unread k (get_or numbers k 0) p)

-- the fewest and the most cycles
unfoldable pub put_range : ℕ → ℕ → Page → Page
put_range lowest highest p = put_line (ascii "highest") highest (put_line (ascii "lowest") lowest p)

-- the mean, and what the division leaves
unfoldable pub put_mean : ℕ → ℕ → Page → Page
put_mean mean remainder p = put_line (ascii "remainder") remainder (put_line (ascii "mean") mean p)

-- the lines over packs that were read, if any was
unfoldable pub put_of_read : Count → Page → Page
put_of_read count p =
    when eqb count.read 0 then p else
    put_mean (count.sum / count.read) (count.sum % count.read) (put_range count.lowest count.highest p)

-- how many packs were seen, read and not read
unfoldable pub put_packs : Count → Page → Page
put_packs count p = put_line (ascii "unread") count.unread (put_line (ascii "read") count.read (put_line (ascii "seen") (seen_of count) p))

-- the whole report
unfoldable pub put_report : Count → List ℕ → Page → Page
put_report count numbers p = put_of_read count (put_line (ascii "sum") count.sum (put_by_number numbers 255 1 (put_packs count p)))

-- the one line of a file in which the line after those that are counted is refused
unfoldable pub put_refused : Count → Page → Page
put_refused count p = put_line (ascii "refused\t11") (seen_of count + 1) p
