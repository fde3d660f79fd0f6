-- Worked reports, the example of docs/COUNT.md first: the text of an input and the text that is printed. (02, W-212)
-- Assumes nothing.
use Prim.Native.String.{String}
use Rattle.std.specs.Prelude.{◌≡◌, refl, List, [], ◌∷◌}
use Rattle.protocol.specs.Pick.{when◌then◌else◌}
use Rattle.hexadecimal.specs.Text.{ascii}
use Rattle.hexadecimal.specs.Hex as hex
use Rattle.hexadecimal.specs.Line.{line_bytes}
use Rattle.lines.specs.Input as input
use Rattle.report.specs.Decimal as decimal
use Rattle.report.specs.Report as report
use Rattle.count_promises.specs.Packs as packs
use Rattle.count_promises.specs.Packs.{printed_of}

pub data Case : Type 0 where
  text : String → String → Case

pub cases : List Case
cases =
    -- the example of docs/COUNT.md
    text "000500\n000000\n0102\n0106\n00C800\n" "seen\t5\nread\t3\nunread\t2\nunread 2\t1\nunread 6\t1\nsum\t205\nlowest\t0\nhighest\t200\nmean\t68\nremainder\t1\n"
    -- the same in another order
    ∷ text "0106\n00C800\n000000\n0102\n000500\n" "seen\t5\nread\t3\nunread\t2\nunread 2\t1\nunread 6\t1\nsum\t205\nlowest\t0\nhighest\t200\nmean\t68\nremainder\t1\n"
    -- without its unread packs, and with one more
    ∷ text "000500\n000000\n00C800\n" "seen\t3\nread\t3\nunread\t0\nsum\t205\nlowest\t0\nhighest\t200\nmean\t68\nremainder\t1\n"
    ∷ text "000500\n000000\n0102\n0106\n00C800\n0106\n" "seen\t6\nread\t3\nunread\t3\nunread 2\t1\nunread 6\t2\nsum\t205\nlowest\t0\nhighest\t200\nmean\t68\nremainder\t1\n"
    -- two files, and the two joined: the lower lowest, the higher highest
    ∷ text "000500\n0102\n" "seen\t2\nread\t1\nunread\t1\nunread 2\t1\nsum\t5\nlowest\t5\nhighest\t5\nmean\t5\nremainder\t0\n"
    ∷ text "00C800\n000300\n0102\n0106\n" "seen\t4\nread\t2\nunread\t2\nunread 2\t1\nunread 6\t1\nsum\t203\nlowest\t3\nhighest\t200\nmean\t101\nremainder\t1\n"
    ∷ text "000500\n0102\n00C800\n000300\n0102\n0106\n" "seen\t6\nread\t3\nunread\t3\nunread 2\t2\nunread 6\t1\nsum\t208\nlowest\t3\nhighest\t200\nmean\t69\nremainder\t1\n"
    -- one that has none read, joined to one that has
    ∷ text "0102\n000500\n" "seen\t2\nread\t1\nunread\t1\nunread 2\t1\nsum\t5\nlowest\t5\nhighest\t5\nmean\t5\nremainder\t0\n"
    -- no packs
    ∷ text "" "seen\t0\nread\t0\nunread\t0\nsum\t0\n"
    -- none read: no lowest, highest, mean or remainder
    ∷ text "0102\n" "seen\t1\nread\t0\nunread\t1\nunread 2\t1\nsum\t0\n"
    ∷ text "0106\n0102\n0106\n01FE\n01FF\n" "seen\t5\nread\t0\nunread\t5\nunread 2\t1\nunread 6\t2\nunread 254\t1\nunread 255\t1\nsum\t0\n"
    -- one pack unread, or read with 0 cycles
    ∷ text "000500\n0106\n" "seen\t2\nread\t1\nunread\t1\nunread 6\t1\nsum\t5\nlowest\t5\nhighest\t5\nmean\t5\nremainder\t0\n"
    ∷ text "000500\n000000\n" "seen\t2\nread\t2\nunread\t0\nsum\t5\nlowest\t0\nhighest\t5\nmean\t2\nremainder\t1\n"
    -- the ends of the ranges: 0 and 65,535 cycles, answers 1 and 255
    ∷ text "000000\n00FFFF\n0101\n01FF\n" "seen\t4\nread\t2\nunread\t2\nunread 1\t1\nunread 255\t1\nsum\t65535\nlowest\t0\nhighest\t65535\nmean\t32767\nremainder\t1\n"
    ∷ text "00FFFF\n00FFFF\n00FFFE\n" "seen\t3\nread\t3\nunread\t0\nsum\t196349\nlowest\t65279\nhighest\t65535\nmean\t65449\nremainder\t2\n"
    -- figures of two digits and more, each decimal digit and each hexadecimal one
    ∷ text "010B\n010B\n010B\n010B\n010B\n010B\n010B\n010B\n010B\n010B\n010B\n010B\n010A\n0103\n0104\n0109\n0163\n006745\n00AB89\n00EFCD\n002301\n001100\n001300\n002800\n00E803\n00D007\n00B80B\n003C00\n004D00\n006200\n" "seen\t30\nread\t13\nunread\t17\nunread 3\t1\nunread 4\t1\nunread 9\t1\nunread 10\t1\nunread 11\t12\nunread 99\t1\nsum\t112331\nlowest\t17\nhighest\t52719\nmean\t8640\nremainder\t11\n"
    -- the mean is not rounded up
    ∷ text "000100\n000200\n" "seen\t2\nread\t2\nunread\t0\nsum\t3\nlowest\t1\nhighest\t2\nmean\t1\nremainder\t1\n"
    -- a line that is no pack is refused, by its number: an empty one, another length
    ∷ text "\n" "refused\t11\t1\n"
    ∷ text "000500\n\n" "refused\t11\t2\n"
    ∷ text "00\n" "refused\t11\t1\n"
    ∷ text "0005\n" "refused\t11\t1\n"
    ∷ text "00050\n" "refused\t11\t1\n"
    ∷ text "00050000\n" "refused\t11\t1\n"
    ∷ text "01\n" "refused\t11\t1\n"
    ∷ text "010\n" "refused\t11\t1\n"
    ∷ text "01020\n" "refused\t11\t1\n"
    ∷ text "010203\n" "refused\t11\t1\n"
    -- 0100, another kind, lower case, a space, a carriage return, another byte
    ∷ text "0100\n" "refused\t11\t1\n"
    ∷ text "020500\n" "refused\t11\t1\n"
    ∷ text "00c800\n" "refused\t11\t1\n"
    ∷ text "00 500\n" "refused\t11\t1\n"
    ∷ text "000500 \n" "refused\t11\t1\n"
    ∷ text "0102\r\n" "refused\t11\t1\n"
    ∷ text "00050G\n" "refused\t11\t1\n"
    -- a last line without its line feed, good or not
    ∷ text "000500" "refused\t11\t1\n"
    ∷ text "000500\n0102" "refused\t11\t2\n"
    ∷ text "000500\n0" "refused\t11\t2\n"
    -- the first that is refused
    ∷ text "000500\n0100\n00c800\n" "refused\t11\t2\n"
    ∷ text "0102\n000500\n000000\n\n000500" "refused\t11\t4\n"
    ∷ text "000500\n000500\n000500\n000500\n000500\n000500\n000500\n000500\n000500\n000500\n000500\n000500\n00\n" "refused\t11\t13\n"
    ∷ []

-- each input is printed as its row says
abbrev pub Hold : List Case → Type 0
Hold [] = Unit {0}
Hold (text input output ∷ more) = (printed_of (ascii input) ≡ ascii output) × Hold more

pub cases_hold : Hold cases
unfolding cases ascii when◌then◌else◌ hex.value_of hex.byte_of hex.bytes_of line_bytes input.lines_from input.rest_from decimal.in_places decimal.decimal_of report.line report.by_number report.of_read report.text_of
    packs.cycles_said packs.answer_said packs.bytes_say packs.line_says packs.said_in packs.cycles_in packs.answers_in packs.total packs.occurs packs.lowest_of packs.highest_of packs.figures_of packs.report_of packs.packs_before packs.counted packs.outcome_of packs.printed_of
cases_hold = (refl, (refl, (refl, (refl, (refl, (refl, (refl, (refl, (refl, (refl, (refl, (refl, (refl, (refl, (refl, (refl, (refl, (refl, (refl, (refl, (refl, (refl, (refl, (refl, (refl, (refl, (refl, (refl, (refl, (refl, (refl, (refl, (refl, (refl, (refl, (refl, (refl, (refl, (refl, (refl, tt))))))))))))))))))))))))))))))))))))))))
