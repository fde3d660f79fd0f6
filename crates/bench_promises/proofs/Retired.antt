-- 15 exactly when the input begins with a retired kind: the two characters are those of the first line, and no call and no other line gives it.
-- Assumes nothing.
use Rattle.engine.specs.Bus.{Reported}
use Rattle.std.specs.Prelude.{Err, Ok}
use Prim.Native.Nat.{ℕ, zero, suc, ◌+◌, ◌/◌, ◌%◌, ◌≤◌, ◌<◌}
use mathlib.Core.Path.{◌≡◌, refl, sym, ap, subst, ◌∙◌}
use mathlib.Core.Bool.{Bool, true, false, ◌&&◌, ◌||◌, false≢true}
use mathlib.Core.List.{List, [], ◌∷◌, ◌++◌, map, append-nil, append_assoc}
use mathlib.Core.Logic.{inl, inr, ⊎_elim}
use native.Mathlib.Nat.{suc-add}
use native.Mathlib.Omega.{arith}
use lib.ListN.{length, take, drop, get_or, replicate}
use lib.Seq.{take-nil}
use lib.Dec.{ltb, eqb}
use borrow.Author.Tests.{eq-eqb, ne_eqb, eqb-true, ltb-true, ltb-false}
use Rattle.hexadecimal.specs.Hex.{digit_of, hex_of}
use Rattle.hexadecimal.specs.Digits.{in_digits}
use Rattle.hexadecimal.specs.Line.{line_bytes, feed_bytes, feeds}
use Rattle.hexadecimal.specs.Text.{ascii}
use Rattle.protocol.specs.Pick.{when◌then◌else◌}
use Rattle.protocol.specs.Answer.{number_of}
use Rattle.protocol.specs.declared.error.Answer.{Answer}
use Rattle.protocol.specs.declared.error.Answer.TheVariants as answer
use Rattle.engine.specs.Budget.{nothing}
use Rattle.engine.specs.declared.budget.Tally.{Tally}
use Rattle.engine.specs.declared.bus.Transfer.{Transfer}
use Rattle.engine.specs.declared.bus.Transfer.TheVariants as transfer
use Rattle.calls.specs.Call.{start_of, next_of, report_of, buffer_after, tally_of, phase_of}
use Rattle.calls.specs.declared.call.Call.{Call}
use Rattle.requests.specs.Request.{Request, called_of, request_line}
use Rattle.requests.specs.Retired.{retired_kind}
use Rattle.requests.proofs.Every.{every_request}
use Rattle.printing.specs.Printing.{write_said, read_said, end_said, cut_said}
use Rattle.lines.specs.Input.{lines_from, rest_from}
use Rattle.lines.specs.Lines.{before_feed}
use Rattle.lines.proofs.Any.{lines_more, lines_whole}
use Rattle.dialogue.specs.Dialogue.{bytes_said, tell_of, line_shown, last_of, unfinished_of}
use Rattle.dialogue.specs.Bench.{request_then, request_of, bench_of}
use Rattle.dialogue.proofs.EachLine.{All, GoodAfter, each_run}
use Rattle.session.specs.Laws.{Begins}
use Rattle.session.proofs.Long.{first_line}
use Rattle.bench_promises.specs.Numbers.{low_first}
use Rattle.bench_promises.specs.Kinds.{begins, is_retired, asked_line, asked_cut}
use Rattle.bench_promises.specs.RustBench.{end_line, run_asked, rust_bench, rust_printed, longest_digits, rust_so_far}
use Rattle.bench_promises.specs.Retired.{BeginsRetired, Has, here, later, Says15, Not15, NotReported15, NotShown15, RetiredKinds}
use Rattle.bench_promises.proofs.Asked.{same_retired}
use Rattle.bench_promises.proofs.Lines.{each_line, writes}
use Rattle.bench_promises.proofs.NoCall.{no_call}

-- ---- the first characters of the input are those of its first line

-- none of these is a line feed
abbrev NoFeed : List ℕ → Type 0
NoFeed [] = Unit {0}
NoFeed (d ∷ ds) = (d ≡ 10 → ⊥) × NoFeed ds

begins_before : (ds s : List ℕ) → NoFeed ds → begins ds (before_feed s) ≡ begins ds s
unfolding begins before_feed when◌then◌else◌
begins_before [] s none = refl
begins_before (d ∷ ds) [] none = refl
begins_before (d ∷ ds) (b ∷ s) (this, none) = by (begins_before ds s none) (eqb b 10) refl
  where
    by : begins ds (before_feed s) ≡ begins ds s → (t : Bool) → eqb b 10 ≡ t → begins (d ∷ ds) (when t then [] else b ∷ before_feed s) ≡ (eqb b d && begins ds s)
    by same true e =
        let feed : b ≡ 10 = eqb-true b 10 e in
        let other : b ≡ d → ⊥ = λ f. this (sym f ∙ feed) in
        rw (ne_eqb b d other)
    by same false e = rw same

first_retired : (input : List ℕ) → is_retired (before_feed input) ≡ is_retired input
unfolding is_retired in_digits
first_retired input =
    let none-c : NoFeed (0x30 ∷ 0x43 ∷ []) = ((λ e. omega arith), ((λ e. omega arith), tt)) in
    let none-d : NoFeed (0x30 ∷ 0x44 ∷ []) = ((λ e. omega arith), ((λ e. omega arith), tt)) in
    rw (begins_before (0x30 ∷ 0x43 ∷ []) input none-c, begins_before (0x30 ∷ 0x44 ∷ []) input none-d)

-- the first line is whole, or never is
module _ (P : List (List ℕ) → Type 0) (input : List ℕ) (cut : P (rust_bench [] (before_feed input)))
    (whole : (lines : List (List ℕ)) (rest : List ℕ) → P (rust_bench (before_feed input ∷ lines) rest)) where
  by_first : P (rust_bench (lines_from [] input) (rest_from [] input))
  by_first =
      ⊎_elim
      (λ c. let e : rust_bench (lines_from [] input) (rest_from [] input) ≡ rust_bench [] (before_feed input) = rw (c.0, c.1) in subst P (sym e) cut)
      (λ c.
      let e : rust_bench (lines_from [] input) (rest_from [] input) ≡ rust_bench (before_feed input ∷ lines_from [] (drop (suc (length (before_feed input))) input)) (rest_from [] input) = rw c in
      subst P (sym e) (whole _ _))
      (first_line [] input)

-- ---- begins, as it is said and as it is tested

begins_so : (ds line : List ℕ) → begins ds line ≡ true → Begins ds line
unfolding begins
begins_so [] line e = record { rest = line; same = refl }
begins_so (d ∷ ds) [] e = absurd (false≢true e)
begins_so (d ∷ ds) (b ∷ line) e = by (eqb b d) refl e (begins_so ds line)
  where
    by : (t : Bool) → eqb b d ≡ t → (t && begins ds line) ≡ true → (begins ds line ≡ true → Begins ds line) → Begins (d ∷ ds) (b ∷ line)
    by true q e next = let r = next e in record { rest = r.rest; same = rw (eqb-true b d q, r.same) }
    by false q e next = absurd (false≢true e)

so_begins : (ds rest : List ℕ) → begins ds (ds ++ rest) ≡ true
unfolding begins
so_begins [] rest = refl
so_begins (d ∷ ds) rest = rw (eq-eqb d d refl, so_begins ds rest)

retired_so : (input : List ℕ) → is_retired input ≡ true → BeginsRetired input
unfolding is_retired in_digits ascii
retired_so input e = by (begins (0x30 ∷ 0x43 ∷ []) input) refl (begins (0x30 ∷ 0x44 ∷ []) input) refl e
  where
    by : (t : Bool) → begins (0x30 ∷ 0x43 ∷ []) input ≡ t → (u : Bool) → begins (0x30 ∷ 0x44 ∷ []) input ≡ u → (t || u) ≡ true → BeginsRetired input
    by true p u q e = inl (begins_so (0x30 ∷ 0x43 ∷ []) input p)
    by false p true q e = inr (begins_so (0x30 ∷ 0x44 ∷ []) input q)
    by false p false q e = absurd (false≢true e)

or_true : (t : Bool) → (t || true) ≡ true
or_true true = refl
or_true false = refl

so_retired : (input : List ℕ) → BeginsRetired input → is_retired input ≡ true
unfolding is_retired in_digits ascii
so_retired input (inl b) = rw (← b.same, so_begins (0x30 ∷ 0x43 ∷ []) b.rest)
so_retired input (inr b) = rw (← b.same, so_begins (0x30 ∷ 0x44 ∷ []) b.rest) (or_true (begins (0x30 ∷ 0x43 ∷ []) (0x30 ∷ 0x44 ∷ b.rest)))

-- ---- such an input

retired_bench : (input : List ℕ) → is_retired input ≡ true → rust_bench (lines_from [] input) (rest_from [] input) ≡ end_line answer.RetiredKind 0 0 [] ∷ []
unfolding rust_bench run_asked asked_line asked_cut when◌then◌else◌
retired_bench input e =
    let first : is_retired (before_feed input) ≡ true = first_retired input ∙ e in
    by_first (λ said. said ≡ end_line answer.RetiredKind 0 0 [] ∷ []) input (rw first) (λ lines rest. rw first)

retired_printed : (input : List ℕ) → BeginsRetired input → rust_printed input ≡ ascii "FF0F00000000000000000000\n"
unfolding rust_printed feeds feed_bytes hex_of digit_of end_line low_first ascii when◌then◌else◌
retired_printed input b = rw (retired_bench input (so_retired input b))

-- ---- any other: no line of it is an end with 15

-- the text of this line does not begin with FF0F
abbrev Other : List ℕ → Type 0
Other line = Begins (ascii "FF0F") (hex_of line) → ⊥

-- the four characters
fronted : (s : List ℕ) → Begins (ascii "FF0F") s → (get_or s 0 0 ≡ 0x46) × (get_or s 1 0 ≡ 0x46) × (get_or s 2 0 ≡ 0x30) × (get_or s 3 0 ≡ 0x46)
unfolding ascii
fronted s b = rw (← b.same) (refl, refl, refl, refl)

zero_digit : (v : ℕ) → digit_of v ≡ 0x30 → v ≡ 0
unfolding digit_of when◌then◌else◌
zero_digit v = by (ltb v 10)
  where
    by : (t : Bool) → (when t then v + 48 else v % 16 + 55) ≡ 0x30 → v ≡ 0
    by true e = omega arith
    by false e = omega arith

last_digit : (v : ℕ) → v < 16 → digit_of v ≡ 0x46 → v ≡ 15
unfolding digit_of when◌then◌else◌
last_digit v small = by (ltb v 10) refl
  where
    by : (t : Bool) → ltb v 10 ≡ t → (when t then v + 48 else v % 16 + 55) ≡ 0x46 → v ≡ 15
    by true q e = omega (arith, ltb-true v 10 q)
    by false q e = omega arith

fifteen : (n : ℕ) → digit_of (n / 16) ≡ 0x30 → digit_of (n % 16) ≡ 0x46 → n ≡ 15
fifteen n e f = omega (arith, zero_digit (n / 16) e, last_digit (n % 16) (omega arith) f)

other_end : (a : Answer) (tally : Tally) (buffer : List ℕ) → (number_of a ≡ 15 → ⊥) → Other (end_said a tally buffer)
unfolding end_said hex_of
other_end a tally buffer h b = let f = fronted _ b in h (fifteen (number_of a) f.2 f.3)

bad_line : number_of answer.BadLine ≡ 15 → ⊥
bad_line e = omega arith

other_last : (tally : Tally) (left : ℕ) (buffer : List ℕ) → Other (last_of tally left buffer)
unfolding last_of when◌then◌else◌ cut_said hex_of digit_of
other_last tally left buffer = by (eqb left 0)
  where
    by : (t : Bool) → Other (when t then cut_said tally buffer else end_said answer.BadLine tally buffer)
    by true = λ b. let f = (fronted _ b).1 in omega (arith, f)
    by false = other_end answer.BadLine tally buffer bad_line

other_tell : (t : Transfer) (frame : List ℕ) (tally : Tally) (buffer : List ℕ) → NotShown15 t → Other (bytes_said (tell_of t frame tally buffer))
unfolding tell_of bytes_said write_said read_said hex_of digit_of when◌then◌else◌
other_tell (transfer.Write n) frame tally buffer h = λ b. let f = (fronted _ b).0 in omega (arith, f)
other_tell (transfer.Read command n) frame tally buffer h = λ b. let f = (fronted _ b).0 in omega (arith, f)
other_tell (transfer.Refused a) frame tally buffer h = other_end a tally buffer h
other_tell (transfer.Ended a) frame tally buffer h = other_end a tally buffer h

other_shown : (c : Call) (payload buffer : List ℕ) → Not15 (phase_of c) → Other (bytes_said (line_shown c payload buffer))
unfolding line_shown
other_shown c payload buffer h = other_tell (next_of c payload (length buffer) 39) _ (tally_of c) buffer (no_call.shows c h payload (length buffer) 39)

other_after : (payload : List ℕ) (u : Reported Call) (buffer : List ℕ) → NotReported15 u → GoodAfter Other (λ c after. Not15 (phase_of c)) payload u buffer
other_after payload (Err (a, c)) buffer h = other_end a (tally_of c) buffer h.0
other_after payload (Ok c) buffer h = h

-- a request line that is not retired is refused with 11 alone
abbrev Fine : Request → Type 0
Fine (Ok q) = Unit {0}
Fine (Err a) = number_of a ≡ 15 → ⊥

fine_either : (t : Bool) (q : Request) → Fine q → Fine (when t then Err answer.BadLine else q)
unfolding when◌then◌else◌
fine_either true q h = bad_line
fine_either false q h = h

fine_request : (bytes : List ℕ) → Fine (request_line bytes)
unfolding called_of
fine_request bytes = every_request Fine bad_line bytes (λ k at size few. fine_either _ _ (fine_either _ _ (fine_either _ _ tt)))

other_request : (q : Request) (bytes : List ℕ) (lines : List (List ℕ)) (rest : List ℕ) → Fine q → All Other (request_then q bytes lines rest)
unfolding request_then
other_request (Ok q) bytes lines rest h =
    each_run Other (λ c buffer. Not15 (phase_of c)) (drop q.at bytes)
    (λ c buffer g. other_shown c (drop q.at bytes) buffer g)
    (λ c buffer g left. other_last (tally_of c) left buffer)
    (λ c buffer g. other_end answer.BadLine (tally_of c) buffer bad_line)
    (λ c buffer g o reply. other_after (drop q.at bytes) (report_of c o reply (length (drop q.at bytes)) (length buffer) 39) (buffer_after c o reply buffer 39)
    (no_call.reports c g o reply (length (drop q.at bytes)) (length buffer) 39))
    lines (start_of q.kind q.config (length (drop q.at bytes)) q.len 39) (replicate q.len 0xA5) rest (no_call.starts q.kind q.config (length (drop q.at bytes)) q.len 39)
other_request (Err a) bytes lines rest h = (other_end a nothing [] h, tt)

-- the first line, or what follows where there is none
first_of : List (List ℕ) → List ℕ → List ℕ
first_of [] rest = rest
first_of (line ∷ lines) rest = line

other_bench : (lines : List (List ℕ)) (rest : List ℕ) → retired_kind (first_of lines rest) ≡ false → All Other (bench_of lines rest)
unfolding bench_of request_of unfinished_of first_of when◌then◌else◌
other_bench [] rest e = rw e (other_end answer.BadLine nothing [] bad_line, tt)
other_bench (line ∷ lines) rest e = rw e (other_request (request_line (line_bytes line)) (line_bytes line) lines rest (fine_request (line_bytes line)))

other_lines : (input : List ℕ) → is_retired input ≡ false → All Other (rust_bench (lines_from [] input) (rest_from [] input))
unfolding first_of
other_lines input e =
    let first : retired_kind (before_feed input) ≡ false = same_retired (before_feed input) ∙ first_retired input ∙ e in
    by_first (All Other) input (subst (All Other) (each_line [] (before_feed input)) (other_bench [] (before_feed input) first))
    (λ lines rest. subst (All Other) (each_line (before_feed input ∷ lines) rest) (other_bench (before_feed input ∷ lines) rest first))

-- ---- the text that is printed, line by line

digit_no_feed : (v : ℕ) → digit_of v ≡ 10 → ⊥
unfolding digit_of when◌then◌else◌
digit_no_feed v = by (ltb v 10)
  where
    by : (t : Bool) → (when t then v + 48 else v % 16 + 55) ≡ 10 → ⊥
    by true e = omega arith
    by false e = omega arith

fed_line : (s held more : List ℕ) → lines_from held (hex_of s ++ (10 ∷ []) ++ more) ≡ (held ++ hex_of s) ∷ lines_from [] more
unfolding lines_from hex_of when◌then◌else◌
fed_line [] held more = rw append-nil
fed_line (b ∷ s) held more =
    let high : List ℕ = digit_of (b / 16) ∷ [] in
    let low : List ℕ = digit_of (b % 16) ∷ [] in
    rw (ne_eqb (digit_of (b / 16)) 10 (digit_no_feed (b / 16)), ne_eqb (digit_of (b % 16)) 10 (digit_no_feed (b % 16)))
    (fed_line s (held ++ high ++ low) more
    ∙ ap (λ (l : List ℕ). l ∷ lines_from [] more) (append_assoc (held ++ high) low (hex_of s) ∙ append_assoc held high (low ++ hex_of s)))

fed_lines : (lines : List (List ℕ)) → lines_from [] (feeds lines) ≡ map hex_of lines
unfolding feeds feed_bytes lines_from
fed_lines [] = refl
fed_lines (s ∷ lines) = fed_line s [] (feeds lines) ∙ ap (λ (l : List (List ℕ)). hex_of s ∷ l) (fed_lines lines)

each_text : (P : List ℕ → Type 0) (lines : List (List ℕ)) → All (λ s. P (hex_of s)) lines → All P (map hex_of lines)
each_text P [] all = tt
each_text P (s ∷ lines) (this, all) = (this, each_text P lines all)

none_has : (front : List ℕ) (lines : List (List ℕ)) → Has front lines → All (λ line. Begins front line → ⊥) lines → ⊥
none_has front lines (here line after b) (this, others) = this b
none_has front lines (later line after h) (this, others) = none_has front after h others

only_so : (input : List ℕ) → Says15 (rust_printed input) → BeginsRetired input
unfolding rust_printed
only_so input says = by (is_retired input) refl
  where
    said : List (List ℕ)
    said = rust_bench (lines_from [] input) (rest_from [] input)

    by : (t : Bool) → is_retired input ≡ t → BeginsRetired input
    by true e = retired_so input e
    by false e =
        absurd (none_has (ascii "FF0F") (map hex_of said) (subst (Has (ascii "FF0F")) (fed_lines said) says) (each_text (λ line. Begins (ascii "FF0F") line → ⊥) said (other_lines input e)))

-- ---- and no more is read

no_lines : (lines : List (List ℕ)) → length lines ≡ 0 → lines ≡ []
no_lines [] e = refl
no_lines (line ∷ lines) e = absurd (omega arith)

-- where no line is whole, what follows the last line feed is all of the input
all_rest : (input : List ℕ) → lines_from [] input ≡ [] → rest_from [] input ≡ input
all_rest input none = by (ltb (length (before_feed input)) (length input)) refl
  where
    by : (t : Bool) → ltb (length (before_feed input)) (length input) ≡ t → rest_from [] input ≡ input
    by true e =
        let some = (lines_whole input [] (ltb-true (length (before_feed input)) (length input) e)).0 in
        let zero-is-more : 0 ≡ suc (length (lines_from [] (drop (suc (length (before_feed input))) input))) = ap length (sym none ∙ some) in
        absurd (omega arith)
    by false e = (lines_more input [] (ltb-false (length (before_feed input)) (length input) e)).1

one_line : (k : ℕ) (x : List ℕ) → feeds (take (suc k) (x ∷ [])) ≡ feeds (x ∷ [])
one_line k x = rw (take-nil {A = List ℕ} k)

no_more_read : (read wrote : List ℕ) → wrote ≡ rust_so_far read → length wrote < length (rust_printed read) → BeginsRetired read
    → (lines_from [] read ≡ []) × (length read ≤ longest_digits)
unfolding rust_so_far rust_printed when◌then◌else◌
no_more_read read wrote so_far left b =
    by (ltb longest_digits (length (rest_from [] read))) refl (length (lines_from [] read)) refl
  where
    last : List ℕ
    last = end_line answer.RetiredKind 0 0 []

    said : rust_bench (lines_from [] read) (rest_from [] read) ≡ last ∷ []
    said = retired_bench read (so_retired read b)

    all : rust_printed read ≡ feeds (last ∷ [])
    all = ap feeds said

    -- a line that is whole, or too long, is answered, and nothing is left
    answered : (k : ℕ) → wrote ≡ feeds (take (suc k) (last ∷ [])) → ⊥
    answered k e =
        let same : length wrote ≡ length (rust_printed read) = ap length (e ∙ one_line k last ∙ sym all) in
        omega (arith, same, left)

    by : (t : Bool) → ltb longest_digits (length (rest_from [] read)) ≡ t → (n : ℕ) → length (lines_from [] read) ≡ n
        → (lines_from [] read ≡ []) × (length read ≤ longest_digits)
    by t early (suc n) e =
        absurd (answered (n + (when t then 1 else 0)) (so_far ∙ rw (early, e, said) (ap (λ (k : ℕ). feeds (take k (last ∷ []))) (suc-add n (when t then 1 else 0)))))
    by true early zero e = absurd (answered 0 (so_far ∙ rw (early, e, said)))
    by false early zero e =
        let none = no_lines (lines_from [] read) e in
        let short : length (rest_from [] read) ≤ longest_digits = ltb-false longest_digits (length (rest_from [] read)) early in
        (none, subst (λ (s : List ℕ). length s ≤ longest_digits) (all_rest read none) short)

pub retired_kinds : RetiredKinds
retired_kinds = record {
  answered = retired_printed;
  only = only_so;
  in_pieces = λ first fresh {rounds} {read} {wrote} {chunk} {end} {d} r off clear.
      let all : wrote ≡ rust_printed read = writes.over first fresh r off clear [] (λ e. refl) ∙ ap rust_printed (append-nil read) in
      (λ b. all ∙ retired_printed read b, λ says. only_so read (subst Says15 all says));
  no_more = λ first fresh {rounds} {read} {wrote} {chunk} {d} r ready used.
      no_more_read read wrote (writes.reads first fresh r ready used) (writes.waits first fresh r ready used);
  no_call = no_call;
}
