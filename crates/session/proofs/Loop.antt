-- Wherever the loop may stand, what is laid_bytes and what the chunk at hand still gives is what the chunks that were read give (`Chunks`).
-- Assumes nothing.
use Prim.Native.Nat.{ℕ, zero, suc, ◌+◌, ◌≤◌, ◌<◌}
use mathlib.Core.Path.{◌≡◌, refl, sym, ap, subst, ◌∙◌}
use mathlib.Core.Bool.{Bool, true, false, false≢true}
use mathlib.Core.List.{List, [], ◌∷◌, ◌++◌, append-nil, append_assoc}
use native.Mathlib.Omega.{arith}
use lib.ListN.{length, take, length-append, length-replicate}
use lib.Dec.{ltb}
use borrow.Author.Tests.{lt-ltb, le-ltb}
use Rattle.protocol.specs.Pick.{when◌then◌else◌}
use Rattle.lines.specs.declared.Took.{Took}
use Rattle.lines.specs.declared.Took.TheVariants as took
use Rattle.hexadecimal.specs.Line.{feed_bytes}
use Rattle.requests.specs.Request.{longest_request}
use Rattle.printing.proofs.Laws.{length_feed}
use Rattle.dialogue.specs.Dialogue.{last, bytes_said, said_of, close_of}
use Rattle.dialogue.proofs.Room.{short_close}
use Rattle.session.specs.declared.Session.{Session}
use Rattle.session.specs.declared.Desk.{Desk}
use Rattle.session.specs.Desk.{held_bytes, longest_line, out_bytes}
use Rattle.session.specs.Session.{start_of, at_byte, said_session, spoken_session, laid_out, closing, answer_lent, line_of, close_lent, close_desk, turn_by, turn_of, goes_on, turns_of, take_of, end_session, end_out, end_of}
use Rattle.session.specs.Output.{printed, printed_so_far}
use Rattle.session.specs.Loop.{laid_bytes, Fresh, blank, desk_at, Ready, Round, answers, refills, ends, Reached, begun, round, put, OneRound, Standing}
use Rattle.session.specs.Laws.{Begins, Writes}
use Rattle.session.proofs.Laws.{goes_on_inside}
use Rattle.session.proofs.Kept.{length_buffer, length_laid}
use Rattle.session.proofs.EachTurn.{written_said}
use Rattle.session.proofs.Chunks.{chunk_out, chunks_out, bytes_out, bytes_so_far, concat}
use Rattle.session.proofs.Whole.{off_chunk, off_chunks, take_uses, whole_bench}

-- what is lent for the output and for a call's buffer keeps its length
abbrev Keeps : Desk → Desk → Type 0
Keeps w v = (length v.lent.out ≡ length w.lent.out) × (length v.lent.buffer ≡ length w.lent.buffer)

keeps_turn : (u : Took) (chunk held : List ℕ) (w : Desk) → w.session.laid ≤ length w.lent.out → Keeps w (turn_by u chunk held w)
unfolding turn_by line_of answer_lent close_desk close_lent laid_out
keeps_turn (took.Here len next) chunk held w h = (length_laid w.session.laid _ w.lent.out h, length_buffer w.session.run _ w.lent.request w.lent.outcome w.lent.buffer)
keeps_turn (took.Held len next) chunk held w h = (length_laid w.session.laid _ w.lent.out h, length_buffer w.session.run _ w.lent.request w.lent.outcome w.lent.buffer)
keeps_turn (took.More have) chunk held w h = (refl, refl)
keeps_turn took.Long chunk held w h = (length_laid w.session.laid _ w.lent.out h, refl)

keeps_turns : (turns : ℕ) (chunk : List ℕ) (w : Desk) → Keeps w (turns_of turns chunk w)
unfolding turns_of turn_of when◌then◌else◌
keeps_turns zero chunk w = (refl, refl)
keeps_turns (suc turns) chunk w = by (keeps_turns turns chunk (turn_of chunk w)) (goes_on w.session.on w.session.at (length chunk) w.session.laid (length w.lent.out)) refl
  where
    by : Keeps (turn_of chunk w) (turns_of turns chunk (turn_of chunk w))
        → (f : Bool) → goes_on w.session.on w.session.at (length chunk) w.session.laid (length w.lent.out) ≡ f
        → Keeps w (when f then turns_of turns chunk (turn_of chunk w) else w)
    by next true e =
        let g = goes_on_inside w.session.on w.session.at (length chunk) w.session.laid (length w.lent.out) e in
        let k = keeps_turn _ chunk _ w (omega arith) in
        (next.0 ∙ k.0, next.1 ∙ k.1)
    by next false e = (refl, refl)

keeps_take : (chunk : List ℕ) (w : Desk) → Keeps w (take_of chunk w)
unfolding take_of
keeps_take chunk w = keeps_turns (length chunk) chunk _

-- the chunk at hand is used up
chunk_used : (takes : ℕ) (chunk : List ℕ) (d : Desk) (more : Desk → List ℕ) → d.session.on ≡ true → length chunk ≤ d.session.at → chunk_out takes chunk d more ≡ more d
unfolding chunk_out when◌then◌else◌
chunk_used zero chunk d more o h = refl
chunk_used (suc takes) chunk d more o h = rw (o, le-ltb d.session.at (length chunk) h)

-- it lasts
chunk_lasts : (takes : ℕ) (chunk : List ℕ) (d : Desk) (more : Desk → List ℕ) → d.session.on ≡ true → d.session.at < length chunk
    → chunk_out (suc takes) chunk d more ≡ laid_bytes (take_of chunk d) ++ chunk_out takes chunk (take_of chunk d) more
unfolding chunk_out when◌then◌else◌
chunk_lasts takes chunk d more o h = rw (o, lt-ltb d.session.at (length chunk) h)

-- what is laid does not matter for what comes after it
abbrev Blind : (Desk → List ℕ) → Type 0
Blind more = (v : Desk) → more (desk_at v.session.at v) ≡ more v

blind_chunk : (takes : ℕ) (chunk : List ℕ) (more : Desk → List ℕ) → Blind more → Blind (λ v. chunk_out takes chunk v more)
unfolding chunk_out desk_at take_of at_byte
blind_chunk zero chunk more b v = b v
blind_chunk (suc takes) chunk more b v = rw (b v)

blind_chunks : (final : Desk → List ℕ) (chunks : List (List ℕ)) → Blind final → Blind (chunks_out final chunks)
unfolding chunks_out desk_at at_byte
blind_chunks final [] b v = rw (b v)
blind_chunks final (chunk ∷ chunks) b v = refl

blind_end : Blind (λ v. laid_bytes (end_of v))
unfolding desk_at at_byte end_of end_session end_out laid_bytes
blind_end v = refl

concat_last : (chunks : List (List ℕ)) (chunk : List ℕ) → concat (chunks ++ (chunk ∷ [])) ≡ concat chunks ++ chunk
unfolding concat
concat_last [] chunk = append-nil chunk
concat_last (c ∷ chunks) chunk = rw (concat_last chunks chunk) (sym (append_assoc c (concat chunks) chunk))

none_laid : (d : Desk) → d.session.laid ≡ 0 → laid_bytes d ≡ []
unfolding laid_bytes
none_laid d e = rw e

-- the end of the input gives a line
end_some : (d : Desk) → d.session.on ≡ true → longest_line ≤ length d.lent.out → length d.lent.buffer ≤ 8192 → 0 < length (laid_bytes (end_of d))
unfolding end_of end_session end_out spoken_session laid_out closing bytes_said when◌then◌else◌
end_some d o room small =
    let x : List ℕ = close_of d.session.run (take d.session.have d.held) d.lent.buffer in
    let short = short_close d.session.run (take d.session.have d.held) d.lent.buffer small in
    let e : laid_bytes (end_of d) ≡ feed_bytes x =
    rw o (written_said (last x) d.session.run d.session.at 0 d.held d.lent.request d.lent.outcome d.lent.buffer d.lent.out short (omega arith)) in
    rw (e, length_feed) (omega arith)

-- what is read came in chunks. What they and any further ones give is what is laid_bytes and laid, and what the chunk at hand and those give
record Before (first : Desk) (read wrote chunk : List ℕ) (d : Desk) : Type 0 where
  chunks : List (List ℕ)
  all : concat chunks ≡ read
  takes : ℕ
  enough : length chunk ≤ takes + d.session.at
  room : longest_line ≤ length d.lent.out
  buffer : length d.lent.buffer ≤ 8192
  same : (final : Desk → List ℕ) (more : List (List ℕ)) → Blind final
      → chunks_out final (chunks ++ more) first ≡ wrote ++ (laid_bytes d ++ chunk_out takes chunk d (chunks_out final more))

-- after the end
record After (first : Desk) (read wrote : List ℕ) (d : Desk) : Type 0 where
  chunks : List (List ℕ)
  all : concat chunks ≡ read
  same : bytes_out chunks first ≡ wrote ++ laid_bytes d

abbrev Stands : (first : Desk) (read wrote chunk : List ℕ) → Bool → Desk → Type 0
Stands first read wrote chunk false d = Before first read wrote chunk d
Stands first read wrote chunk true d = After first read wrote d

module _ (first : Desk) where
  at_begun : Fresh first → Before first [] [] [] first
  unfolding start_of chunk_out concat laid_bytes
  at_begun fresh = record {
    chunks = [];
    all = refl;
    takes = 0;
    enough = omega arith;
    room = omega (arith, fresh.sized.out);
    buffer = omega (arith, fresh.sized.buffer);
    same = λ final more b.
        let e : first.session.laid ≡ 0 = ap (λ (s : Session). s.laid) fresh.start in
        rw e;
  }

  module _ (read wrote chunk : List ℕ) (d : Desk) (s : Before first read wrote chunk d) where
    at_answers : Ready d → d.session.at < length chunk → Before first (read ++ []) wrote chunk (take_of chunk d)
    at_answers ready inside = by s.takes s.enough s.same
      where
        by : (n : ℕ) → length chunk ≤ n + d.session.at
            → ((final : Desk → List ℕ) (more : List (List ℕ)) → Blind final
            → chunks_out final (s.chunks ++ more) first ≡ wrote ++ (laid_bytes d ++ chunk_out n chunk d (chunks_out final more)))
            → Before first (read ++ []) wrote chunk (take_of chunk d)
        by zero h same = absurd (omega arith)
        by (suc n) h same = record {
          chunks = s.chunks;
          all = s.all ∙ sym (append-nil read);
          takes = n;
          enough = omega (arith, take_uses chunk d s.room ready.on inside, h);
          room = omega (arith, (keeps_take chunk d).0, s.room);
          buffer = omega (arith, (keeps_take chunk d).1, s.buffer);
          same = λ final more b. same final more b ∙ rw (none_laid d ready.clear, chunk_lasts n chunk d (chunks_out final more) ready.on inside);
        }

    at_refills : (more : List ℕ) → Ready d → length chunk ≤ d.session.at → Before first (read ++ more) wrote more (desk_at 0 d)
    unfolding desk_at at_byte chunks_out laid_bytes
    at_refills more ready used = record {
      chunks = s.chunks ++ (more ∷ []);
      all = concat_last s.chunks more ∙ rw s.all;
      takes = length more;
      enough = omega arith;
      room = s.room;
      buffer = s.buffer;
      same = λ final rest b.
          ap (λ (l : List (List ℕ)). chunks_out final l first) (append_assoc s.chunks (more ∷ []) rest) ∙ s.same final (more ∷ rest) b
          ∙ rw (none_laid d ready.clear, chunk_used s.takes chunk d (chunks_out final (more ∷ rest)) ready.on used);
    }

    at_ends : Ready d → length chunk ≤ d.session.at → After first (read ++ []) wrote (end_of d)
    unfolding bytes_out chunks_out when◌then◌else◌
    at_ends ready used = record {
      chunks = s.chunks;
      all = s.all ∙ sym (append-nil read);
      same =
          ap (λ (l : List (List ℕ)). chunks_out (λ v. laid_bytes (end_of v)) l first) (sym (append-nil s.chunks)) ∙ s.same (λ v. laid_bytes (end_of v)) [] blind_end
          ∙ rw (none_laid d ready.clear, chunk_used s.takes chunk d (chunks_out (λ v. laid_bytes (end_of v)) []) ready.on used, ready.on);
    }

    at_round : {more next : List ℕ} {end : Bool} {v : Desk} → Ready d → Round chunk d more next end v → Stands first (read ++ more) wrote next end v
    at_round ready (answers inside) = at_answers ready inside
    at_round ready (refills more used some) = at_refills more ready used
    at_round ready (ends used) = at_ends ready used

    at_put : Before first read (wrote ++ laid_bytes d) chunk (desk_at d.session.at d)
    unfolding desk_at at_byte laid_bytes
    at_put = record {
      chunks = s.chunks;
      all = s.all;
      takes = s.takes;
      enough = s.enough;
      room = s.room;
      buffer = s.buffer;
      same = λ final more b.
          s.same final more b ∙ sym (append_assoc wrote (laid_bytes d) _)
          ∙ ap (λ (l : List ℕ). wrote ++ laid_bytes d ++ l) (sym (blind_chunk s.takes chunk (chunks_out final more) (blind_chunks final more b) d));
    }

  put_end : (read wrote : List ℕ) (d : Desk) → After first read wrote d → After first read (wrote ++ laid_bytes d) (desk_at d.session.at d)
  unfolding desk_at at_byte laid_bytes
  put_end read wrote d s = record { chunks = s.chunks; all = s.all; same = s.same ∙ sym (append-nil (wrote ++ laid_bytes d)) }

  put_either : (read wrote chunk : List ℕ) (end : Bool) (d : Desk) → Stands first read wrote chunk end d → Stands first read (wrote ++ laid_bytes d) chunk end (desk_at d.session.at d)
  put_either read wrote chunk false d s = at_put read wrote chunk d s
  put_either read wrote chunk true d s = put_end read wrote d s

  stands : Fresh first → {rounds : ℕ} {read wrote chunk : List ℕ} {end : Bool} {d : Desk} → Reached first rounds read wrote chunk end d → Stands first read wrote chunk end d
  stands fresh begun = at_begun fresh
  stands fresh (round r ready t) = at_round _ _ _ _ (stands fresh r) ready t
  stands fresh (put {read = read} {wrote = wrote} {chunk = chunk} {end = end} {d = d} r) = put_either read wrote chunk end d (stands fresh r)

  module _ (fresh : Fresh first) (read wrote chunk : List ℕ) where
    all_before : (d : Desk) (s : Before first read wrote chunk d) (more : List ℕ)
        → wrote ++ (laid_bytes d ++ chunk_out s.takes chunk d (chunks_out (λ v. laid_bytes (end_of v)) (more ∷ []))) ≡ printed (read ++ more)
    unfolding bytes_out
    all_before d s more =
        sym (s.same (λ v. laid_bytes (end_of v)) (more ∷ []) blind_end) ∙ whole_bench.whole (s.chunks ++ (more ∷ [])) first fresh.sized fresh.start
        ∙ ap printed (concat_last s.chunks more ∙ rw s.all)

    all_after : (d : Desk) → After first read wrote d → (more : List ℕ) → more ≡ [] → wrote ++ laid_bytes d ≡ printed (read ++ more)
    all_after d s more e = sym s.same ∙ whole_bench.whole s.chunks first fresh.sized fresh.start ∙ ap printed (s.all ∙ rw e (sym (append-nil read)))

    reads_all : (d : Desk) → Before first read wrote chunk d → Ready d → length chunk ≤ d.session.at → wrote ≡ printed_so_far read
    unfolding bytes_so_far chunks_out when◌then◌else◌
    reads_all d s ready used =
        let e = s.same (λ v. []) [] (λ v. refl) in
        let n : wrote ++ (laid_bytes d ++ chunk_out s.takes chunk d (chunks_out (λ v. []) [])) ≡ wrote =
        rw (none_laid d ready.clear, chunk_used s.takes chunk d (chunks_out (λ v. []) []) ready.on used, ready.on) (append-nil wrote) in
        sym n ∙ sym e ∙ ap (λ (l : List (List ℕ)). chunks_out (λ v. []) l first) (append-nil s.chunks)
        ∙ whole_bench.at_once s.chunks first fresh.sized fresh.start ∙ ap printed_so_far s.all

    -- the last line that the end of the input would give
    waits_all : (d : Desk) → Before first read wrote chunk d → Ready d → length chunk ≤ d.session.at → length wrote < length (printed read)
    unfolding bytes_out chunks_out when◌then◌else◌
    waits_all d s ready used =
        let e : bytes_out s.chunks first ≡ wrote ++ laid_bytes (end_of d) =
        ap (λ (l : List (List ℕ)). chunks_out (λ v. laid_bytes (end_of v)) l first) (sym (append-nil s.chunks)) ∙ s.same (λ v. laid_bytes (end_of v)) [] blind_end
        ∙ rw (none_laid d ready.clear, chunk_used s.takes chunk d (chunks_out (λ v. laid_bytes (end_of v)) []) ready.on used, ready.on) in
        let p : printed read ≡ wrote ++ laid_bytes (end_of d) = ap printed (sym s.all) ∙ sym (whole_bench.whole s.chunks first fresh.sized fresh.start) ∙ e in
        rw (p, length-append) (omega (arith, end_some d ready.on s.room s.buffer))

    over_all : (end : Bool) (d : Desk) → Stands first read wrote chunk end d → d.session.on ≡ false → d.session.laid ≡ 0 → (more : List ℕ) → (end ≡ true → more ≡ [])
        → wrote ≡ printed (read ++ more)
    over_all false d s o l more none =
        let n : wrote ++ (laid_bytes d ++ chunk_out s.takes chunk d (chunks_out (λ v. laid_bytes (end_of v)) (more ∷ []))) ≡ wrote =
        rw (none_laid d l, off_chunk s.takes chunk d (chunks_out (λ v. laid_bytes (end_of v)) (more ∷ [])) (off_chunks (λ v. laid_bytes (end_of v)) (more ∷ [])) o) (append-nil wrote) in
        sym n ∙ all_before d s more
    over_all true d s o l more none = sym (append-nil wrote) ∙ ap (λ (x : List ℕ). wrote ++ x) (sym (none_laid d l)) ∙ all_after d s more (none refl)

    starts_all : (end : Bool) (d : Desk) → Stands first read wrote chunk end d → (more : List ℕ) → (end ≡ true → more ≡ []) → Begins wrote (printed (read ++ more))
    starts_all false d s more none = record { rest = _; same = all_before d s more }
    starts_all true d s more none = record { rest = laid_bytes d; same = all_after d s more (none refl) }

-- what a chunk gives, whatever follows it
chunk_begins : (takes : ℕ) (chunk : List ℕ) (d : Desk) (none more : Desk → List ℕ) → ((v : Desk) → none v ≡ []) → Begins (chunk_out takes chunk d none) (chunk_out takes chunk d more)
unfolding chunk_out when◌then◌else◌
chunk_begins zero chunk d none more n = record { rest = more d; same = rw (n d) }
chunk_begins (suc takes) chunk d none more n = by d.session.on (ltb d.session.at (length chunk)) (chunk_begins takes chunk (take_of chunk d) none more n)
  where
    by : (f g : Bool) → Begins (chunk_out takes chunk (take_of chunk d) none) (chunk_out takes chunk (take_of chunk d) more)
        → Begins
        (when f then (when g then laid_bytes (take_of chunk d) ++ chunk_out takes chunk (take_of chunk d) none else none d) else [])
        (when f then (when g then laid_bytes (take_of chunk d) ++ chunk_out takes chunk (take_of chunk d) more else more d) else [])
    by true true b = record { rest = b.rest; same = append_assoc (laid_bytes (take_of chunk d)) _ b.rest ∙ ap (λ (l : List ℕ). laid_bytes (take_of chunk d) ++ l) b.same }
    by true false b = record { rest = more d; same = rw (n d) }
    by false g b = record { rest = []; same = refl }

-- a blank desk is fresh
pub blank_fresh : Fresh blank
unfolding blank
blank_fresh = record {
  sized = record {
    held = length-replicate {A = ℕ} held_bytes 0;
    request = length-replicate {A = ℕ} longest_request 0;
    outcome = length-replicate {A = ℕ} 8193 0;
    buffer = length-replicate {A = ℕ} 8192 0;
    out = length-replicate {A = ℕ} out_bytes 0;
  };
  start = refl;
}

one_begins : (final : Desk → List ℕ) (input : List ℕ) (chunks : List (List ℕ)) → Begins (bytes_so_far (input ∷ []) blank) (chunks_out final (input ∷ chunks) blank)
unfolding bytes_so_far chunks_out when◌then◌else◌
one_begins final input chunks = chunk_begins (length input) input _ (chunks_out (λ v. []) []) (chunks_out final chunks) (λ v. by v.session.on)
  where
    by : (f : Bool) → when◌then◌else◌ {A = List ℕ} f [] [] ≡ []
    by true = refl
    by false = refl

one : (input : List ℕ) → bytes_so_far (input ∷ []) blank ≡ printed_so_far input
unfolding concat
one input = whole_bench.at_once (input ∷ []) blank blank_fresh.sized blank_fresh.start ∙ ap printed_so_far (append-nil input)

two : (input more : List ℕ) → concat (input ∷ more ∷ []) ≡ input ++ more
unfolding concat
two input more = rw (append-nil more)

so_far_begins : (input more : List ℕ) → Begins (printed_so_far input) (printed (input ++ more)) × Begins (printed_so_far input) (printed_so_far (input ++ more))
unfolding bytes_out bytes_so_far
so_far_begins input more =
    let a = one_begins (λ v. laid_bytes (end_of v)) input (more ∷ []) in
    let b = one_begins (λ v. []) input (more ∷ []) in
    let start : chunks_out (λ v. []) (input ∷ []) blank ≡ printed_so_far input = one input in
    let all : chunks_out (λ v. laid_bytes (end_of v)) (input ∷ more ∷ []) blank ≡ printed (input ++ more) =
    whole_bench.whole (input ∷ more ∷ []) blank blank_fresh.sized blank_fresh.start ∙ ap printed (two input more) in
    let now : chunks_out (λ v. []) (input ∷ more ∷ []) blank ≡ printed_so_far (input ++ more) =
    whole_bench.at_once (input ∷ more ∷ []) blank blank_fresh.sized blank_fresh.start ∙ ap printed_so_far (two input more) in (
      record { rest = a.rest; same = ap (λ (l : List ℕ). l ++ a.rest) (sym start) ∙ a.same ∙ all },
      record { rest = b.rest; same = ap (λ (l : List ℕ). l ++ b.rest) (sym start) ∙ b.same ∙ now },
    )

end_off : (d : Desk) → d.session.on ≡ true → (end_of d).session.on ≡ false
unfolding end_of end_session spoken_session closing said_session said_of when◌then◌else◌
end_off d o = rw o

-- a run that goes on has not come to the end of the input
unended_round : {chunk more next : List ℕ} {end : Bool} {d v : Desk} → Ready d → Round chunk d more next end v → v.session.on ≡ true → end ≡ false
unended_round ready (answers inside) o = refl
unended_round ready (refills more used some) o = refl
unended_round {d = d} ready (ends used) o = sym o ∙ end_off d ready.on

pub unended : {first : Desk} {rounds : ℕ} {read wrote chunk : List ℕ} {end : Bool} {d : Desk} → Reached first rounds read wrote chunk end d → d.session.on ≡ true → end ≡ false
unfolding desk_at at_byte
unended begun o = refl
unended (round r ready t) o = unended_round ready t o
unended (put r) o = unended r o

-- the end of the input is followed by nothing but writes
over_end : {first : Desk} {rounds : ℕ} {read wrote chunk : List ℕ} {end : Bool} {d : Desk} → Reached first rounds read wrote chunk end d → end ≡ true → d.session.on ≡ false
unfolding desk_at at_byte
over_end begun e = absurd (false≢true e)
over_end (round r ready (answers inside)) e = absurd (false≢true e)
over_end (round r ready (refills more used some)) e = absurd (false≢true e)
over_end (round {d = d} r ready (ends used)) e = end_off d ready.on
over_end (put r) e = over_end r e

-- the statement
pub laws : Writes printed printed_so_far
unfolding desk_at at_byte
laws = record {
  over = λ first fresh {rounds} {read} {wrote} {chunk} {end} {d} r. over_all first fresh read wrote chunk end d (stands first fresh r);
  reads = λ first fresh {rounds} {read} {wrote} {chunk} {d} r. reads_all first fresh read wrote chunk d (stands first fresh r);
  waits = λ first fresh {rounds} {read} {wrote} {chunk} {d} r. waits_all first fresh read wrote chunk d (stands first fresh r);
  ends = λ {first} {rounds} {read} {wrote} {chunk} {d} r. over_end r refl;
  advances = λ first fresh {rounds} {read} {wrote} {chunk} {d} r ready inside. take_uses chunk d (stands first fresh r).room ready.on inside;
  clears = λ d. (refl, refl, refl);
  starts = λ first fresh {rounds} {read} {wrote} {chunk} {end} {d} r. starts_all first fresh read wrote chunk end d (stands first fresh r);
  so_far_lem = so_far_begins;
}

-- ---- for the program: it stands a round further

pub stands_first : (first : Desk) → Standing first 0 [] first
stands_first first = record { read = []; wrote = []; end = false; reached = begun }

pub stands_on : (first : Desk) (rounds : ℕ) (chunk next : List ℕ) (d v : Desk) → Standing first rounds chunk d → Ready d → OneRound chunk d next v
    → Standing first (suc rounds) next v
stands_on first rounds chunk next d v s ready t =
    let r : Reached first rounds s.read s.wrote chunk false d =
    subst (λ (b : Bool). Reached first rounds s.read s.wrote chunk b d) (unended s.reached ready.on) s.reached in
    record { read = s.read ++ t.more; wrote = s.wrote; end = t.end; reached = round r ready t.round }

pub stands_put : (first : Desk) (rounds : ℕ) (chunk : List ℕ) (d : Desk) → Standing first rounds chunk d → Standing first rounds chunk (desk_at d.session.at d)
stands_put first rounds chunk d s = record { read = s.read; wrote = s.wrote ++ laid_bytes d; end = s.end; reached = put s.reached }
