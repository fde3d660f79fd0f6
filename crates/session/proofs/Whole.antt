-- The bench as bytes: take after take over each chunk, and chunk by chunk over the input.
-- Assumes nothing.
use Prim.Native.Nat.{ℕ, zero, suc, ◌+◌, ◌≤◌, ◌<◌}
use mathlib.Core.Path.{◌≡◌, refl, sym, ap, subst, ◌∙◌}
use mathlib.Core.Bool.{Bool, true, false}
use mathlib.Core.List.{List, [], ◌∷◌, ◌++◌, append-nil}
use native.Mathlib.Omega.{arith}
use lib.ListN.{length, take, drop, drop_of_length-le}
use lib.Seq.{length-take-le, take-nil}
use lib.Dec.{ltb}
use borrow.Author.Tests.{lt-ltb, le-ltb, le-leb, ltb-true, ltb-false}
use Rattle.hexadecimal.specs.Line.{feed_bytes, feeds}
use Rattle.protocol.specs.Pick.{when◌then◌else◌}
use Rattle.protocol.proofs.Cases.{is_true}
use Rattle.lines.specs.Input.{lines_from, rest_from}
use Rattle.dialogue.specs.Dialogue as dialogue
use Rattle.dialogue.specs.Dialogue.{last}
use Rattle.dialogue.specs.Bench.{bench_of}
use Rattle.dialogue.specs.declared.Run.TheVariants as run
use Rattle.dialogue.proofs.Machine.{machine_of}
use Rattle.dialogue.proofs.Room.{Short, AllShort, all_short}
use Rattle.dialogue.proofs.Whole.{whole}
use Rattle.session.specs.declared.Session.{Session}
use Rattle.session.specs.declared.Desk.{Desk}
use Rattle.session.specs.Desk.{held_bytes, longest_line, Sized}
use Rattle.session.specs.Session.{start_of, at_byte, spoken_session, laid_out, closing, turn_of, goes_on, turns_of, take_of, end_session, end_out, end_of}
use Rattle.session.specs.Output.{printed, early, printed_so_far}
use Rattle.session.specs.Loop.{laid_bytes}
use Rattle.session.proofs.Laws.{turn_uses, goes_on_inside}
use Rattle.session.proofs.Chunks.{chunk_out, chunks_out, bytes_out, bytes_so_far, concat, WholeBench}
use Rattle.session.proofs.EachTurn.{Good, shown, before, written_said, Gives, take_gives}

-- a run that is over writes nothing more
pub off_chunk : (takes : ℕ) (chunk : List ℕ) (w : Desk) (more : Desk → List ℕ) → ((v : Desk) → v.session.on ≡ false → more v ≡ []) → w.session.on ≡ false
    → chunk_out takes chunk w more ≡ []
unfolding chunk_out when◌then◌else◌
off_chunk zero chunk w more off o = off w o
off_chunk (suc takes) chunk w more off o = rw o

pub off_chunks : (final : Desk → List ℕ) (chunks : List (List ℕ)) (w : Desk) → w.session.on ≡ false → chunks_out final chunks w ≡ []
unfolding chunks_out at_byte when◌then◌else◌
off_chunks final [] w o = rw o
off_chunks final (chunk ∷ chunks) w o = off_chunk (length chunk) chunk _ (chunks_out final chunks) (off_chunks final chunks) o

module _ (view : List (List ℕ) → List (List ℕ) → List ℕ) (Ends : List ℕ → Type 0)
    (step : (line x : List ℕ) (lines more : List (List ℕ)) → view (line ∷ lines) (x ∷ more) ≡ feed_bytes x ++ view lines more)
    (none : (lines : List (List ℕ)) → view lines [] ≡ [])
    (early : (rest x : List ℕ) → Ends rest → held_bytes < length rest → view [] (x ∷ []) ≡ feed_bytes x)
    (final : Desk → List ℕ) (close : (w : Desk) (rest : List ℕ) → Good w → Ends rest → rest ≡ before w → AllShort (shown w [] rest) → final w ≡ view [] (shown w [] rest)) where
  -- nothing of a chunk is left
  used_up : (chunk t : List ℕ) (more : Desk → List ℕ) → ((v : Desk) → Good v → Gives view Ends step none early more v t) → (w : Desk) → Good w → length chunk ≤ w.session.at
      → Gives view Ends step none early more w (drop w.session.at chunk ++ t)
  used_up chunk t more gives w good h lines rest p q a z =
      let d : drop w.session.at chunk ++ t ≡ t = ap (λ (l : List ℕ). l ++ t) (drop_of_length-le chunk {i = w.session.at} h) in
      gives w good lines rest (p ∙ ap (lines_from (before w)) d) (q ∙ ap (rest_from (before w)) d) a z

  -- the takes of a chunk, with as many left as it has bytes left
  takes_give : (takes : ℕ) (chunk t : List ℕ) (more : Desk → List ℕ) → ((v : Desk) → v.session.on ≡ false → more v ≡ [])
      → ((v : Desk) → Good v → Gives view Ends step none early more v t) → (w : Desk) → Good w → w.session.at ≤ length chunk → length chunk ≤ takes + w.session.at
      → Gives view Ends step none early (λ v. chunk_out takes chunk v more) w (drop w.session.at chunk ++ t)
  unfolding chunk_out when◌then◌else◌
  takes_give zero chunk t more off gives w good le h lines rest p q a z = used_up chunk t more gives w good (omega arith) lines rest p q a z
  takes_give (suc takes) chunk t more off gives w good le h lines rest p q a z =
      sym (is_true w.session.on _ _ _ good.on (sym (by (λ v g at k. takes_give takes chunk t more off gives v g at k) (ltb w.session.at (length chunk)) refl)))
    where
      by : ((v : Desk) → Good v → v.session.at ≤ length chunk → length chunk ≤ takes + v.session.at
          → Gives view Ends step none early (λ u. chunk_out takes chunk u more) v (drop v.session.at chunk ++ t))
          → (f : Bool) → ltb w.session.at (length chunk) ≡ f
          → (when f then laid_bytes (take_of chunk w) ++ chunk_out takes chunk (take_of chunk w) more else more w) ≡ view lines (shown w lines rest)
      by next true e =
          take_gives view Ends step none early (λ v. chunk_out takes chunk v more) (λ v o. off_chunk takes chunk v more off o) chunk t w.session.at
          (λ v g lt at. next v g at (omega arith)) w good refl (ltb-true w.session.at (length chunk) e) lines rest p q a z
      by next false e = used_up chunk t more gives w good (ltb-false w.session.at (length chunk) e) lines rest p q a z

  chunks_give : (chunks : List (List ℕ)) (w : Desk) → Good w → Gives view Ends step none early (chunks_out final chunks) w (concat chunks)
  unfolding chunks_out at_byte concat lines_from rest_from when◌then◌else◌
  chunks_give [] w good lines rest p q a z =
      let e = subst (λ (ls : List (List ℕ)). AllShort (shown w ls rest) → final w ≡ view ls (shown w ls rest)) (sym p) (λ b. close w rest good z q b) a in
      sym (is_true w.session.on _ _ _ good.on (sym e))
  chunks_give (chunk ∷ chunks) w good lines rest p q a z =
      takes_give (length chunk) chunk (concat chunks) (chunks_out final chunks) (off_chunks final chunks) (λ v g. chunks_give chunks v g)
      (record w { session = at_byte w.session 0 })
      (record {
        sized = record { held = good.sized.held; request = good.sized.request; outcome = good.sized.outcome; buffer = good.sized.buffer; out = good.sized.out };
        room = good.room;
        on = good.on;
      })
      (omega arith) (omega arith) lines rest p q a z

  gives_bench : (chunks : List (List ℕ)) (w : Desk) → Sized w → w.session ≡ start_of → Ends (rest_from [] (concat chunks))
      → chunks_out final chunks w ≡ view (lines_from [] (concat chunks)) (bench_of (lines_from [] (concat chunks)) (rest_from [] (concat chunks)))
  unfolding start_of
  gives_bench chunks w sized e z =
      let lines : List (List ℕ) = lines_from [] (concat chunks) in
      let rest : List ℕ = rest_from [] (concat chunks) in
      let r : w.session.run ≡ run.Fresh = ap (λ (s : Session). s.run) e in
      let h : before w ≡ [] = ap (λ (s : Session). take s.have w.held) e in
      let n : w.session.have ≡ 0 = ap (λ (s : Session). s.have) e in
      let o : w.session.on ≡ true = ap (λ (s : Session). s.on) e in
      let m : shown w lines rest ≡ bench_of lines rest =
      rw r (whole lines rest w.lent.request w.lent.outcome w.lent.buffer (omega (arith, sized.request)) (omega (arith, sized.outcome)) (omega (arith, sized.buffer))) in
      chunks_give chunks w (record { sized = sized; room = omega arith; on = o }) lines rest (rw h) (rw h) (subst AllShort (sym m) (all_short lines rest)) z ∙ ap (view lines) m

-- the last line, where the input has ended
close_end : (w : Desk) (rest : List ℕ) → Good w → Unit {0} → rest ≡ before w → AllShort (shown w [] rest) → laid_bytes (end_of w) ≡ feeds (shown w [] rest)
unfolding end_of end_session end_out spoken_session laid_out closing machine_of feeds dialogue.bytes_said when◌then◌else◌
close_end w rest good z e a =
    let x = dialogue.close_of w.session.run (before w) w.lent.buffer in
    let short : Short x = rw e at a.0 in
    rw (e, good.on)
    (written_said (last x) w.session.run w.session.at 0 w.held w.lent.request w.lent.outcome w.lent.buffer w.lent.out short (omega (arith, good.sized.out)) ∙ sym (append-nil (feed_bytes x)))

step_so_far : (n : ℕ) (line x : List ℕ) (lines more : List (List ℕ)) → feeds (take (length (line ∷ lines) + n) (x ∷ more)) ≡ feed_bytes x ++ feeds (take (length lines + n) more)
unfolding feeds
step_so_far n line x lines more =
    let q : suc (length lines) + n ≡ suc (length lines + n) = omega arith in
    rw q

none_so_far : (lines : List (List ℕ)) (n : ℕ) → feeds (take (length lines + n) []) ≡ []
unfolding feeds
none_so_far lines n = rw (take-nil {A = List ℕ} (length lines + n))

-- nothing more is laid_bytes where the line that is begun has room
early_none : (rest : List ℕ) → length rest ≤ held_bytes → early rest ≡ 0
unfolding early when◌then◌else◌
early_none rest h = rw (le-ltb held_bytes (length rest) h)

early_one : (rest : List ℕ) → held_bytes < length rest → early rest ≡ 1
unfolding early when◌then◌else◌
early_one rest h = rw (lt-ltb held_bytes (length rest) h)

one_so_far : (whole rest x : List ℕ) → rest ≡ whole → held_bytes < length rest → feeds (take (length {A = List ℕ} [] + early whole) (x ∷ [])) ≡ feed_bytes x
unfolding feeds
one_so_far whole rest x z h =
    let q : early whole ≡ 1 = ap early (sym z) ∙ early_one rest h in
    rw q (append-nil (feed_bytes x))

close_so_far : (w : Desk) (whole rest : List ℕ) → Good w → rest ≡ whole → rest ≡ before w → [] ≡ feeds (take (length {A = List ℕ} [] + early whole) (shown w [] rest))
unfolding feeds
close_so_far w whole rest good z e =
    let n : length rest ≡ w.session.have = ap length e ∙ length-take-le w.session.have w.held (omega (arith, good.room, good.sized.held)) in
    let q : early whole ≡ 0 = ap early (sym z) ∙ early_none rest (omega (arith, good.room)) in
    rw q

-- the first turn of a `take` uses a byte at least, and no turn after it goes back
turns_stay : (turns : ℕ) (chunk : List ℕ) (w : Desk) → w.session.at ≤ (turns_of turns chunk w).session.at
unfolding turns_of when◌then◌else◌
turns_stay zero chunk w = omega arith
turns_stay (suc turns) chunk w = by (turns_stay turns chunk (turn_of chunk w)) (goes_on w.session.on w.session.at (length chunk) w.session.laid (length w.lent.out)) refl
  where
    by : (turn_of chunk w).session.at ≤ (turns_of turns chunk (turn_of chunk w)).session.at
        → (f : Bool) → goes_on w.session.on w.session.at (length chunk) w.session.laid (length w.lent.out) ≡ f
        → w.session.at ≤ (when f then turns_of turns chunk (turn_of chunk w) else w).session.at
    by next true e =
        let g = goes_on_inside w.session.on w.session.at (length chunk) w.session.laid (length w.lent.out) e in
        omega (arith, turn_uses chunk w g.1, next)
    by next false e = omega arith

pub take_uses : (chunk : List ℕ) (w : Desk) → longest_line ≤ length w.lent.out → w.session.on ≡ true → w.session.at < length chunk
    → w.session.at < (take_of chunk w).session.at
unfolding take_of turns_of at_byte goes_on when◌then◌else◌
take_uses chunk w room o inside = by (length chunk) refl
  where
    fresh : Desk
    fresh = record w { session = at_byte w.session w.session.at }

    goes : goes_on w.session.on w.session.at (length chunk) 0 (length w.lent.out) ≡ true
    goes = rw (o, lt-ltb w.session.at (length chunk) inside) (le-leb (0 + longest_line) (length w.lent.out) (omega arith))

    by : (n : ℕ) → length chunk ≡ n → w.session.at < (turns_of n chunk fresh).session.at
    by zero e = absurd (omega arith)
    by (suc turns) e = rw goes (omega (arith, turn_uses chunk fresh inside, turns_stay turns chunk (turn_of chunk fresh)))

-- what the chunks give
pub whole_bench : WholeBench
unfolding bytes_out bytes_so_far printed printed_so_far feeds
whole_bench = record {
  whole = λ chunks w sized e.
      gives_bench (λ lines more. feeds more) (λ rest. Unit {0}) (λ line x lines more. refl) (λ lines. refl) (λ rest x z h. append-nil (feed_bytes x))
      (λ v. laid_bytes (end_of v)) close_end chunks w sized e tt;
  at_once = λ chunks w sized e.
      let rest : List ℕ = rest_from [] (concat chunks) in
      gives_bench (λ lines more. feeds (take (length lines + early rest) more)) (λ r. r ≡ rest) (step_so_far (early rest)) (λ lines. none_so_far lines (early rest))
      (λ r x z h. one_so_far rest r x z h)
      (λ v. []) (λ v r good z e a. close_so_far v rest r good z e) chunks w sized e refl;
}
