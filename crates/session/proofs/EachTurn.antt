-- A turn lays what the line that it ends gives after what is laid, and leaves what the lines after it will give.
-- Assumes nothing.
use Prim.Native.Nat.{ℕ, zero, suc, ◌+◌, ◌-◌, ◌*◌, ◌≤◌, ◌<◌}
use mathlib.Core.Path.{◌≡◌, refl, sym, ap, subst, ◌∙◌}
use mathlib.Core.Bool.{Bool, true, false}
use mathlib.Core.List.{List, [], ◌∷◌, ◌++◌, append-nil, append_assoc}
use mathlib.Core.Logic.{⊎_elim}
use native.Mathlib.Omega.{arith}
use lib.ListN.{length, take, drop, length-drop}
use lib.Seq.{length-take-le, take_all, take-append-add, drop-length, drop-drop}
use lib.Dec.{ltb, leb, eqb}
use borrow.Author.Tests.{lt-ltb, le-leb, ltb-true, ltb-false, leb-true, leb-false, eqb-true}
use Rattle.hexadecimal.specs.Line.{feed_bytes}
use Rattle.protocol.specs.Pick.{when◌then◌else◌}
use Rattle.protocol.specs.Bytes.{stored_at}
use Rattle.printing.specs.Printing.{printed_of, out_printed}
use Rattle.lines.specs.Input.{lines_from, rest_from}
use Rattle.lines.specs.Lines.{before_feed, took_by, took_of, kept_of, held_after}
use Rattle.lines.specs.declared.Took.{Took}
use Rattle.lines.specs.declared.Took.TheVariants as took
use Rattle.lines.proofs.Laws.{take_before}
use Rattle.lines.proofs.Any.{lines_append, rest_append, lines_more, lines_whole, held_more, held_long}
use Rattle.dialogue.specs.Dialogue as dialogue
use Rattle.dialogue.specs.Dialogue.{Saying, asked, last, bytes_said, said_of}
use Rattle.dialogue.specs.Bench.{then_say}
use Rattle.dialogue.specs.declared.Run.{Run}
use Rattle.dialogue.proofs.Kept.{length_stored}
use Rattle.dialogue.proofs.Machine.{machine_of}
use Rattle.dialogue.proofs.Room.{Short, AllShort, printed_whole}
use Rattle.session.specs.declared.Desk.{Desk}
use Rattle.session.specs.Desk.{desk, held_bytes, longest_line, Sized}
use Rattle.session.specs.Session.{used_up, said_session, spoken_session, laid_out, closing, answer_session, answer_lent, line_of, close_session, close_lent, close_desk, turn_by, turn_of, goes_on, turns_of, at_byte, take_of}
use Rattle.session.specs.Loop.{laid_bytes}
use Rattle.session.proofs.Laws.{goes_on_inside}
use Rattle.session.proofs.Kept.{length_request, length_outcome, length_buffer, length_laid}
use Rattle.session.proofs.Long.{long_says, close_front, long_front, first_line}

-- the sizes and what is held of a line are as they should be, and the run goes on
pub record Good (w : Desk) : Type 0 where
  pub sized : Sized w
  pub room : w.session.have ≤ held_bytes
  pub on : w.session.on ≡ true

-- what the machine gives from a desk on, for the lines that are left
abbrev pub shown : Desk → List (List ℕ) → List ℕ → List (List ℕ)
shown w lines rest = machine_of w.session.run w.lent.request w.lent.outcome w.lent.buffer lines rest

-- what came of a line before
abbrev pub before : Desk → List ℕ
before w = take w.session.have w.held

-- a line that has no room is answered
abbrev too_long : ℕ → List ℕ → Desk → Desk
too_long n H w = close_desk H n H w

said_size : (say : Saying) (room : ℕ) (r : Run) (at laid : ℕ) → (said_session (said_of say room) r at laid).laid ≡ laid + printed_of (bytes_said say) room
unfolding said_session said_of bytes_said
said_size (asked s) room r at laid = refl
said_size (last s) room r at laid = refl

-- a short line is laid whole after what is laid
pub written_said : (say : Saying) (r : Run) (at laid : ℕ) (H R Y B O : List ℕ) → Short (bytes_said say) → laid + longest_line ≤ length O
    → laid_bytes (desk (said_session (said_of say (length O - laid)) r at laid) H R Y B (take laid O ++ out_printed (bytes_said say) (drop laid O))) ≡ take laid O ++ feed_bytes (bytes_said say)
unfolding laid_bytes
written_said say r at laid H R Y B O h room = ap (λ (n : ℕ). take n (take laid O ++ out_printed x (drop laid O))) size ∙ take-append-add (take laid O) _ (length (feed_bytes x)) ∙ ap (λ (l : List ℕ). take laid O ++ l) whole.1
  where
    x : List ℕ
    x = bytes_said say

    front : length (take laid O) ≡ laid
    front = length-take-le laid O (omega arith)

    whole : (printed_of x (length (drop laid O)) ≡ length (feed_bytes x)) × (take (length (feed_bytes x)) (out_printed x (drop laid O)) ≡ feed_bytes x)
    whole = printed_whole x (drop laid O) h (omega (arith, length-drop laid O))

    size : (said_session (said_of say (length O - laid)) r at laid).laid ≡ length (take laid O) + length (feed_bytes x)
    size = said_size say (length O - laid) r at laid ∙ rw (front, ← whole.0, length-drop)

-- how much of what the machine gives is looked at, and at which inputs
module _ (view : List (List ℕ) → List (List ℕ) → List ℕ) (Ends : List ℕ → Type 0)
    (step : (line x : List ℕ) (lines more : List (List ℕ)) → view (line ∷ lines) (x ∷ more) ≡ feed_bytes x ++ view lines more)
    (none : (lines : List (List ℕ)) → view lines [] ≡ [])
    (early : (rest x : List ℕ) → Ends rest → held_bytes < length rest → view [] (x ∷ []) ≡ feed_bytes x) where
  -- what is laid_bytes from a desk on, once what is laid is laid_bytes, is what the lines that are left give
  abbrev pub Gives : (Desk → List ℕ) → Desk → List ℕ → Type 0
  Gives G w input = (lines : List (List ℕ)) (rest : List ℕ) → lines ≡ lines_from (before w) input → rest ≡ rest_from (before w) input
      → AllShort (shown w lines rest) → Ends rest → G w ≡ view lines (shown w lines rest)

  -- the same with what is laid
  abbrev pub Lays : (Desk → List ℕ) → Desk → List ℕ → Type 0
  Lays G w input = (lines : List (List ℕ)) (rest : List ℕ) → lines ≡ lines_from (before w) input → rest ≡ rest_from (before w) input
      → AllShort (shown w lines rest) → Ends rest → G w ≡ laid_bytes w ++ view lines (shown w lines rest)

  module _ (G : Desk → List ℕ) (off : (v : Desk) → v.session.on ≡ false → G v ≡ laid_bytes v) where
    said_lays : (say : Saying) (r : Run) (at laid : ℕ) (H R Y B O line : List ℕ) (lines more : List (List ℕ)) → laid + longest_line ≤ length O → AllShort (then_say say more)
        → ((p : ℕ) → AllShort more
        → G (desk (record { run = r; have = 0; at = at; laid = p; on = true }) H R Y B (take laid O ++ out_printed (bytes_said say) (drop laid O)))
        ≡ laid_bytes (desk (record { run = r; have = 0; at = at; laid = p; on = true }) H R Y B (take laid O ++ out_printed (bytes_said say) (drop laid O))) ++ view lines more)
        → G (desk (said_session (said_of say (length O - laid)) r at laid) H R Y B (take laid O ++ out_printed (bytes_said say) (drop laid O))) ≡ take laid O ++ view (line ∷ lines) (then_say say more)
    unfolding then_say said_session said_of bytes_said
    said_lays (asked s) r at laid H R Y B O line lines more e a go =
        go _ a.1 ∙ rw (written_said (asked s) r at laid H R Y B O a.0 e, append_assoc) (ap (λ (l : List ℕ). take laid O ++ l) (sym (step line s lines more)))
    said_lays (last s) r at laid H R Y B O line lines more e a go =
        off _ refl ∙ written_said (last s) r at laid H R Y B O a.0 e
        ∙ ap (λ (l : List ℕ). take laid O ++ l) (sym (step line s lines [] ∙ rw (none lines) (append-nil (feed_bytes s))))

    module _ (chunk t : List ℕ) (w : Desk) (good : Good w) (inside : w.session.at < length chunk) (fits : w.session.laid + longest_line ≤ length w.lent.out)
        (go : (v : Desk) → Good v → w.session.at < v.session.at → v.session.at ≤ length chunk → Lays G v (drop v.session.at chunk ++ t)) where
      -- a line is whole
      turn_line : (line H : List ℕ) (next : ℕ) (lines : List (List ℕ)) (rest : List ℕ) → length H ≡ held_bytes → w.session.at < next → next ≤ length chunk
          → lines ≡ lines_from [] (drop next chunk ++ t) → rest ≡ rest_from [] (drop next chunk ++ t) → AllShort (shown w (line ∷ lines) rest) → Ends rest
          → G (line_of line next H w) ≡ laid_bytes w ++ view (line ∷ lines) (shown w (line ∷ lines) rest)
      unfolding line_of answer_session answer_lent spoken_session laid_out machine_of laid_bytes
      turn_line line H next lines rest h lt le p q a z =
          let s = dialogue.answer_of w.session.run line w.lent.request w.lent.outcome w.lent.buffer in
          let R = dialogue.request_after w.session.run line w.lent.request in
          let Y = dialogue.outcome_after w.session.run line w.lent.outcome in
          let B = dialogue.buffer_after w.session.run line w.lent.request w.lent.outcome w.lent.buffer in
          said_lays s.saying s.run next w.session.laid H R Y B w.lent.out line lines _ fits a
          (λ k m.
          go _
          (record {
            sized = record {
              held = h;
              request = length_request w.session.run line w.lent.request ∙ good.sized.request;
              outcome = length_outcome w.session.run line w.lent.outcome ∙ good.sized.outcome;
              buffer = length_buffer w.session.run line w.lent.request w.lent.outcome w.lent.buffer ∙ good.sized.buffer;
              out = length_laid w.session.laid (bytes_said s.saying) w.lent.out (omega arith) ∙ good.sized.out;
            };
            room = omega arith;
            on = refl;
          })
          lt le lines rest p q m z)

      -- the chunk is used up
      turn_more : (H : List ℕ) (k : ℕ) → length H ≡ held_bytes → k ≤ held_bytes → take k H ≡ before w ++ drop w.session.at chunk
          → length (drop w.session.at chunk) ≤ length (before_feed (drop w.session.at chunk))
          → Lays (λ v. G (record v { session = used_up v.session.run k (length chunk) v.session.laid; held = H })) w (drop w.session.at chunk ++ t)
      unfolding used_up laid_bytes
      turn_more H k h le e none_left lines rest p q a z =
          let s = drop w.session.at chunk in
          let m = lines_more s (before w) none_left in
          let d : drop (length chunk) chunk ++ t ≡ t = rw drop-length in
          let x : lines_from (before w) (s ++ t) ≡ lines_from (take k H) (drop (length chunk) chunk ++ t) = rw (lines_append s t (before w), m.0, m.1, e, d) in
          let y : rest_from (before w) (s ++ t) ≡ rest_from (take k H) (drop (length chunk) chunk ++ t) = rw (rest_append s t (before w), m.1, e, d) in
          go (record w { session = record { run = w.session.run; have = k; at = length chunk; laid = w.session.laid; on = true }; held = H })
          (record {
            sized = record { held = h; request = good.sized.request; outcome = good.sized.outcome; buffer = good.sized.buffer; out = good.sized.out };
            room = le;
            on = refl;
          })
          inside (omega arith) lines rest (p ∙ x) (q ∙ y) a z

      -- a line has no room: H is as much of it as has
      closed : (H : List ℕ) (n : ℕ) → Short (dialogue.close_of w.session.run H w.lent.buffer)
          → G (too_long n H w) ≡ laid_bytes w ++ feed_bytes (dialogue.close_of w.session.run H w.lent.buffer)
      unfolding close_desk close_session close_lent spoken_session laid_out closing laid_bytes said_session said_of bytes_said
      closed H n short =
          off _ refl ∙ written_said (last (dialogue.close_of w.session.run H w.lent.buffer)) w.session.run n w.session.laid H w.lent.request w.lent.outcome w.lent.buffer w.lent.out short fits

      -- it is answered as the whole line would be
      same_close : (H line : List ℕ) → held_bytes < length line → H ≡ take held_bytes line
          → dialogue.close_of w.session.run line w.lent.buffer ≡ dialogue.close_of w.session.run H w.lent.buffer
      same_close H line m h =
          sym (ap (λ (l : List ℕ). dialogue.close_of w.session.run l w.lent.buffer) h ∙ close_front w.session.run line w.lent.buffer held_bytes (omega arith) (omega arith))

      -- its line feed never comes
      long_rest : (H : List ℕ) (n : ℕ) (rest : List ℕ) → held_bytes < length rest → H ≡ take held_bytes rest → AllShort (shown w [] rest) → Ends rest
          → G (too_long n H w) ≡ laid_bytes w ++ view [] (shown w [] rest)
      unfolding machine_of
      long_rest H n rest m h a z =
          let c = same_close H rest m h in
          let short : Short (dialogue.close_of w.session.run H w.lent.buffer) = rw c at a.0 in
          rw c (closed H n short ∙ ap (λ (l : List ℕ). laid_bytes w ++ l) (sym (early rest _ z m)))

      -- its line feed comes later
      long_line : (H : List ℕ) (n : ℕ) (line : List ℕ) (lines : List (List ℕ)) (rest : List ℕ) → held_bytes < length line → H ≡ take held_bytes line
          → AllShort (shown w (line ∷ lines) rest) → G (too_long n H w) ≡ laid_bytes w ++ view (line ∷ lines) (shown w (line ∷ lines) rest)
      unfolding machine_of then_say
      long_line H n line lines rest m h a =
          let x : List ℕ = dialogue.close_of w.session.run H w.lent.buffer in
          let r : length w.lent.request * 2 < length line = omega (arith, good.sized.request) in
          let y : length w.lent.outcome * 2 < length line = omega (arith, good.sized.outcome) in
          let k : shown w (line ∷ lines) rest ≡ x ∷ [] = rw (long_says w.session.run line w.lent.request w.lent.outcome w.lent.buffer r y) (ap (λ (l : List ℕ). l ∷ []) (same_close H line m h)) in
          let short : AllShort (x ∷ []) = subst AllShort k a in
          closed H n short.0 ∙ ap (λ (l : List ℕ). laid_bytes w ++ l) (sym (ap (view (line ∷ lines)) k ∙ step line x lines [] ∙ rw (none lines) (append-nil (feed_bytes x))))

      turn_long : (H : List ℕ) (n : ℕ) → held_bytes < length (before w) + length (before_feed (drop w.session.at chunk))
          → H ≡ take held_bytes (before w ++ before_feed (drop w.session.at chunk)) → Lays (λ v. G (too_long n H v)) w (drop w.session.at chunk ++ t)
      turn_long H n long front lines rest p q a z =
          let f = long_front (before w) (drop w.session.at chunk) t held_bytes long in
          let h = front ∙ sym f.0 in
          ⊎_elim
          (λ c.
          let e : [] ≡ lines = sym (p ∙ c.0) in
          let r = sym (q ∙ c.1) in
          let m : held_bytes < length rest = subst (λ (l : List ℕ). held_bytes < length l) r f.1 in
          subst (λ (ls : List (List ℕ)). AllShort (shown w ls rest) → G (too_long n H w) ≡ laid_bytes w ++ view ls (shown w ls rest)) e
          (λ b. long_rest H n rest m (h ∙ ap (take held_bytes) r) b z) a)
          (λ c.
          subst (λ (ls : List (List ℕ)). AllShort (shown w ls rest) → G (too_long n H w) ≡ laid_bytes w ++ view ls (shown w ls rest)) (sym (p ∙ c)) (λ b. long_line H n _ _ rest f.1 h b) a)
          (first_line (before w) (drop w.session.at chunk ++ t))

      -- a line feed comes: the line that is whole, where it stands
      turn_whole : (line H : List ℕ) → length H ≡ held_bytes → line ≡ before w ++ before_feed (drop w.session.at chunk)
          → length (before_feed (drop w.session.at chunk)) < length (drop w.session.at chunk)
          → Lays (λ v. G (line_of line (v.session.at + length (before_feed (drop v.session.at chunk)) + 1) H v)) w (drop w.session.at chunk ++ t)
      turn_whole line H size h n lines rest p q a z =
          let s = drop w.session.at chunk in
          let k = length (before_feed s) in
          let m = lines_whole s (before w) n in
          let next : ℕ = w.session.at + k + 1 in
          let c : w.session.at + suc k ≡ next = omega arith in
          let i : drop (suc k) s ≡ drop next chunk = drop-drop (suc k) w.session.at chunk ∙ ap (λ (j : ℕ). drop j chunk) c in
          let x : lines_from (before w) (s ++ t) ≡ line ∷ lines_from [] (drop next chunk ++ t) =
          lines_append s t (before w) ∙ rw (m.0, m.1, h, ← i) (ap (λ (l : List (List ℕ)). (before w ++ before_feed s) ∷ l) (sym (lines_append (drop (suc k) s) t []))) in
          let y : rest_from (before w) (s ++ t) ≡ rest_from [] (drop next chunk ++ t) =
          rest_append s t (before w) ∙ rw (m.1, ← i) (sym (rest_append (drop (suc k) s) t [])) in
          subst (λ (ls : List (List ℕ)). AllShort (shown w ls rest) → G (line_of line next H w) ≡ laid_bytes w ++ view ls (shown w ls rest)) (sym (p ∙ x))
          (λ b. turn_line line H next (lines_from [] (drop next chunk ++ t)) rest size (omega arith) (omega (arith, length-drop w.session.at chunk)) refl (q ∙ y) b z)
          a

      -- one turn
      turn : Lays (λ v. G (turn_of chunk v)) w (drop w.session.at chunk ++ t)
      unfolding turn_of turn_by held_after kept_of took_of took_by when◌then◌else◌
      turn lines rest p q a z =
          by (ltb (length w.held) (w.session.have + k)) refl (leb (length chunk - w.session.at) k) refl (eqb w.session.have 0) refl
        where
          s : List ℕ
          s = drop w.session.at chunk

          k : ℕ
          k = length (before_feed s)

          stored : List ℕ
          stored = stored_at w.session.have k (before_feed s) w.held

          size : length stored ≡ held_bytes
          size = length_stored w.session.have k (before_feed s) w.held ∙ good.sized.held

          brought : Bool → Bool → Bool → Took
          brought f g i =
              when f then took.Long else when g then took.More (w.session.have + k) else
              when i then took.Here k (w.session.at + k + 1) else took.Held (w.session.have + k) (w.session.at + k + 1)

          by : (f : Bool) → ltb (length w.held) (w.session.have + k) ≡ f → (g : Bool) → leb (length chunk - w.session.at) k ≡ g → (i : Bool) → eqb w.session.have 0 ≡ i
              → G (turn_by (brought f g i) chunk (kept_of (brought f g i) (before_feed s) w.held w.session.have) w) ≡ laid_bytes w ++ view lines (shown w lines rest)
          by true e g d i o =
              let l : length (before w) ≡ w.session.have = length-take-le w.session.have w.held (omega (arith, good.sized.held, good.room)) in
              let over = ltb-true (length w.held) (w.session.have + k) e in
              let h : stored ≡ take held_bytes (before w ++ before_feed s) =
              held_long (before_feed s) w.held w.session.have (omega (arith, good.room, good.sized.held)) (omega (arith, over)) ∙ ap (λ (j : ℕ). take j (before w ++ before_feed s)) good.sized.held in
              turn_long stored (length chunk) (omega (arith, over, good.sized.held)) h lines rest p q a z
          by false e true d i o =
              let f : w.session.have + k ≤ length w.held = ltb-false (length w.held) (w.session.have + k) e in
              let n : length s ≤ k = omega (arith, leb-true (length chunk - w.session.at) k d, length-drop w.session.at chunk) in
              let b : before_feed s ≡ s = sym (take_before s) ∙ take_all k s n in
              let h : take (w.session.have + k) stored ≡ before w ++ s = held_more (before_feed s) w.held w.session.have f ∙ ap (λ (l : List ℕ). before w ++ l) b in
              turn_more stored (w.session.have + k) size (omega (arith, good.sized.held)) h n lines rest p q a z
          by false e false d true o =
              let n : k < length s = omega (arith, leb-false (length chunk - w.session.at) k d, length-drop w.session.at chunk) in
              let none-held : w.session.have ≡ 0 = eqb-true w.session.have 0 o in
              let h : take k s ≡ before w ++ before_feed s = rw none-held (take_before s) in
              turn_whole (take k s) w.held good.sized.held h n lines rest p q a z
          by false e false d false o =
              let f : w.session.have + k ≤ length w.held = ltb-false (length w.held) (w.session.have + k) e in
              let n : k < length s = omega (arith, leb-false (length chunk - w.session.at) k d, length-drop w.session.at chunk) in
              turn_whole (take (w.session.have + k) stored) stored size (held_more (before_feed s) w.held w.session.have f) n lines rest p q a z

  module _ (M : Desk → List ℕ) (off : (v : Desk) → v.session.on ≡ false → M v ≡ []) (chunk t : List ℕ) (m : ℕ)
      (go : (v : Desk) → Good v → m < v.session.at → v.session.at ≤ length chunk → Gives M v (drop v.session.at chunk ++ t)) where
    -- the bytes that are laid, and those that come after them
    abbrev both : Desk → List ℕ
    both v = laid_bytes v ++ M v

    off_turns : (turns : ℕ) (v : Desk) → v.session.on ≡ false → both (turns_of turns chunk v) ≡ laid_bytes v
    unfolding turns_of goes_on when◌then◌else◌
    off_turns zero v o = rw (off v o) (append-nil (laid_bytes v))
    off_turns (suc turns) v o =
        let e : goes_on v.session.on v.session.at (length chunk) v.session.laid (length v.lent.out) ≡ false =
        ap (λ (b : Bool). goes_on b v.session.at (length chunk) v.session.laid (length v.lent.out)) o in
        rw (e, off v o) (append-nil (laid_bytes v))

    -- turn after turn
    turns_lay : (turns : ℕ) (w : Desk) → Good w → m < w.session.at → w.session.at ≤ length chunk
        → Lays (λ v. both (turns_of turns chunk v)) w (drop w.session.at chunk ++ t)
    unfolding turns_of when◌then◌else◌
    turns_lay zero w good lt le lines rest p q a z = ap (λ (l : List ℕ). laid_bytes w ++ l) (go w good lt le lines rest p q a z)
    turns_lay (suc turns) w good lt le lines rest p q a z =
        by (λ v g l k. turns_lay turns v g l k) (goes_on w.session.on w.session.at (length chunk) w.session.laid (length w.lent.out)) refl
      where
        by : ((v : Desk) → Good v → m < v.session.at → v.session.at ≤ length chunk → Lays (λ u. both (turns_of turns chunk u)) v (drop v.session.at chunk ++ t))
            → (f : Bool) → goes_on w.session.on w.session.at (length chunk) w.session.laid (length w.lent.out) ≡ f
            → both (when f then turns_of turns chunk (turn_of chunk w) else w) ≡ laid_bytes w ++ view lines (shown w lines rest)
        by next true e =
            let g = goes_on_inside w.session.on w.session.at (length chunk) w.session.laid (length w.lent.out) e in
            turn (λ v. both (turns_of turns chunk v)) (off_turns turns) chunk t w good g.1 g.2 (λ v k l n. next v k (omega arith) n) lines rest p q a z
        by next false e = ap (λ (l : List ℕ). laid_bytes w ++ l) (go w good lt le lines rest p q a z)

    -- one `take`: it makes a turn at least
    pub take_gives : (w : Desk) → Good w → m ≡ w.session.at → w.session.at < length chunk → Gives (λ v. both (take_of chunk v)) w (drop w.session.at chunk ++ t)
    unfolding take_of turns_of at_byte laid_bytes goes_on when◌then◌else◌
    take_gives w good start inside lines rest p q a z = by (length chunk) refl
      where
        fresh : Desk
        fresh = record w { session = at_byte w.session w.session.at }

        ready : Good fresh
        ready = record {
          sized = record { held = good.sized.held; request = good.sized.request; outcome = good.sized.outcome; buffer = good.sized.buffer; out = good.sized.out };
          room = good.room;
          on = good.on;
        }

        room : 0 + longest_line ≤ length w.lent.out
        room = omega (arith, good.sized.out)

        goes : goes_on w.session.on w.session.at (length chunk) 0 (length w.lent.out) ≡ true
        goes = rw (good.on, lt-ltb w.session.at (length chunk) inside) (le-leb (0 + longest_line) (length w.lent.out) room)

        by : (n : ℕ) → length chunk ≡ n → both (turns_of n chunk fresh) ≡ view lines (shown w lines rest)
        by zero e = absurd (omega arith)
        by (suc turns) e =
            rw goes
            (turn (λ v. both (turns_of turns chunk v)) (off_turns turns) chunk t fresh ready inside room (λ v g l k. turns_lay turns v g (omega arith) k) lines rest p q a z)
