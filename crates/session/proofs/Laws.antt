-- A line laid after others, and a turn put together from what its calls gave.
-- Assumes nothing.
use Prim.Native.Nat.{ℕ, zero, suc, ◌+◌, ◌-◌, ◌*◌, ◌≤◌, ◌<◌}
use mathlib.Core.Path.{◌≡◌, refl, sym, ap, subst, ◌∙◌}
use mathlib.Core.Bool.{Bool, true, false}
use mathlib.Core.List.{List, ◌++◌}
use native.Mathlib.Omega.{arith}
use lib.ListN.{length, take, drop, length-drop}
use lib.Seq.{take_all}
use lib.Dec.{ltb, leb, eqb}
use borrow.Author.Tests.{ltb-true, leb-true, leb-false, le-leb, lt-leb}
use Rattle.hexadecimal.specs.Line.{feed_bytes}
use Rattle.protocol.specs.Pick.{when◌then◌else◌}
use Rattle.protocol.proofs.Laws.{lent_back}
use Rattle.printing.specs.Printing.{printed_of}
use Rattle.printing.proofs.Laws.{length_feed}
use Rattle.lines.specs.Lines.{before_feed, took_by, took_of, held_after}
use Rattle.lines.specs.declared.Took.{Took}
use Rattle.lines.specs.declared.Took.TheVariants as took
use Rattle.dialogue.specs.Dialogue.{Saying, asked, last, Spoken, said_of, turned_of}
use Rattle.dialogue.specs.declared.Run.{Run}
use Rattle.dialogue.specs.declared.Said.TheVariants as said
use Rattle.dialogue.specs.declared.Turned.{Turned}
use Rattle.session.specs.declared.Session.{Session}
use Rattle.session.specs.declared.Lent.{Lent}
use Rattle.session.specs.declared.Desk.{Desk}
use Rattle.session.specs.Desk.{longest_line}
use Rattle.session.specs.Session.{used_up, said_session, spoken_session, answer_session, answer_lent, line_of, close_session, close_lent, close_desk, turn_by, turn_of, goes_on, turns_of}

-- the part of an array of `size` bytes that comes after the laid bytes is lent, and comes back
module _ (out : List ℕ) (laid size : ℕ) (fits : length out ≡ size) where
  -- it is all that is left
  all_after : take (size - laid) (drop laid out) ≡ drop laid out
  all_after = take_all (size - laid) (drop laid out) (omega (arith, length-drop laid out))

  part_room : length (take (size - laid) (drop laid out)) ≡ length out - laid
  part_room = ap length all_after ∙ length-drop laid out

  pub part_turned : (s : Spoken) (t : Turned) → t ≡ turned_of s (length (take (size - laid) (drop laid out)))
      → t ≡ record { run = s.run; said = said_of s.saying (length out - laid) }
  unfolding turned_of
  part_turned s t e = e ∙ rw part_room

  pub part_printed : (s : List ℕ) (n : ℕ) → n ≡ printed_of s (length (take (size - laid) (drop laid out))) → n ≡ printed_of s (length out - laid)
  part_printed s n e = e ∙ rw part_room

  pub part_back : (g : List ℕ → List ℕ) (ys : List ℕ) → ys ≡ g (take (size - laid) (drop laid out))
      → take laid out ++ (ys ++ drop (size - laid) (drop laid out)) ≡ take laid out ++ g (drop laid out)
  part_back g ys e =
      subst
      (λ (n : ℕ). ys ≡ g (take (n - laid) (drop laid out)) → take laid out ++ (ys ++ drop (n - laid) (drop laid out)) ≡ take laid out ++ g (drop laid out))
      fits (lent_back g laid out ys) e

-- no more is printed than there is room for
pub printed_room : (s : List ℕ) (room : ℕ) → printed_of s room ≤ room
unfolding printed_of when◌then◌else◌
printed_room s room = by (leb (length s * 2 + 1) room) refl
  where
    by : (t : Bool) → leb (length s * 2 + 1) room ≡ t → (when t then length (feed_bytes s) else 0) ≤ room
    by true e = omega (arith, leb-true (length s * 2 + 1) room e, length_feed s)
    by false e = omega arith

pub asked_room : (s : Saying) (room n : ℕ) → said.Asked n ≡ said_of s room → n ≤ room
unfolding said_of
asked_room (asked s) room n e = let q : n ≡ printed_of s room = cc in omega (arith, printed_room s room)
asked_room (last s) room n e = absurd (let z : ◌≡◌ {A = ℕ} 0 1 = cc in omega arith)

pub last_room : (s : Saying) (room n : ℕ) → said.Last n ≡ said_of s room → n ≤ room
unfolding said_of
last_room (asked s) room n e = absurd (let z : ◌≡◌ {A = ℕ} 0 1 = cc in omega arith)
last_room (last s) room n e = let q : n ≡ printed_of s room = cc in omega (arith, printed_room s room)

-- what a line that is answered gives
abbrev Answered : Desk → List ℕ → ℕ → Session → Lent → Type 0
Answered w line next r lent = (r ≡ answer_session w.session line next w.lent) × (lent ≡ answer_lent w.session line w.lent)

module _ (chunk : List ℕ) (w : Desk) (u : Took) (held : List ℕ)
    (took-as : u ≡ took_of chunk w.session.at (length w.held) w.session.have) (held-as : held ≡ held_after chunk w.session.at w.held w.session.have) where
  -- a line lay whole in the chunk
  pub took_here : (r : Session) (lent : Lent) (line : List ℕ) (len next : ℕ) → u ≡ took.Here len next → line ≡ take len (drop w.session.at chunk)
      → Answered w line next r lent → record { session = r; held = held; lent = lent } ≡ turn_of chunk w
  unfolding turn_of turn_by line_of
  took_here r lent line len next e l a = rw (← took-as, e, ← held-as, ← l, a.0, a.1)

  -- a line was whole with what was held
  pub took_held : (r : Session) (lent : Lent) (line : List ℕ) (len next : ℕ) → u ≡ took.Held len next → line ≡ take len held
      → Answered w line next r lent → record { session = r; held = held; lent = lent } ≡ turn_of chunk w
  unfolding turn_of turn_by line_of
  took_held r lent line len next e l a = rw (← took-as, e, ← held-as, ← l, a.0, a.1)

  -- the chunk was used up
  pub took_more : (r : Session) (have : ℕ) → u ≡ took.More have → r ≡ used_up w.session.run have (length chunk) w.session.laid
      → record w { session = r; held = held } ≡ turn_of chunk w
  unfolding turn_of turn_by
  took_more r have e p = rw (← took-as, e, ← held-as, p)

  -- a line had no room
  pub took_long : (r : Session) (lent : Lent) → u ≡ took.Long
      → (r ≡ close_session w.session held (length chunk) w.lent) × (lent ≡ close_lent w.session held w.lent)
      → record { session = r; held = held; lent = lent } ≡ turn_of chunk w
  unfolding turn_of turn_by close_desk
  took_long r lent e p = rw (← took-as, e, ← held-as, p.0, p.1)

at_said : (s : Saying) (room : ℕ) (r : Run) (at laid : ℕ) → (said_session (said_of s room) r at laid).at ≡ at
unfolding said_session said_of
at_said (asked s) room r at laid = refl
at_said (last s) room r at laid = refl

-- a turn goes past a line feed, or to the end of the chunk
pub turn_uses : (chunk : List ℕ) (w : Desk) → w.session.at < length chunk → w.session.at < (turn_of chunk w).session.at
unfolding turn_of turn_by line_of answer_session close_desk close_session spoken_session used_up took_of took_by when◌then◌else◌
turn_uses chunk w h =
    by (ltb (length w.held) (w.session.have + length (before_feed (drop w.session.at chunk))))
    (leb (length chunk - w.session.at) (length (before_feed (drop w.session.at chunk)))) (eqb w.session.have 0)
  where
    k : ℕ
    k = length (before_feed (drop w.session.at chunk))

    by : (f g i : Bool)
        → w.session.at
        < (turn_by
        (when f then took.Long else when g then took.More (w.session.have + k) else
        when i then took.Here k (w.session.at + k + 1) else took.Held (w.session.have + k) (w.session.at + k + 1))
        chunk (held_after chunk w.session.at w.held w.session.have) w).session.at
    by true g i = rw at_said h
    by false true i = h
    by false false true = rw at_said (omega arith)
    by false false false = rw at_said (omega arith)

-- what `goes_on` says
pub goes_on_inside : (on : Bool) (at end laid room : ℕ) → goes_on on at end laid room ≡ true → (on ≡ true) × (at < end) × (laid + longest_line ≤ room)
unfolding goes_on when◌then◌else◌
goes_on_inside on at end laid room = by₁ on
  where
    by₂ : (t : Bool) → ltb at end ≡ t → (when t then leb (laid + longest_line) room else false) ≡ true → (at < end) × (laid + longest_line ≤ room)
    by₂ true e q = (ltb-true at end e, leb-true (laid + longest_line) room q)
    by₂ false e q = absurd (let z : ◌≡◌ {A = ℕ} 0 1 = cc in omega arith)

    by₁ : (o : Bool) → (when o then (when ltb at end then leb (laid + longest_line) room else false) else false) ≡ true → (o ≡ true) × (at < end) × (laid + longest_line ≤ room)
    by₁ true q = let h = by₂ (ltb at end) refl q in (refl, h.0, h.1)
    by₁ false q = absurd (let z : ◌≡◌ {A = ℕ} 0 1 = cc in omega arith)

-- some turns, one for each byte that is left at least, lead from a desk to another
pub record Leads (chunk : List ℕ) (w v : Desk) : Type 0 where
  pub turns : ℕ
  pub enough : length chunk ≤ turns + w.session.at
  pub same : turns_of turns chunk w ≡ v

abbrev on_in : List ℕ → Desk → Bool
on_in chunk w = goes_on w.session.on w.session.at (length chunk) w.session.laid (length w.lent.out)

-- one of them is made
pub leads_on : (chunk : List ℕ) (w u v : Desk) → on_in chunk w ≡ true → u ≡ turn_of chunk w → Leads chunk w v → Leads chunk u v
unfolding turns_of when◌then◌else◌
leads_on chunk w u v e q l = subst (λ (x : Desk). Leads chunk x v) (sym q) (by l.turns l.enough l.same)
  where
    inside : w.session.at < length chunk
    inside = (goes_on_inside w.session.on w.session.at (length chunk) w.session.laid (length w.lent.out) e).1

    by : (turns : ℕ) → length chunk ≤ turns + w.session.at → turns_of turns chunk w ≡ v → Leads chunk (turn_of chunk w) v
    by zero n q = absurd (omega (arith, n, inside))
    by (suc turns) n q = record { turns = turns; enough = omega (arith, turn_uses chunk w inside, n); same = rw e at q }

-- none can be made
pub leads_end : (chunk : List ℕ) (w v : Desk) → on_in chunk w ≡ false → Leads chunk w v → w ≡ v
unfolding turns_of when◌then◌else◌
leads_end chunk w v e l = by l.turns l.same
  where
    by : (turns : ℕ) → turns_of turns chunk w ≡ v → w ≡ v
    by zero q = q
    by (suc turns) q = rw e at q

-- what is laid and a line have room, where the line has room after what is laid
pub room_left : (laid n room : ℕ) → n ≤ room → leb laid (room - n) ≡ leb (laid + n) room
room_left laid n room h = by (leb laid (room - n)) refl
  where
    by : (t : Bool) → leb laid (room - n) ≡ t → t ≡ leb (laid + n) room
    by true e = let k : laid + n ≤ room = omega (arith, leb-true laid (room - n) e) in sym (le-leb (laid + n) room k)
    by false e = let k : room < laid + n = omega (arith, leb-false laid (room - n) e) in sym (lt-leb (laid + n) room k)
