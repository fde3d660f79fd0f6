-- The bench program without its reads and writes, turn by turn. (01, The bench program)
-- Assumes nothing.
use Rattle.std.specs.Prelude.{ℕ, zero, suc, ◌+◌, ◌-◌, Bool, true, false, List, ◌++◌, length, take, drop, ltb, leb}
use Rattle.protocol.specs.Pick.{when◌then◌else◌}
use Rattle.lines.specs.Lines.{took_of, held_after}
use Rattle.lines.specs.declared.Took.{Took}
use Rattle.lines.specs.declared.Took.TheVariants as took
use Rattle.printing.specs.Printing.{out_printed}
use Rattle.dialogue.specs.Dialogue.{last, bytes_said, said_of, Spoken, answer_of, request_after, outcome_after, buffer_after, close_of}
use Rattle.dialogue.specs.declared.Run.{Run}
use Rattle.dialogue.specs.declared.Run.TheVariants as run
use Rattle.dialogue.specs.declared.Said.{Said}
use Rattle.dialogue.specs.declared.Said.TheVariants as said
use Rattle.session.specs.declared.Session.{Session}
use Rattle.session.specs.declared.Lent.{Lent}
use Rattle.session.specs.declared.Desk.{Desk}
use Rattle.session.specs.Desk.{longest_line}

-- nothing read yet
unfoldable pub start_of : Session
start_of = record { run = run.Fresh; have = 0; at = 0; laid = 0; on = true }

-- at a byte of its chunk, with nothing laid
unfoldable pub at_byte : Session → ℕ → Session
at_byte s at = record s { at = at; laid = 0 }

-- a chunk of n bytes that is used up, with so many bytes laid
unfoldable pub used_up : Run → ℕ → ℕ → ℕ → Session
used_up r have n laid = record { run = r; have = have; at = n; laid = laid; on = true }

-- after a transfer the run goes on, after the last line it does not
unfoldable pub said_session : Said → Run → ℕ → ℕ → Session
said_session (said.Asked n) r at laid = record { run = r; have = 0; at = at; laid = laid + n; on = true }
said_session (said.Last n) r at laid = record { run = r; have = 0; at = at; laid = laid + n; on = false }

-- the line that is spoken, after the bytes that are laid, where there is room for n in all
unfoldable pub spoken_session : Spoken → ℕ → ℕ → ℕ → Session
spoken_session s at laid n = said_session (said_of s.saying (n - laid)) s.run at laid

unfoldable pub laid_out : Spoken → ℕ → List ℕ → List ℕ
laid_out s laid out = take laid out ++ out_printed (bytes_said s.saying) (drop laid out)

-- the last line, after these bytes of a line: the run stays as it was
unfoldable pub closing : Run → List ℕ → List ℕ → Spoken
closing r line buffer = record { run = r; saying = last (close_of r line buffer) }

-- a whole line is answered after what is laid, and the chunk goes on at `at`: the session, and what is lent
unfoldable pub answer_session : Session → List ℕ → ℕ → Lent → Session
answer_session s line at l = spoken_session (answer_of s.run line l.request l.outcome l.buffer) at s.laid (length l.out)

unfoldable pub answer_lent : Session → List ℕ → Lent → Lent
answer_lent s line l = record {
  request = request_after s.run line l.request;
  outcome = outcome_after s.run line l.outcome;
  buffer = buffer_after s.run line l.request l.outcome l.buffer;
  out = laid_out (answer_of s.run line l.request l.outcome l.buffer) s.laid l.out;
}

unfoldable pub line_of : List ℕ → ℕ → List ℕ → Desk → Desk
line_of line at held d = record { session = answer_session d.session line at d.lent; held = held; lent = answer_lent d.session line d.lent }

-- the last line is laid after what is laid: the session, and what is lent
unfoldable pub close_session : Session → List ℕ → ℕ → Lent → Session
close_session s line at l = spoken_session (closing s.run line l.buffer) at s.laid (length l.out)

unfoldable pub close_lent : Session → List ℕ → Lent → Lent
close_lent s line l = record l { out = laid_out (closing s.run line l.buffer) s.laid l.out }

unfoldable pub close_desk : List ℕ → ℕ → List ℕ → Desk → Desk
close_desk line at held d = record { session = close_session d.session line at d.lent; held = held; lent = close_lent d.session line d.lent }

-- what a turn comes to, by what the chunk brought
unfoldable pub turn_by : Took → List ℕ → List ℕ → Desk → Desk
turn_by (took.Here len next) chunk held d = line_of (take len (drop d.session.at chunk)) next held d
turn_by (took.Held len next) chunk held d = line_of (take len held) next held d
turn_by (took.More have) chunk held d =
    record d { session = used_up d.session.run have (length chunk) d.session.laid; held = held }
turn_by took.Long chunk held d = close_desk held (length chunk) held d

-- one turn of a chunk
unfoldable pub turn_of : List ℕ → Desk → Desk
turn_of chunk d =
    turn_by (took_of chunk d.session.at (length d.held) d.session.have) chunk (held_after chunk d.session.at d.held d.session.have) d

-- whether another turn can be made: the run goes on, the chunk lasts, and the longest line has room after what is laid
unfoldable pub goes_on : Bool → ℕ → ℕ → ℕ → ℕ → Bool
goes_on on at end laid room = when on then (when ltb at end then leb (laid + longest_line) room else false) else false

-- turn after turn
unfoldable pub turns_of : ℕ → List ℕ → Desk → Desk
turns_of zero chunk d = d
turns_of (suc turns) chunk d =
    when goes_on d.session.on d.session.at (length chunk) d.session.laid (length d.lent.out) then turns_of turns chunk (turn_of chunk d) else d

-- the lines of a chunk, once what was laid before is written; a turn for each byte is enough
unfoldable pub take_of : List ℕ → Desk → Desk
take_of chunk d =
    turns_of (length chunk) chunk (record d { session = at_byte d.session d.session.at })

-- the input has ended: a last line, unless the run is over
unfoldable pub end_session : Session → List ℕ → List ℕ → ℕ → Session
end_session s held buffer n = when s.on then spoken_session (closing s.run (take s.have held) buffer) s.at 0 n else at_byte s s.at

unfoldable pub end_out : Session → List ℕ → List ℕ → List ℕ → List ℕ
end_out s held buffer out = when s.on then laid_out (closing s.run (take s.have held) buffer) 0 out else out

unfoldable pub end_of : Desk → Desk
end_of d =
    record d {
      session = end_session d.session d.held d.lent.buffer (length d.lent.out);
      lent = record d.lent { out = end_out d.session d.held d.lent.buffer d.lent.out };
    }
