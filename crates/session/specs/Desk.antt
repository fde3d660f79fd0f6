-- What the program has before it: a session, and the arrays that are lent to it. (01, The bench program)
-- Assumes nothing.
use Rattle.std.specs.Prelude.{ℕ, ◌+◌, ◌*◌, ◌≡◌, List, length}
use Rattle.requests.specs.Request.{longest_request}
use Rattle.printing.specs.Printing.{longest_said}
use Rattle.session.specs.declared.Session.{Session}
use Rattle.session.specs.declared.Desk.{Desk}

-- a session and the bytes that are lent to it
abbrev pub desk : Session → List ℕ → List ℕ → List ℕ → List ℕ → List ℕ → Desk
desk s held request outcome buffer out =
    record { session = s; held = held; lent = record { request = request; outcome = outcome; buffer = buffer; out = out } }

-- the digits of the longest line that is valid, a request's
abbrev pub held_bytes : ℕ
held_bytes = longest_request * 2

-- the longest line that is printed, as digits, and its line feed
abbrev pub longest_line : ℕ
longest_line = longest_said * 2 + 1

-- where lines are gathered
abbrev pub out_bytes : ℕ
out_bytes = 65536

-- the sizes of what is lent, which the types of a desk's arrays have
pub record Sized (d : Desk) : Type 0 where
  pub held : length d.held ≡ held_bytes
  pub request : length d.lent.request ≡ longest_request
  pub outcome : length d.lent.outcome ≡ 8193
  pub buffer : length d.lent.buffer ≡ 8192
  pub out : length d.lent.out ≡ out_bytes
