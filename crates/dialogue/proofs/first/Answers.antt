-- `dialogue::first` meets its contract: a retired kind is refused, any other line is decoded and its bytes begin a run.
-- Assumes nothing.
use mathlib.Core.Path.{◌≡◌, refl, sym, ◌∙◌}
use mathlib.Core.Bool.{true, false}
use Rattle.protocol.specs.Pick.{when◌then◌else◌}
use Rattle.requests.specs.Retired.{retired_kind}
use Rattle.dialogue.specs.Dialogue.{first_of, first_request, first_buffer}
use Rattle.dialogue.proofs.Laws.{bytes_in_lem}
use Rattle.dialogue.proofs.first.Goals as goal

pub returns-then-retired_kind : goal.returns-then-retired_kind
unfolding first_of first_request first_buffer when◌then◌else◌
returns-then-retired_kind c =
    let line = c.args.line.now in
    let retired : retired_kind line ≡ true = sym c.retired_kind.ensures ∙ c.if-retired_kind.true in
    let e = c.refuse.ensures in
    rw retired (e.0, refl, refl, e.1)

pub returns : goal.returns
unfolding first_of first_request first_buffer when◌then◌else◌
returns c =
    let line = c.args.line.now in
    let kept : retired_kind line ≡ false = sym c.retired_kind.ensures ∙ c.if-retired_kind.false in
    let d = c.decode-n.ensures in
    let f = bytes_in_lem _ _ _ _ _ d.0 d.1 c.front.ensures in
    let b = c.begin.ensures in
    rw (kept, ← f) (b.0, d.1, b.1, b.2)
