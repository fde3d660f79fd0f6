-- A transfer, put together from what the gauge made of it and what the call heard.
-- Assumes nothing.
use Prim.Native.Nat.{ℕ}
use mathlib.Core.Path.{◌≡◌, ◌∙◌}
use mathlib.Core.List.{List}
use lib.ListN.{length, take}
use Rattle.protocol.specs.Bytes.{block_in}
use Rattle.engine.specs.Made.{read}
use Rattle.calls.specs.Call.{report_of, buffer_after}
use Rattle.model_gauge.specs.Gauge.{Effect, effect_of, handed_back}
use Rattle.model_gauge.specs.declared.gauge.Effect as handed
use Rattle.model_gauge.specs.declared.gauge.Fate.{Fate}
use Rattle.model_gauge.specs.declared.gauge.Gauge.{Gauge}
use Rattle.model_gauge.proofs.Laws.{read_back}
use Rattle.courses.specs.Run.{world, taken_of, heard_in}
use Rattle.courses.specs.declared.run.Link.{Link}

-- the call hears what is handed back of an effect, beside the lent bytes
pub hears : (p : ℕ) (e : Effect) (h : handed.Effect) (link r : Link) (buffer work flash reply b f : List ℕ) → h ≡ handed_back e → reply ≡ e.reply → f ≡ e.flash
    → r ≡ record { call = taken_of (report_of link.call h.outcome reply p (length buffer) (length work)); gauge = h.gauge }
    → b ≡ buffer_after link.call h.outcome reply buffer (length work) → world r b work f ≡ heard_in p e (world link buffer work flash)
unfolding heard_in
hears p e h link r buffer work flash reply b f is brought stored q s = rw (q, s, stored, is, brought)

-- the front of what was lent is the reply
pub brings : (f : Fate) (command count : ℕ) (gauge : Gauge) (flash lent lent' reply : List ℕ) (h : handed.Effect) → h ≡ handed_back (effect_of f (read command count) gauge flash)
    → length lent ≡ 36 → lent' ≡ block_in 36 (effect_of f (read command count) gauge flash).reply lent → reply ≡ take h.replied lent'
    → reply ≡ (effect_of f (read command count) gauge flash).reply
brings f command count gauge flash lent lent' reply h is long laid cut = cut ∙ rw (is, laid) (read_back command count gauge flash f lent long)
