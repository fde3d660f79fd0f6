-- What the calls share: how a length is measured, and what follows a call.
-- Assumes nothing.
use Prim.Native.Nat.{ℕ, ◌+◌, ◌-◌, ◌≤◌, ◌<◌}
use mathlib.Core.Path.{◌≡◌, refl, ap}
use mathlib.Core.Bool.{Bool}
use mathlib.Core.List.{List}
use native.Mathlib.Omega.{arith}
use lib.ListN.{length}
use borrow.Author.Tests.{le-ltb}
use Rattle.protocol.specs.Pick.{when◌then◌else◌}
use Rattle.protocol.specs.Frame.{fixed_pair}
use Rattle.protocol.specs.declared.error.Answer.{Answer}
use Rattle.protocol.specs.declared.frame.MacCommand.{MacCommand}
use Rattle.protocol.specs.declared.frame.MacCommand.TheVariants as mac
use Rattle.engine.specs.Budget.{wait_of, waited}
use Rattle.engine.specs.Limit.{measured, admitted}
use Rattle.engine.specs.declared.budget.Tally.{Tally}
use Rattle.engine.specs.declared.limit.Limit.{Limit}
use Rattle.original.specs.Bus.{BusOutcome, Log, Came, Ok, Err, Waiting, settle}

-- the work buffer is large enough, so that the length decides
pub measure : (l : Limit) (start n w : ℕ) → 39 ≤ w → admitted l start n w ≡ measured l start n
unfolding admitted when◌then◌else◌
measure l start n w h = rw (le-ltb w 39 h)

-- what a call has counted once a failed attempt is to be retried, of a budget of r retries with so many left
abbrev pub missed : (growing : Bool) (r left : ℕ) → Tally → Tally
missed growing r left tally = waited tally (wait_of growing (r - left))

-- a wait is one more, however long it is
pub one_wait : (growing : Bool) (r left : ℕ) (tally : Tally) → tally.waits < 4294967295 → (missed growing r left tally).waits ≡ tally.waits + 1
unfolding waited
one_wait growing r left tally h = omega arith

-- a fixed pair is two bytes
pub fixed_pair_lem : (command : MacCommand) → length (fixed_pair command) ≡ 2
fixed_pair_lem mac.SecurityKeys = refl
fixed_pair_lem mac.AuthenticationKey = refl
fixed_pair_lem mac.ChargingVoltageOverride = refl
fixed_pair_lem mac.MfgInfoC = refl

-- what follows may be put for what it equals
pub settle_by : (f g : Log → List BusOutcome → Came) (why : Answer → Answer) → ((log : Log) (outcomes : List BusOutcome) → f log outcomes ≡ g log outcomes) → (x : Came) → settle f why x ≡ settle g why x
unfolding settle
settle_by f g why h (Ok log outcomes) = h log outcomes
settle_by f g why h (Err e log outcomes) = refl
settle_by f g why h (Waiting log) = refl

-- so may what it follows
pub settle_of : (f : Log → List BusOutcome → Came) (why : Answer → Answer) {x y : Came} → x ≡ y → settle f why x ≡ settle f why y
settle_of f why e = ap (settle f why) e

-- one thing after another, however they are bracketed
pub settle_settle : (f g : Log → List BusOutcome → Came) (x : Came) → settle (λ log outcomes. settle g (λ e. e) (f log outcomes)) (λ e. e) x ≡ settle g (λ e. e) (settle f (λ e. e) x)
unfolding settle
settle_settle f g (Ok log outcomes) = refl
settle_settle f g (Err e log outcomes) = refl
settle_settle f g (Waiting log) = refl

-- nothing follows
pub settle_last : (x : Came) → settle (λ log outcomes. Ok log outcomes) (λ e. e) x ≡ x
unfolding settle
settle_last (Ok log outcomes) = refl
settle_last (Err e log outcomes) = refl
settle_last (Waiting log) = refl
