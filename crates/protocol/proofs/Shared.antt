-- The laws of the parts that all calls share: each definition opened, with its test decided.
-- Assumes nothing.
use Prim.Native.Nat.{ℕ, ◌≤◌, ◌<◌, min}
use mathlib.Core.Path.{◌≡◌, refl, ap}
use mathlib.Core.Bool.{Bool, true, false}
use mathlib.Core.List.{List, ◌++◌}
use native.Mathlib.Omega.{arith}
use lib.ListN.{length, take, drop}
use lib.Seq.{length-take-le}
use borrow.Author.Tests.{lt-ltb, le-ltb, le-leb, lt-leb, eq-eqb, ne_eqb}
use Rattle.protocol.specs.Pick.{when◌then◌else◌}
use Rattle.protocol.specs.Common.{retries_on, TwoByteBudgets}
use Rattle.protocol.specs.Bytes.{over, block_in, stored_at, send_of}
use Rattle.protocol.specs.Frame.{sealed, laid_of, work_laid}
use Rattle.protocol.specs.Reply.{bytes_asked, checked_of, heard_of}
use Rattle.protocol.specs.Laws.{Laws}
use Rattle.protocol.specs.declared.common.Side.{Side}
use Rattle.protocol.specs.declared.common.Side.TheVariants as side
use Rattle.protocol.specs.declared.common.Config.{Config}
use Rattle.std.specs.Prelude.{Some, None, Ok, Err}
use Rattle.protocol.specs.declared.reply.Ask.{Ask}
use Rattle.protocol.specs.declared.reply.Unheard.TheVariants.{WrongLength, WrongPec}
use Rattle.protocol.proofs.WindowLaws.{by_last}

copies : (most k : ℕ) (block buffer : List ℕ) → k ≡ min most (min (length block) (length buffer)) → block_in most block buffer ≡ take k block ++ drop k buffer
unfolding block_in over
copies most k block buffer e =
    let short : k ≤ length block = omega arith in
    let size : length (take k block) ≡ k = length-take-le k block short in
    rw (← e) (ap (λ (n : ℕ). take k block ++ drop n buffer) size)

stores : (at most : ℕ) (block buffer : List ℕ) → at ≤ length buffer → stored_at at most block buffer ≡ take at buffer ++ block_in most block (drop at buffer)
unfolding stored_at when◌then◌else◌
stores at most block buffer h = rw (le-leb at (length buffer) h)

stores_none : (at most : ℕ) (block buffer : List ℕ) → length buffer < at → stored_at at most block buffer ≡ buffer
unfolding stored_at when◌then◌else◌
stores_none at most block buffer h = rw (lt-leb at (length buffer) h)

sends : (payload work : List ℕ) (n : ℕ) → (send_of payload work true n ≡ take n work) × (send_of payload work false n ≡ take n payload)
unfolding send_of when◌then◌else◌
sends payload work n = (refl, refl)

lays : (pec : Bool) (frame work : List ℕ) → length frame < length work
    → (laid_of pec frame (length work) ≡ Some (length (sealed pec frame))) × (work_laid pec frame work ≡ sealed pec frame ++ drop (length (sealed pec frame)) work)
unfolding laid_of work_laid over when◌then◌else◌
lays pec frame work h = (rw (lt-ltb (length frame) (length work) h), rw (lt-ltb (length frame) (length work) h))

no_room : (pec : Bool) (frame work : List ℕ) → length work ≤ length frame → (laid_of pec frame (length work) ≡ None) × (work_laid pec frame work ≡ work)
unfolding laid_of work_laid when◌then◌else◌
no_room pec frame work h = (rw (le-ltb (length frame) (length work) h), rw (le-ltb (length frame) (length work) h))

wrong_length : (ask : Ask) (reply : List ℕ) → (bytes_asked ask ≡ length reply → ⊥) → heard_of ask reply ≡ Err WrongLength
unfolding heard_of when◌then◌else◌
wrong_length ask reply h = rw (ne_eqb (bytes_asked ask) (length reply) h)

wrong_pec : (ask : Ask) (reply : List ℕ) → bytes_asked ask ≡ length reply → ask.pec ≡ true → checked_of ask.covered reply ≡ false → heard_of ask reply ≡ Err WrongPec
unfolding heard_of when◌then◌else◌
wrong_pec ask reply h p c = rw (eq-eqb (bytes_asked ask) (length reply) h, p, c)

good : (ask : Ask) (reply : List ℕ) → bytes_asked ask ≡ length reply → (ask.pec ≡ true → checked_of ask.covered reply ≡ true) → heard_of ask reply ≡ Ok tt
unfolding heard_of when◌then◌else◌
good ask reply h c = by ask.pec refl
  where
    by : (t : Bool) → ask.pec ≡ t → heard_of ask reply ≡ Ok tt
    by true p = rw (eq-eqb (bytes_asked ask) (length reply) h, p, c p)
    by false p = rw (eq-eqb (bytes_asked ask) (length reply) h, p)

-- each budget is that of a side
pub few_on : (config : Config) → TwoByteBudgets config → (s : Side) → retries_on config s ≤ 65535
few_on config small side.Write = small.0
few_on config small side.Read = small.1

pub laws : Laws
unfolding sealed when◌then◌else◌
laws = record {
  window_end_lem = (refl, refl);
  window_by_last = by_last;
  copies = copies;
  stores = stores;
  stores_none = stores_none;
  blocks = λ n. (omega arith, omega arith);
  sends = sends;
  seals = λ frame. (refl, refl);
  lays = lays;
  no_room = no_room;
  pairs = (refl, refl, refl, refl);
  wrong_length = wrong_length;
  wrong_pec = wrong_pec;
  good = good;
  sides = λ config. (refl, refl, refl, refl);
}
