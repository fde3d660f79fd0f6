-- The rounds of the program are those of `session`.
-- Assumes nothing.
use Prim.Native.Nat.{ℕ, suc, ◌+◌, ◌≤◌, ◌<◌}
use mathlib.Core.Path.{◌≡◌, refl, sym, ap, subst}
use mathlib.Core.Bool.{true, false}
use mathlib.Core.List.{List, []}
use native.Mathlib.Omega.{arith}
use lib.ListN.{length, take, length-take}
use Rattle.session.specs.declared.Session.{Session}
use Rattle.session.specs.declared.Desk.{Desk}
use Rattle.session.specs.Session.{start_of, at_byte, take_of, end_of}
use Rattle.session.specs.Loop.{Fresh, desk_at, answers, refills, ends, OneRound, Standing}
use Rattle.session.proofs.Loop.{stands_first, stands_on, stands_put}
use Rattle.bench.specs.declared.Ending.TheVariants as ending
use Rattle.bench.specs.Ending.{Stopped}

module _ (chunk : List ℕ) (n : ℕ) (d : Desk) where
  -- lines of the chunk
  pub answers_round : (v : Desk) → n ≤ length chunk → d.session.at < n → v ≡ take_of (take n chunk) d → OneRound (take n chunk) d (take n chunk) v
  answers_round v fits inside e =
      subst (OneRound (take n chunk) d (take n chunk)) (sym e) (record { more = []; end = false; round = answers (rw length-take (omega arith)) })

  -- the next chunk
  pub refills_round : (next : List ℕ) (k : ℕ) (v : Desk) → n ≤ d.session.at → 0 < k → k ≤ length next → v ≡ desk_at 0 d → OneRound (take n chunk) d (take k next) v
  refills_round next k v used some fits e =
      rw e (record { more = take k next; end = false; round = refills (take k next) (rw length-take (omega arith)) (rw length-take (omega arith)) })

  -- the end of the input
  pub ends_round : (next : List ℕ) (v : Desk) → n ≤ d.session.at → v ≡ end_of d → OneRound (take n chunk) d (take 0 next) v
  ends_round next v used e = rw e (record { more = []; end = true; round = ends (rw length-take (omega arith)) })

-- the program at the head of its loop: the rounds that are made are rounds of `session`, and all that was laid is written
pub record Going (first : Desk) (made : ℕ) (chunk : List ℕ) (d : Desk) : Type 0 where
  pub fresh : Fresh first
  pub standing : Standing first made chunk d
  pub clear : d.session.laid ≡ 0

pub going_first : (chunk : List ℕ) (first : Desk) → Fresh first → Going first 0 (take 0 chunk) first
unfolding start_of
going_first chunk first fresh = record { fresh = fresh; standing = stands_first first; clear = ap (λ (s : Session). s.laid) fresh.start }

module _ (first : Desk) (made : ℕ) (chunk : List ℕ) (d : Desk) (g : Going first made chunk d) (on : d.session.on ≡ true)
    (next : List ℕ) (v : Desk) (m : OneRound chunk d next v) where
  further : Standing first (suc made) next v
  further = stands_on first made chunk next d v g.standing (record { on = on; clear = g.clear }) m

  -- a write fails after the round
  pub stopped_unwritten : (left : ℕ) (x : Desk) → made + 1 + left ≡ 18446744073709551615 → x ≡ v → Stopped record { ending = ending.Unwritten; left = left } first x
  stopped_unwritten left x all e =
      rw e (record { fresh = g.fresh; rounds = suc made; chunk = next; counted = omega arith; standing = further; how = tt })

  -- all is written after it
  pub goes_on : (x : Desk) → x ≡ desk_at v.session.at v → Going first (made + 1) next x
  unfolding desk_at at_byte
  goes_on x e = rw e (record {
    fresh = g.fresh;
    standing = subst (λ (rounds : ℕ). Standing first rounds next (desk_at v.session.at v)) (omega arith) (stands_put first (suc made) next v further);
    clear = refl;
  })
