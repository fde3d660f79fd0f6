-- A report to any call, by the engine that carries it out; and any list of reports.
-- Assumes nothing.
use Rattle.engine.specs.Bus.{Reported}
use Rattle.std.specs.Prelude.{Err, Ok}
use Rattle.writing.specs.declared.call.WriteCall.{WriteCall}
use Rattle.reading.specs.declared.call.ReadCall.{ReadCall}
use Prim.Native.Nat.{ℕ, suc, ◌+◌, ◌≤◌, ◌<◌}
use mathlib.Core.Path.{◌≡◌}
use mathlib.Core.List.{List, [], ◌∷◌}
use native.Mathlib.Omega.{arith}
use lib.ListN.{length}
use Rattle.engine.specs.declared.bus.Outcome.{Outcome}
use Rattle.engine.specs.declared.bus.Phase.TheVariants as phase
use Rattle.writing.specs.Writing as writing
use Rattle.reading.specs.Reading as reading
use Rattle.calls.specs.Call.{wrote_of, got_of, report_of, phase_of, tally_of}
use Rattle.calls.specs.declared.call.Call.{Call}
use Rattle.calls.specs.declared.call.Call.TheVariants as call
use Rattle.ceilings.specs.Reports.{Report, came_of, call_after, taken_in, feed, accepted}
use Rattle.ceilings.specs.Ceilings.{Ceiling}
use Rattle.ceilings.proofs.Writing as writes
use Rattle.ceilings.proofs.Reading as reads

-- it has accepted k outcomes and accepts at most m more, and all waits come to v at the most
abbrev pub Sound : (k m v : ℕ) → Call → Type 0
Sound k m v (call.Write c) = writes.Sound k m v c
Sound k m v (call.Read c) = reads.Sound k m v c

-- an outcome that is taken is one more, and one fewer can come
abbrev pub Sounds : (k m v : ℕ) → Reported Call → Type 0
Sounds k m v (Err (why, c)) = Sound k m v c
Sounds k m v (Ok next) = (l : ℕ) × (m ≡ suc l) × Sound (suc k) l v next

module _ (k m v : ℕ) where
  wrote_sounds : (r : Reported WriteCall) → writes.Follows k m v r → Sounds k m v (wrote_of r)
  unfolding wrote_of
  wrote_sounds (Err (why, c)) s = s
  wrote_sounds (Ok c) s = s

  got_sounds : (r : Reported ReadCall) → reads.Follows k m v r → Sounds k m v (got_of r)
  unfolding got_of
  got_sounds (Err (why, c)) s = s
  got_sounds (Ok c) s = s

  pub sounds : (c : Call) → Sound k m v c → (o : Outcome) (reply : List ℕ) (p n w : ℕ) → Sounds k m v (report_of c o reply p n w)
  unfolding report_of
  sounds (call.Write c) s o reply p n w = wrote_sounds (writing.report_of c o (length reply) p w) (writes.follows k m v c s o (length reply) p w)
  sounds (call.Read c) s o reply p n w = got_sounds (reading.report_of c o reply n w) (reads.follows k m v c s o reply n w)

  -- a call that waits has an outcome to accept
  pub waits_more : (c : Call) → Sound k m v c → phase_of c ≡ phase.Waiting → 0 < m
  unfolding phase_of
  waits_more (call.Write c) s e = let d = s.due e in omega (arith, d.enough)
  waits_more (call.Read c) s e = let d = s.due e in reads.some_enough m c d.enough

  pub counted : (c : Call) → Sound k m v c → (tally_of c).transfers ≡ k
  unfolding tally_of
  counted (call.Write c) s = s.counted
  counted (call.Read c) s = s.counted

  pub rested : (c : Call) → Sound k m v c → (tally_of c).waits ≤ v
  unfolding tally_of
  rested (call.Write c) s = s.rests
  rested (call.Read c) s = s.rests

-- ---- any list of reports

-- where a call stands that had accepted k outcomes and then accepted so many of at most m
record Ran (k m v taken : ℕ) (c : Call) : Type 0 where
  counts : (tally_of c).transfers ≡ k + taken
  highest : taken ≤ m
  ends : m ≤ taken → phase_of c ≡ phase.Waiting → ⊥
  rests : (tally_of c).waits ≤ v

-- one report before others
run_on : (es : List Report) → ((k m v : ℕ) (c : Call) → Sound k m v c → Ran k m v (accepted c es) (feed c es))
    → (k m v : ℕ) (r : Reported Call) → Sounds k m v r → Ran k m v (taken_in r + accepted (call_after r) es) (feed (call_after r) es)
run_on es rest k m v (Err (why, c)) s =
    let ran = rest k m v c s in
    record { counts = omega (arith, ran.counts); highest = omega (arith, ran.highest); ends = λ all w. ran.ends (omega (arith, all)) w; rests = ran.rests }
run_on es rest k m v (Ok next) (l, e, s) =
    let ran = rest (suc k) l v next s in
    record { counts = omega (arith, ran.counts); highest = omega (arith, ran.highest, e); ends = λ all w. ran.ends (omega (arith, all, e)) w; rests = ran.rests }

run : (es : List Report) (k m v : ℕ) (c : Call) → Sound k m v c → Ran k m v (accepted c es) (feed c es)
unfolding feed accepted
run [] k m v c s = record {
  counts = let e = counted k m v c s in omega (arith, e);
  highest = omega arith;
  ends = λ all w. let more = waits_more k m v c s w in absurd (omega (arith, all, more));
  rests = rested k m v c s;
}
run (e ∷ es) k m v c s = run_on es (run es) k m v (came_of c e) (sounds k m v c s e.outcome e.reply e.payload e.buffer e.work)

-- so a call that has accepted nothing stays below its ceiling
pub ceiling : (most waits : ℕ) (c : Call) → Sound 0 most waits c → (es : List Report) → Ceiling most waits c es
ceiling most waits c s es =
    let ran = run es 0 most waits c s in
    record { counts = omega (arith, ran.counts); highest = ran.highest; ends = ran.ends; waits_most = ran.rests }
