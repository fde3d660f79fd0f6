-- No call gives 15: at its start and at a report its answer is one of the rows of `answers`, and what it shows is its answer, or 8.
-- Assumes nothing.
use Rattle.engine.specs.Bus.{Reported}
use Rattle.std.specs.Prelude.{Err, Ok}
use Prim.Native.Nat.{ℕ}
use mathlib.Core.Path.{◌≡◌, refl, sym, subst, ◌∙◌}
use mathlib.Core.List.{List, [], ◌∷◌}
use mathlib.Core.Logic.{inl, inr}
use native.Mathlib.Omega.{arith}
use lib.ListN.{length, replicate, length-replicate}
use Rattle.protocol.specs.Answer.{number_of, detail_of}
use Rattle.engine.specs.Limit.{admitted}
use Rattle.engine.specs.declared.bus.Lent.{Lent}
use Rattle.engine.specs.declared.bus.Outcome.{Outcome}
use Rattle.engine.specs.declared.bus.Phase.{Phase}
use Rattle.engine.specs.declared.bus.Phase.TheVariants as phase
use Rattle.engine.specs.declared.bus.Transfer.{Transfer}
use Rattle.engine.specs.declared.bus.Transfer.TheVariants as transfer
use Rattle.engine.specs.declared.limit.Limit.{Limit}
use Rattle.writing.specs.Writing as writing
use Rattle.writing.specs.declared.call.WriteCall.{WriteCall}
use Rattle.reading.specs.Reading as reading
use Rattle.reading.specs.declared.call.ReadCall.{ReadCall}
use Rattle.calls.specs.Kind.{plan_of}
use Rattle.calls.specs.Call.{start_with, start_of, next_of, wrote_of, got_of, report_of, phase_of}
use Rattle.calls.specs.declared.kind.Plan.{Plan}
use Rattle.calls.specs.declared.kind.Plan.TheVariants as plan
use Rattle.calls.specs.declared.call.Call.{Call}
use Rattle.calls.specs.declared.call.Call.TheVariants as call
use Rattle.answers.specs.Rows.{OneOf, Says, Among, SortW, SortR, Starts, nothing_to_do, too_large, large_input, large_output, below, beyond, input_given, wrong_size, short_work}
use Rattle.answers.specs.Steps.{Shown}
use Rattle.answers.proofs.Start.{starts}
use Rattle.answers.proofs.Calls.{starts_as}
use Rattle.answers.proofs.Sorts.{sort_w, shows_w, sort_r, shows_r}
use Rattle.bench_promises.specs.Retired.{Not15, NotReported15, NotShown15, NoCall}

-- none of these numbers is 15
abbrev Apart : List ℕ → Type 0
Apart [] = Unit {0}
Apart (j ∷ js) = (j ≡ 15 → ⊥) × Apart js

apart : (ks : List ℕ) → Apart ks → (k : ℕ) → OneOf ks k → k ≡ 15 → ⊥
apart [] none k o e = o
apart (j ∷ js) (this, more) k (inl f) e = this (sym f ∙ e)
apart (j ∷ js) (this, more) k (inr o) e = apart js more k o e

refusals : Apart (8 ∷ 9 ∷ 10 ∷ [])
refusals = ((λ e. omega arith), ((λ e. omega arith), ((λ e. omega arith), tt)))

ends_w : Apart (0 ∷ 1 ∷ 2 ∷ 6 ∷ [])
ends_w = ((λ e. omega arith), ((λ e. omega arith), ((λ e. omega arith), ((λ e. omega arith), tt))))

ends_r : Apart (0 ∷ 1 ∷ 2 ∷ 3 ∷ [])
ends_r = ((λ e. omega arith), ((λ e. omega arith), ((λ e. omega arith), ((λ e. omega arith), tt))))

among : (ks : List ℕ) → Apart ks → (p : Phase) → Among ks p → Not15 p
among ks none phase.Waiting h = tt
among ks none (phase.Ended a) h = apart ks none (number_of a) h

-- ---- at the start

no_row : {start n w k d : ℕ} {l : Limit} → Starts start n w l k d → k ≡ 15 → ⊥
no_row (nothing_to_do x y) e = omega arith
no_row (too_large most x y) e = omega arith
no_row (large_input input x y) e = omega arith
no_row (large_output input x y) e = omega arith
no_row (below x y z) e = omega arith
no_row (beyond x y z) e = omega arith
no_row (input_given input x y z u) e = omega arith
no_row (wrong_size size x y) e = omega arith
no_row (short_work l x) e = omega arith

not_admitted : (l : Limit) (start n w : ℕ) → Not15 (admitted l start n w)
not_admitted l start n w = by (admitted l start n w) (λ k d. (starts l start n w k d).0)
  where
    by : (p : Phase) → ((k d : ℕ) → Says k d p → Starts start n w l k d) → Not15 p
    by phase.Waiting row = tt
    by (phase.Ended a) row = no_row (row (number_of a) (detail_of a) (refl, refl))

not_started : (plan : Plan) (p n w : ℕ) → Not15 (phase_of (start_with plan p n w))
unfolding start_with phase_of
not_started (plan.Write plan) p n w = rw (starts_as.writing plan p w).phase (not_admitted _ _ p w)
not_started (plan.Read plan) p n w = rw (starts_as.reading plan n w).phase (not_admitted _ _ n w)

-- ---- at a report

not_written : (c : WriteCall) (u : Reported WriteCall) → SortW c u → Not15 c.phase → NotReported15 (wrote_of u)
unfolding wrote_of phase_of
not_written c (Err (a, same)) (k, e) h = (apart (8 ∷ 9 ∷ 10 ∷ []) refusals (number_of a) k, rw e h)
not_written c (Ok next) (w, ends) h = among (0 ∷ 1 ∷ 2 ∷ 6 ∷ []) ends_w next.phase ends

not_got : (c : ReadCall) (before after : List ℕ) (u : Reported ReadCall) → SortR c before after u → Not15 c.phase → NotReported15 (got_of u)
unfolding got_of phase_of
not_got c before after (Err (a, same)) (k, e, kept) h = (apart (8 ∷ 9 ∷ 10 ∷ []) refusals (number_of a) k, rw e h)
not_got c before after (Ok next) (w, ends, kept) h = among (0 ∷ 1 ∷ 2 ∷ 3 ∷ []) ends_r next.phase ends

not_reported : (c : Call) → Not15 (phase_of c) → (o : Outcome) (reply : List ℕ) (p n w : ℕ) → NotReported15 (report_of c o reply p n w)
unfolding report_of phase_of
not_reported (call.Write c) h o reply p n w = not_written c (writing.report_of c o (length reply) p w) (sort_w c o (length reply) p w) h
not_reported (call.Read c) h o reply p n w =
    subst (λ (k : ℕ). NotReported15 (got_of (reading.report_of c o reply k w))) (length-replicate n 0)
    (not_got c (replicate n 0) _ (reading.report_of c o reply (length (replicate n 0)) w) (sort_r c o reply (replicate n 0) w) h)

-- ---- shown

-- what is shown is the answer that the call has, or 8
not_told : (framed : Type 0) (asks : ℕ → ℕ → Type 0) (p : Phase) (lent : Lent) (n w : ℕ) (before after : List ℕ) (t : Transfer)
    → Shown framed asks p lent n w before after t → Not15 p → NotShown15 t
not_told framed asks p lent n w before after (transfer.Write k) s h = tt
not_told framed asks p lent n w before after (transfer.Read command k) s h = tt
not_told framed asks p lent n w before after (transfer.Refused a) s h = λ e. omega (arith, s.1)
not_told framed asks p lent n w before after (transfer.Ended a) s h = rw s.0 at h

not_shown : (c : Call) → Not15 (phase_of c) → (payload : List ℕ) (n w : ℕ) → NotShown15 (next_of c payload n w)
unfolding next_of phase_of
not_shown (call.Write c) h payload n w =
    subst (λ (k : ℕ). NotShown15 (writing.next_of c payload k)) (length-replicate w 0)
    (not_told _ _ _ _ _ _ _ _ (writing.next_of c payload (length (replicate w 0))) (shows_w c payload (replicate w 0)) h)
not_shown (call.Read c) h payload n w =
    subst (λ (k : ℕ). NotShown15 (reading.next_of c n k)) (length-replicate w 0)
    (not_told _ _ _ _ _ _ _ _ (reading.next_of c n (length (replicate w 0))) (shows_r c n (replicate w 0)) h)

pub no_call : NoCall
unfolding start_of
no_call = record { starts = λ kind config p n w. not_started (plan_of kind config p n) p n w; reports = not_reported; shows = not_shown }
