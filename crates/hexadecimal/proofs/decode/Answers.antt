-- `hexadecimal::decode` meets its contract: the loop keeps the bytes of the pairs passed at the front.
-- Assumes nothing.
use Prim.Native.Nat.{ℕ, ◌+◌, ◌/◌, ◌≤◌, ◌<◌}
use mathlib.Core.Path.{◌≡◌, sym, ap, ◌∙◌}
use mathlib.Core.List.{List, [], ◌++◌, append-nil}
use native.Mathlib.Omega.{arith}
use lib.ListN.{length, take, drop}
use lib.Seq.{drop-set-lt}
use Rattle.std.proofs.lemmas.Result.{err_from_is_err_and}
use Rattle.std.proofs.lemmas.List.{nil_from_length}
use Rattle.hexadecimal.proofs.Cases.{cases}
use Rattle.std.specs.Prelude.{None, Err}
use Rattle.hexadecimal.specs.declared.DecodeError.TheVariants as error
use Rattle.hexadecimal.specs.Hex.{bytes_of, decoded_of, out_decoded}
use Rattle.hexadecimal.proofs.Laws.{drop_more, bytes_none, two_more, decode_turn, decode_stop, bad_pair}
use Rattle.hexadecimal.proofs.decode.Goals as goal

pub returns-then-digits-eq1 : goal.returns-then-digits-eq1
unfolding decoded_of out_decoded
returns-then-digits-eq1 c = search cases

pub returns-then-out-n : goal.returns-then-out-n
unfolding decoded_of out_decoded
returns-then-out-n c = search cases

pub returns-in_err-out : goal.returns-in_err-out
unfolding decoded_of out_decoded
returns-in_err-out c =
    let l = c.loop-i in
    let a = c.args in
    let s : List ℕ = a.digits.now in
    let i : ℕ = l.i-iterator.count in
    let rest : List ℕ = l.i-iterator.iter.rest.now in
    let step = c.in-Some.ensures.steps.0.1 in
    let none : c.pair.result ≡ None = c.in_err-out.ensures.ok_part in
    let bad : bytes_of rest ≡ [] = ap bytes_of step.0 ∙ bad_pair _ _ (step.1 ∙ l.invariant.0) (sym c.pair.ensures ∙ none) in
    let front : bytes_of s ≡ take i l.out = l.invariant.2 ∙ rw bad (append-nil _) in
    let laid = decode_stop s l.out a.out.now i (omega arith) front l.invariant.3 in
    let short : length (bytes_of s) < length s / 2 = omega (arith, laid.0, two_more _ _ _ step.0 (step.1 ∙ l.invariant.0)) in
    let left : l.out ≡ bytes_of s ++ drop (length (bytes_of s)) a.out.now = laid.1 in
    let from = err_from_is_err_and c.from_residual.result c.from_residual.ensures.1 in
    let said : c.from_residual.result ≡ Err error.Bad = from.1 ∙ ap Err from.2 ∙ c.in_err-out.ensures.value ∙ rw none in
    search cases

pub loop-i-preserved : goal.loop-i-preserved
loop-i-preserved c =
    let l = c.loop-i in
    let a = c.args in
    let step = c.in-Some.ensures.steps in
    let i : ℕ = l.i-iterator.count in
    let b : ℕ = c.in_ok-out.field-0 in
    let two : length c.in-Some.two.now ≡ 2 = step.0.1.1 ∙ l.invariant.0 in
    let byte = sym c.pair.ensures ∙ c.in_ok-out.ensures.ok_part in
    let left : length l.i-iterator.iter.rest.now ≡ 2 + length c.next.new.self.iter.rest.now = two_more _ _ _ step.0.1.0 two in
    let room : i < length l.out = omega arith in (
      step.0.0 ∙ l.invariant.0,
      omega arith,
      rw (step.2, step.1) (decode_turn a.digits.now c.in-Some.two.now l.i-iterator.iter.rest.now _ l.out i b step.0.1.0 two room byte l.invariant.2),
      rw (step.2, step.1) (drop-set-lt (i + 1) l.out i b (omega arith) ∙ drop_more l.out a.out.now i l.invariant.3),
    )

pub returns : goal.returns
unfolding decoded_of out_decoded
returns c =
    let l = c.loop-i in
    let a = c.args in
    let s : List ℕ = a.digits.now in
    let i : ℕ = l.i-iterator.count in
    let rest : List ℕ = l.i-iterator.iter.rest.now in
    let step = c.in-None.ensures.steps.0.1 in
    let end : length rest ≡ 0 = omega arith in
    let front : bytes_of s ≡ take i l.out = l.invariant.2 ∙ rw (nil_from_length rest end, bytes_none) (append-nil _) in
    let laid = decode_stop s l.out a.out.now i (omega arith) front l.invariant.3 in
    let whole : length s / 2 ≤ length (bytes_of s) = omega (arith, laid.0) in
    let left : l.out ≡ bytes_of s ++ drop (length (bytes_of s)) a.out.now = laid.1 in
    search cases
