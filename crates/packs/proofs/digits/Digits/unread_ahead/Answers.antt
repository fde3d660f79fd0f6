-- `packs::digits::Digits::unread_ahead` meets its contract: each arm is a case of `unread_ahead`.
-- Assumes nothing.
use Prim.Native.Nat.{◌+◌}
use mathlib.Core.Path.{◌≡◌}
use native.Mathlib.Omega.{arith}
use Rattle.packs.proofs.Cases.{cases}
use Rattle.packs.proofs.Laws.{up_is_none, same_answer}
use Rattle.packs.specs.Ahead.{pair_at, unread_ahead}
use Rattle.packs.proofs.digits.Digits.unread_ahead.Goals as goal

pub returns-then-chunk-at-ne10 : goal.returns-then-chunk-at-ne10
unfolding unread_ahead
returns-then-chunk-at-ne10 c = search cases

pub returns-in_err-answer : goal.returns-in_err-answer
unfolding unread_ahead
returns-in_err-answer c =
    let none = up_is_none _ _ _ c.pair.ensures c.in_err-answer.was in
    let some : pair_at c.args.chunk.now (c.args.at + 2) ≡ 0 → ⊥ = λ e. absurd (omega arith) in
    search cases

pub returns : goal.returns
unfolding unread_ahead
returns c = let answer = c.in_ok-answer.was in search (cases, same_answer)
