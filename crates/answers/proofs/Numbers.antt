-- An answer is made again from its number and its detail, so these tell the answers apart.
-- Assumes nothing.
use Prim.Native.Nat.{ℕ, ◌≤◌}
use mathlib.Core.Path.{◌≡◌, refl, sym, ◌∙◌}
use mathlib.Core.List.{List, [], ◌∷◌}
use mathlib.Core.Logic.{◌⊎◌, inl, inr}
use native.Mathlib.Omega.{arith}
use lib.ListN.{get_or}
use Rattle.protocol.specs.Answer.{number_of, detail_of}
use Rattle.protocol.specs.declared.error.Answer.{Answer}
use Rattle.protocol.specs.declared.error.Answer.TheVariants as answer
use Rattle.answers.specs.Rows.{OneOf, Numbers}

-- the rows from 0 on, with detail d; nothing has the numbers 12 to 14
rows : ℕ → List Answer
rows d =
    answer.Done
    ∷ answer.I2c d
    ∷ answer.Timeout
    ∷ answer.Pec
    ∷ answer.DataTooLarge
    ∷ answer.DataFlashAddressOutOfRange
    ∷ answer.PartialDataFlashWrite d
    ∷ answer.NotACommand
    ∷ answer.WrongBuffer
    ∷ answer.WrongReply
    ∷ answer.NothingOutstanding
    ∷ answer.BadLine
    ∷ answer.Done
    ∷ answer.Done
    ∷ answer.Done
    ∷ answer.RetiredKind ∷ []

answer_at : ℕ → ℕ → Answer
answer_at k d = get_or (rows d) k answer.Done

-- what the table has for each answer
abbrev InRow : Answer → Type 0
InRow a = (answer_at (number_of a) (detail_of a) ≡ a) × ((number_of a ≤ 11) ⊎ (number_of a ≡ 15)) × ((detail_of a ≡ 0) ⊎ OneOf (1 ∷ 6 ∷ []) (number_of a))

in_row : (a : Answer) → InRow a
unfolding rows answer_at
in_row answer.Done = (refl, inl (omega arith), inl refl)
in_row (answer.I2c d) = (refl, inl (omega arith), inr (inl refl))
in_row answer.Timeout = (refl, inl (omega arith), inl refl)
in_row answer.Pec = (refl, inl (omega arith), inl refl)
in_row answer.DataTooLarge = (refl, inl (omega arith), inl refl)
in_row answer.DataFlashAddressOutOfRange = (refl, inl (omega arith), inl refl)
in_row (answer.PartialDataFlashWrite d) = (refl, inl (omega arith), inr (inr (inl refl)))
in_row answer.NotACommand = (refl, inl (omega arith), inl refl)
in_row answer.WrongBuffer = (refl, inl (omega arith), inl refl)
in_row answer.WrongReply = (refl, inl (omega arith), inl refl)
in_row answer.NothingOutstanding = (refl, inl (omega arith), inl refl)
in_row answer.BadLine = (refl, inl (omega arith), inl refl)
in_row answer.RetiredKind = (refl, inr refl, inl refl)

pub numbers : Numbers
numbers = record {
  told_apart = λ a b number detail. let again : answer_at (number_of a) (detail_of a) ≡ answer_at (number_of b) (detail_of b) = rw (number, detail) in sym (in_row a).0 ∙ again ∙ (in_row b).0;
  detailed = λ a. (in_row a).2;
  rows = λ a. (in_row a).1;
  code = λ n. (refl, refl);
  committed = λ n. (refl, refl);
  none = (refl, refl);
  wrong_reply = refl;
  nothing_outstanding = refl;
  retired_kind = refl;
}
