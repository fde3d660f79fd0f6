-- What holds of all answers, row by row of the table: proofs above cite it, and go through no rows of their own.
-- Assumes nothing.
use mathlib.Core.Path.{◌≡◌, refl}
use native.Mathlib.Omega.{arith}
use Rattle.protocol.specs.Answer.{number_of}
use Rattle.protocol.specs.declared.error.Answer.{Answer}
use Rattle.protocol.specs.declared.error.Answer.TheVariants as answer

-- the answer of number 0 is that the call ended well
pub done_only : (a : Answer) → number_of a ≡ 0 → a ≡ answer.Done
done_only answer.Done e = refl
done_only (answer.I2c code) e = absurd (omega arith)
done_only answer.Timeout e = absurd (omega arith)
done_only answer.Pec e = absurd (omega arith)
done_only answer.DataTooLarge e = absurd (omega arith)
done_only answer.DataFlashAddressOutOfRange e = absurd (omega arith)
done_only (answer.PartialDataFlashWrite n) e = absurd (omega arith)
done_only answer.NotACommand e = absurd (omega arith)
done_only answer.WrongBuffer e = absurd (omega arith)
done_only answer.WrongReply e = absurd (omega arith)
done_only answer.NothingOutstanding e = absurd (omega arith)
done_only answer.BadLine e = absurd (omega arith)
done_only answer.RetiredKind e = absurd (omega arith)
